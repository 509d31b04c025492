-- How texts, numbers and lists of them stand in a report.
use Rattle.std.specs.Prelude.{ℕ, zero, suc, ◌+◌, ◌/◌, ◌%◌, List, [], ◌∷◌, ◌++◌, flat_map, Bool, ◌&&◌, not, ◌==◌, nat_le, nat_lt, if◌then◌else◌, codes}
use Rattle.std.specs.List.{join_with_byte}

-- Each line ends with a line feed.
abbrev pub line_feed : List ℕ
line_feed = 10 ∷ []

-- A hexadecimal digit, in lower case.
abbrev pub hex_digit : ℕ → ℕ
hex_digit n = if nat_lt n 10 then 48 + n else 87 + n

-- A number of 16 bits, in four hexadecimal digits.
unfoldable pub hex4 : ℕ → List ℕ
hex4 n = hex_digit (n / 4096 % 16) ∷ hex_digit (n / 256 % 16) ∷ hex_digit (n / 16 % 16) ∷ hex_digit (n % 16) ∷ []

-- A byte, in two hexadecimal digits.
unfoldable pub hex2 : ℕ → List ℕ
hex2 n = hex_digit (n / 16 % 16) ∷ hex_digit (n % 16) ∷ []

-- Whether a UTF-16 unit stands as itself: a character from space to tilde, but the backslash.
abbrev pub is_plain : ℕ → Bool
is_plain unit = nat_le 32 unit && nat_le unit 126 && not (unit == 92)

-- A unit of a text: itself, or a backslash, `u` and its four hexadecimal digits.
abbrev pub unit_text : ℕ → List ℕ
unit_text unit = if is_plain unit then unit ∷ [] else codes "\\u" ++ hex4 unit

-- A text, unit by unit.
abbrev pub shown : List ℕ → List ℕ
shown units = flat_map unit_text units

-- Items with a comma between each two.
abbrev pub with_commas : List (List ℕ) → List ℕ
with_commas items = join_with_byte 44 items

-- What stands before an item, by how many items stand before it.
abbrev pub comma_behind : ℕ → List ℕ
comma_behind zero = []
comma_behind (suc n) = codes ","
