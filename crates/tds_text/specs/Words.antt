-- Which bytes a word of hexadecimal digits spells.
use Rattle.std.specs.Prelude.{◌≡◌, ℕ, ◌+◌, ◌*◌, ◌%◌, List, [], ◌∷◌, length, Option, Some, None, option_map}
use Rattle.std.specs.List.{AllPass}
use Rattle.hex.specs.Hex.{hex_digit_value, is_hex_digit}
use Rattle.tds_text.specs.Fields.{both}

-- A word of hexadecimal digits in either case, two for each byte.
abbrev pub IsHexWord : List ℕ → Type 0
IsHexWord word = (length word % 2 ≡ 0) × AllPass is_hex_digit word

-- The byte of two digits, if they are two.
abbrev pub byte_spelled : ℕ → ℕ → Option ℕ
byte_spelled high low = option_map (λ digits. digits.0 * 16 + digits.1) (both (hex_digit_value high) (hex_digit_value low))

-- The bytes that a word spells, if it spells any.
abbrev pub bytes_spelled : List ℕ → Option (List ℕ)
bytes_spelled [] = Some []
bytes_spelled (digit ∷ []) = None
bytes_spelled (high ∷ low ∷ digits) = option_map (λ p. p.0 ∷ p.1) (both (byte_spelled high low) (bytes_spelled digits))
