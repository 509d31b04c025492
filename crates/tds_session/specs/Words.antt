-- The words of the batch language: texts cut in pieces, and the numbers and names that units spell.
use Rattle.std.specs.Prelude.{ℕ, zero, suc, ◌+◌, ◌-◌, ◌*◌, ℤ, pos, negsuc, List, [], ◌∷◌, length, Bool, true, false, ◌&&◌, ◌||◌, if◌then◌else◌, nat_le, ◌==◌, Option, Some, None, option_map}
use Rattle.std.specs.List.{list_all}

-- a unit before the pieces of the rest: it is the separator, or it belongs to the first piece
abbrev pub piece_on : Bool → ℕ → List (List ℕ) → List (List ℕ)
piece_on true u ps = [] ∷ ps
piece_on false u [] = (u ∷ []) ∷ []
piece_on false u (p ∷ ps) = (u ∷ p) ∷ ps

-- a text cut at each separator: one piece more than there are separators, some perhaps empty
abbrev pub pieces : ℕ → List ℕ → List (List ℕ)
pieces separator [] = [] ∷ []
pieces separator (u ∷ us) = piece_on (u == separator) u (pieces separator us)

-- a value, if it passes a test
abbrev pub such : {A : Type 0} → (A → Bool) → Option A → Option A
such test None = None
such test (Some x) = if test x then Some x else None

-- whether a number is from low to high
abbrev pub is_within : ℕ → ℕ → ℕ → Bool
is_within low high n = nat_le low n && nat_le n high

-- whether a unit is a digit
abbrev pub is_digit : ℕ → Bool
is_digit u = is_within 48 57 u

-- whether a unit is an ASCII letter or digit
abbrev pub is_letter_or_digit : ℕ → Bool
is_letter_or_digit u = is_digit u || is_within 65 90 u || is_within 97 122 u

-- whether units are 1 to 200 letters or digits
abbrev pub is_word : List ℕ → Bool
is_word us = is_within 1 200 (length us) && list_all is_letter_or_digit us

-- whether units are digits, at least one, without a leading zero
abbrev pub is_numeral : List ℕ → Bool
is_numeral [] = false
is_numeral (u ∷ []) = is_digit u
is_numeral (u ∷ v ∷ us) = is_within 49 57 u && list_all is_digit (v ∷ us)

-- the value of digits that follow a number
abbrev pub digits_value : ℕ → List ℕ → ℕ
digits_value n [] = n
digits_value n (u ∷ us) = digits_value (n * 10 + (u - 48)) us

-- the number that units spell
abbrev pub numeral_value : List ℕ → Option ℕ
numeral_value us = if is_numeral us then Some (digits_value 0 us) else None

-- the number from low to high that units spell
abbrev pub number_within : ℕ → ℕ → List ℕ → Option ℕ
number_within low high us = such (is_within low high) (numeral_value us)

-- the number after a minus sign; there is no minus zero
abbrev pub minus : Option ℕ → Option ℤ
minus (Some (suc n)) = Some (negsuc n)
minus _ = None

-- the number that units spell, perhaps with a minus sign
abbrev pub signed_of : List ℕ → Option ℤ
signed_of [] = None
signed_of (u ∷ us) = if u == 45 then minus (numeral_value us) else option_map pos (numeral_value (u ∷ us))

-- whether a number fits 32 bits with a sign
abbrev pub fits_i32 : ℤ → Bool
fits_i32 (pos n) = nat_le n 2147483647
fits_i32 (negsuc n) = nat_le n 2147483647

-- the key that units spell: one letter from a to z
abbrev pub key_of : List ℕ → Option ℕ
key_of (u ∷ []) = such (is_within 97 122) (Some u)
key_of _ = None
