-- A text's UTF-16 units, one after the other.
use Rattle.std.proofs.Common.{◌≡◌, ℕ, List, [], ◌∷◌, ◌++◌, length, Some, None, refl, arith, inl, inr}
use Rattle.std.specs.Prelude.{IsUtf8}
use Rattle.std.specs.Str.{chars}
use Rattle.std.specs.Str.Iter.{encode_utf16_rest, encode_utf16_pending, encode_utf16_steps}
use Rattle.std.specs.declared.str.EncodeUtf16.{EncodeUtf16}
use Rattle.std.proofs.lemmas.Str.{chars_past_char, IsUtf8-past_char}
use Rattle.tds_text.specs.Fields.{units_of}

-- the units that are still to come
abbrev pub units_left : EncodeUtf16 → List ℕ
units_left s = encode_utf16_pending s ++ units_of (encode_utf16_rest s)

-- the next unit
pub next_unit : (s t : EncodeUtf16) (x : ℕ) → IsUtf8 (encode_utf16_rest s) → encode_utf16_steps s (Some x) t
    → (units_left s ≡ x ∷ units_left t) × IsUtf8 (encode_utf16_rest t)
next_unit s t x u (inl h) = (rw (h.0, h.1, h.2) refl, rw h.2 u)
next_unit s t x u (inr h) =
    let here : chars (encode_utf16_rest s) ≡ h.1.0 ∷ chars (encode_utf16_rest t) = chars_past_char (encode_utf16_rest s) (encode_utf16_rest t) h.1.0 u h.1.1 in
    (rw (h.0, here, h.1.2) refl, IsUtf8-past_char (encode_utf16_rest s) (encode_utf16_rest t) h.1.0 u h.1.1)

-- no unit is left
pub no_unit : (s t : EncodeUtf16) → encode_utf16_steps s None t → units_left s ≡ []
unfolding chars
no_unit s t h = rw h.0 (rest_of (encode_utf16_rest s) h.1)
  where
    rest_of : (bs : List ℕ) → length bs ≡ 0 → units_of bs ≡ []
    rest_of [] e = refl
    rest_of (b ∷ bs) e = absurd (omega arith)
