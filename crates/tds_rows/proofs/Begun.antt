-- How a row begins, and its null bitmap.
use Rattle.std.proofs.Common.{◌≡◌, ◌∙◌, ◌≤◌, ◌<◌, ℕ, zero, suc, ◌+◌, ◌-◌, ◌/◌, ◌%◌, ◌==◌, true, false, List, [], ◌∷◌, ◌++◌, length, take, drop, get_or, refl, sym, ap, arith, append_assoc}
use Rattle.std.proofs.lemmas.List.{append-nil, drop-drop, get_or-drop, length-drop}
use Rattle.tds_wire.specs.declared.fault.WireFault.TheVariants.{UnknownToken, NoColumns}
use Rattle.tds_wire.specs.declared.shape.Shape.{Shape}
use Rattle.tds_wire.specs.Layout.{Read, Got, Short, Wrong, ◌>>=◌, bitmap}
use Rattle.tds_rows.specs.declared.place.Place.{Place}
use Rattle.tds_rows.specs.Places.{row_placed, values_placed}
use Rattle.tds_rows.proofs.Fronts.{one_got, one_short}

abbrev pub AreBytes : List ℕ → Type 0
AreBytes bytes = (i : ℕ) → get_or bytes i 0 < 256

bitmap_got : (n : ℕ) (known bytes : List ℕ) → n ≤ length bytes → AreBytes bytes → bitmap n known bytes ≡ Got (known ++ take n bytes) (drop n bytes)
unfolding bitmap
bitmap_got zero known bytes h are = ap (λ (xs : List ℕ). Got xs bytes) (sym (append-nil known))
bitmap_got (suc n) known [] h are = absurd (omega (arith, h))
bitmap_got (suc n) known (b ∷ bytes) h are =
    let few : b < 256 = are 0 in
    let e : b % 256 ≡ b = omega (arith, few) in
    rw e (bitmap_got n (known ++ b ∷ []) bytes (omega (arith, h)) (λ i. are (suc i)) ∙ ap (λ (xs : List ℕ). Got xs (drop n bytes)) (append_assoc known (b ∷ []) (take n bytes)))

bitmap_short : (n : ℕ) (known bytes : List ℕ) → length bytes < n → bitmap n known bytes ≡ Short
unfolding bitmap
bitmap_short zero known bytes h = absurd (omega (arith, h))
bitmap_short (suc n) known [] h = refl
bitmap_short (suc n) known (b ∷ bytes) h = bitmap_short n (known ++ (b % 256) ∷ []) bytes (omega (arith, h))

pub row_none : (at : ℕ) (shapes : List Shape) (bytes : List ℕ) → length bytes < 1 → row_placed at shapes bytes ≡ Short
unfolding row_placed
row_none at shapes bytes h = rw (one_short bytes h) refl

-- ---- Of bytes that begin with it, at this place

other_begun : (at : ℕ) (shapes : List Shape) (bytes : List ℕ) → 0 < length bytes → (get_or bytes 0 0 == 0xD1) ≡ false → (get_or bytes 0 0 == 0xD2) ≡ false
    → row_placed at shapes bytes ≡ Wrong UnknownToken (drop 1 bytes)
unfolding row_placed
other_begun at shapes bytes h a b = rw (one_got bytes h) (rw a (rw b refl))

row_begun : (at : ℕ) (shapes : List Shape) (bytes : List ℕ) → 0 < length bytes → get_or bytes 0 0 ≡ 0xD1 → (length shapes == 0) ≡ false
    → row_placed at shapes bytes ≡ values_placed false [] 0 shapes (at + 1) (drop 1 bytes)
unfolding row_placed
row_begun at shapes bytes h e f = rw (one_got bytes h) (rw e (rw f refl))

row_of_none : (at : ℕ) (shapes : List Shape) (bytes : List ℕ) → 0 < length bytes → get_or bytes 0 0 ≡ 0xD1 → length shapes ≡ 0
    → row_placed at shapes bytes ≡ Wrong NoColumns (drop 1 bytes)
unfolding row_placed
row_of_none at shapes bytes h e f =
    let t : (length shapes == 0) ≡ true = rw f refl in
    rw (one_got bytes h) (rw e (rw t refl))

null_row_of_none : (at : ℕ) (shapes : List Shape) (bytes : List ℕ) → 0 < length bytes → get_or bytes 0 0 ≡ 0xD2 → length shapes ≡ 0
    → row_placed at shapes bytes ≡ Wrong NoColumns (drop 1 bytes)
unfolding row_placed
null_row_of_none at shapes bytes h e f =
    let t : (length shapes == 0) ≡ true = rw f refl in
    rw (one_got bytes h) (rw e (rw t refl))

abbrev bits_of : List Shape → ℕ
bits_of shapes = (length shapes + 7) / 8

abbrev behind_bits : ℕ → List Shape → Read (List ℕ) → Read (List Place)
behind_bits at shapes r = r >>= λ bits rest. values_placed true bits 0 shapes (at + 1 + bits_of shapes) rest

null_row_on : (at : ℕ) (shapes : List Shape) (bytes : List ℕ) → 0 < length bytes → get_or bytes 0 0 ≡ 0xD2 → (length shapes == 0) ≡ false
    → row_placed at shapes bytes ≡ behind_bits at shapes (bitmap (bits_of shapes) [] (drop 1 bytes))
unfolding row_placed
null_row_on at shapes bytes h e f = rw (one_got bytes h) (rw e (rw f refl))

-- ---- At a place of bytes

is_there : (at : ℕ) (bytes : List ℕ) → at < length bytes → 0 < length (drop at bytes)
is_there at bytes h = omega (arith, h, length-drop at bytes)

front_is : (at : ℕ) (bytes : List ℕ) → get_or (drop at bytes) 0 0 ≡ get_or bytes at 0
front_is at bytes =
    let z : at + 0 ≡ at = omega arith in
    get_or-drop at bytes 0 0 ∙ ap (λ (i : ℕ). get_or bytes i 0) z

pub other_at : (at : ℕ) (shapes : List Shape) (bytes : List ℕ) → at < length bytes → (get_or bytes at 0 == 0xD1) ≡ false → (get_or bytes at 0 == 0xD2) ≡ false
    → row_placed at shapes (drop at bytes) ≡ Wrong UnknownToken (drop (at + 1) bytes)
other_at at shapes bytes h a b =
    other_begun at shapes (drop at bytes) (is_there at bytes h) (ap (λ (n : ℕ). n == 0xD1) (front_is at bytes) ∙ a) (ap (λ (n : ℕ). n == 0xD2) (front_is at bytes) ∙ b)
    ∙ ap (Wrong UnknownToken) (drop-drop 1 at bytes)

pub row_at : (at : ℕ) (shapes : List Shape) (bytes : List ℕ) → at < length bytes → get_or bytes at 0 ≡ 0xD1 → (length shapes == 0) ≡ false
    → row_placed at shapes (drop at bytes) ≡ values_placed false [] 0 shapes (at + 1) (drop (at + 1) bytes)
row_at at shapes bytes h e f =
    row_begun at shapes (drop at bytes) (is_there at bytes h) (front_is at bytes ∙ e) f ∙ ap (values_placed false [] 0 shapes (at + 1)) (drop-drop 1 at bytes)

pub row_of_none_at : (at : ℕ) (shapes : List Shape) (bytes : List ℕ) → at < length bytes → get_or bytes at 0 ≡ 0xD1 → length shapes ≡ 0
    → row_placed at shapes (drop at bytes) ≡ Wrong NoColumns (drop (at + 1) bytes)
row_of_none_at at shapes bytes h e f =
    row_of_none at shapes (drop at bytes) (is_there at bytes h) (front_is at bytes ∙ e) f ∙ ap (Wrong NoColumns) (drop-drop 1 at bytes)

pub null_row_of_none_at : (at : ℕ) (shapes : List Shape) (bytes : List ℕ) → at < length bytes → get_or bytes at 0 ≡ 0xD2 → length shapes ≡ 0
    → row_placed at shapes (drop at bytes) ≡ Wrong NoColumns (drop (at + 1) bytes)
null_row_of_none_at at shapes bytes h e f =
    null_row_of_none at shapes (drop at bytes) (is_there at bytes h) (front_is at bytes ∙ e) f ∙ ap (Wrong NoColumns) (drop-drop 1 at bytes)

bits_at : (at : ℕ) (shapes : List Shape) (bytes : List ℕ) → at < length bytes → get_or bytes at 0 ≡ 0xD2 → (length shapes == 0) ≡ false
    → row_placed at shapes (drop at bytes) ≡ behind_bits at shapes (bitmap (bits_of shapes) [] (drop (at + 1) bytes))
bits_at at shapes bytes h e f =
    null_row_on at shapes (drop at bytes) (is_there at bytes h) (front_is at bytes ∙ e) f
    ∙ ap (λ (xs : List ℕ). behind_bits at shapes (bitmap (bits_of shapes) [] xs)) (drop-drop 1 at bytes)

pub null_row_at : (at : ℕ) (shapes : List Shape) (n : ℕ) (bytes : List ℕ) → get_or bytes at 0 ≡ 0xD2 → (length shapes == 0) ≡ false → AreBytes bytes
    → n ≡ (length shapes + 7) / 8 → at + 1 + n ≤ length bytes
    → row_placed at shapes (drop at bytes) ≡ values_placed true (take (at + 1 + n - (at + 1)) (drop (at + 1) bytes)) 0 shapes (at + 1 + n) (drop (at + 1 + n) bytes)
null_row_at at shapes n bytes e f are k h =
    let same : n ≡ at + 1 + n - (at + 1) = omega arith in
    let shifted : AreBytes (drop (at + 1) bytes) = λ i. rw (get_or-drop (at + 1) bytes i 0) (are (at + 1 + i)) in
    bits_at at shapes bytes (omega (arith, h)) e f
    ∙ (ap (λ (m : ℕ). bitmap m [] (drop (at + 1) bytes) >>= λ bits rest. values_placed true bits 0 shapes (at + 1 + m) rest) (sym k)
    ∙ (ap (λ (r : Read (List ℕ)). r >>= λ bits rest. values_placed true bits 0 shapes (at + 1 + n) rest)
    (bitmap_got n [] (drop (at + 1) bytes) (omega (arith, h, length-drop (at + 1) bytes)) shifted)
    ∙ (ap (λ (xs : List ℕ). values_placed true (take n (drop (at + 1) bytes)) 0 shapes (at + 1 + n) xs) (drop-drop n (at + 1) bytes)
    ∙ ap (λ (m : ℕ). values_placed true (take m (drop (at + 1) bytes)) 0 shapes (at + 1 + n) (drop (at + 1 + n) bytes)) same)))

pub null_row_cut_at : (at : ℕ) (shapes : List Shape) (bytes : List ℕ) → at < length bytes → get_or bytes at 0 ≡ 0xD2 → (length shapes == 0) ≡ false
    → length bytes < at + 1 + (length shapes + 7) / 8 → row_placed at shapes (drop at bytes) ≡ Short
null_row_cut_at at shapes bytes h e f l =
    bits_at at shapes bytes h e f
    ∙ ap (behind_bits at shapes) (bitmap_short (bits_of shapes) [] (drop (at + 1) bytes) (omega (arith, h, l, length-drop (at + 1) bytes)))
