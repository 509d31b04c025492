-- A number has one spelling, and that is its decimal digits.
use Rattle.std.proofs.Common.{◌≡◌, ◌≤◌, ◌<◌, ◌^◌, ℕ, zero, suc, Bool, true, false, ◌&&◌, ◌||◌, List, [], ◌∷◌, length, get_or, Some, None, if◌then◌else◌, nat_le, decimal, refl, sym, ap, ◌∙◌, arith}
use Rattle.std.specs.List.{list_all}
use Rattle.std.proofs.lemmas.Bool.Decides.{leb_tells}
use Rattle.std.proofs.lemmas.Str.Parse.{IsDigitsTest, IsNumeralModel, numerals_by_fold}
use Rattle.std.proofs.lemmas.Fmt.{decimal-digits_value, decimal_is_IsNumeral, first_decimal, decimal_digit}
use Rattle.tds_session.specs.Words.{is_within, is_digit, is_numeral, digits_value, numeral_value}
use Rattle.tds_session.specs.Laws.Spells.{is_within_is}

pub both : (a b : Bool) → (a && b) ≡ true → (a ≡ true) × (b ≡ true)
both true b h = (refl, h)
both false b h = absurd (let z : false ≡ true = h in cc)

pub joined : (a b : Bool) → a ≡ true → b ≡ true → (a && b) ≡ true
joined true b h k = k
joined false b h k = absurd (let z : false ≡ true = h in cc)

pub or_cases : (P : Type 0) (a b : Bool) → (a ≡ true → P) → (b ≡ true → P) → (a || b) ≡ true → P
or_cases P true b f g h = f refl
or_cases P false b f g h = g h

pub within_tells : (low high n : ℕ) → low ≤ n → n ≤ high → is_within low high n ≡ true
within_tells low high n h k = joined (nat_le low n) (nat_le n high) (grind (arith, leb_tells low n)) (grind (arith, leb_tells n high))

digits_test : IsDigitsTest (λ us. list_all is_digit us ≡ true)
digits_test = record {
  empty = refl;
  parts = λ c cs h. let p = both (is_digit c) (list_all is_digit cs) h in let w = is_within_is 48 57 c p.0 in ((w.least, w.most), p.1);
  more = λ c cs k h. joined (is_digit c) (list_all is_digit cs) (within_tells 48 57 c k.0 k.1) h;
}

pub digits_model : IsNumeralModel (λ us. list_all is_digit us ≡ true) (digits_value 0)
digits_model = numerals_by_fold (λ us. list_all is_digit us ≡ true) digits_test digits_value (record { empty = λ n. refl; more = λ n c cs k. refl })

-- what a numeral is: digits, at least one, and a leading zero alone
pub record IsPlain (us : List ℕ) : Type 0 where
  pub digits : list_all is_digit us ≡ true
  pub some : 0 < length us
  pub leading : get_or us 0 0 ≡ 48 → length us ≡ 1

pub numeral_is_plain : (us : List ℕ) → is_numeral us ≡ true → IsPlain us
numeral_is_plain [] h = absurd (let z : false ≡ true = h in cc)
numeral_is_plain (u ∷ []) h = record { digits = joined (is_digit u) true h refl; some = omega arith; leading = λ e. refl }
numeral_is_plain (u ∷ v ∷ us) h =
    let p = both (is_within 49 57 u) (list_all is_digit (v ∷ us)) h in
    let w = is_within_is 49 57 u p.0 in
    record { digits = joined (is_digit u) (list_all is_digit (v ∷ us)) (within_tells 48 57 u (omega (arith, w.least)) w.most) p.1; some = omega arith; leading = λ e. absurd (omega (arith, w.least, e)) }

plain_is_numeral : (us : List ℕ) → IsPlain us → is_numeral us ≡ true
plain_is_numeral [] h = absurd (omega (arith, h.some))
plain_is_numeral (u ∷ []) h = (both (is_digit u) true h.digits).0
plain_is_numeral (u ∷ v ∷ us) h =
    let p = both (is_digit u) (list_all is_digit (v ∷ us)) h.digits in
    let w = is_within_is 48 57 u p.0 in
    let no : u ≡ 48 → ⊥ = λ e. omega (arith, h.leading e) in
    joined (is_within 49 57 u) (list_all is_digit (v ∷ us)) (within_tells 49 57 u (omega (arith, w.least, no)) w.most) p.1

read_as : (numeral : Bool) (v n : ℕ) → (if numeral then Some v else None) ≡ Some n → (numeral ≡ true) × (v ≡ n)
read_as true v n h = (refl, let z : Some v ≡ Some n = h in cc)
read_as false v n h = absurd (let z : None ≡ Some n = h in cc)

-- units that spell a number are its decimal digits
pub number_is_decimal : (us : List ℕ) (n : ℕ) → numeral_value us ≡ Some n → n < 2 ^ 64 → us ≡ decimal n
number_is_decimal us n h small =
    let r = read_as (is_numeral us) (digits_value 0 us) n h in
    let plain = numeral_is_plain us r.0 in
    sym (decimal-digits_value digits_model us plain.digits plain.some plain.leading (omega (arith, r.1, small))) ∙ ap decimal r.1

leading_zero : (n : ℕ) → n < 2 ^ 64 → get_or (decimal n) 0 0 ≡ 48 → length (decimal n) ≡ 1
leading_zero zero h e = ap (λ (l : List ℕ). length l) (decimal_digit zero (omega arith))
leading_zero (suc n) h e = absurd (omega (arith, e, first_decimal (suc n) (omega arith) h))

pub decimal_is_plain : (n : ℕ) → n < 2 ^ 64 → IsPlain (decimal n)
decimal_is_plain n h =
    let m = decimal_is_IsNumeral n h in
    record { digits = digits_model.from (decimal n) m.0.1; some = m.0.0; leading = leading_zero n h }

-- and those spell it
pub decimal_is_number : (n : ℕ) → n < 2 ^ 64 → numeral_value (decimal n) ≡ Some n
decimal_is_number n h =
    let m = decimal_is_IsNumeral n h in
    let value : digits_value 0 (decimal n) ≡ n = digits_model.same (decimal n) m.0.1 ∙ m.1 in
    let e : is_numeral (decimal n) ≡ true = plain_is_numeral (decimal n) (decimal_is_plain n h) in
    ap (λ (b : Bool). if b then Some (digits_value 0 (decimal n)) else None) e ∙ ap (λ (v : ℕ). Some v) value
