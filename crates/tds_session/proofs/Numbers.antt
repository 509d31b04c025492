-- Numbers, as their digits are read.
use Rattle.std.proofs.Common.{◌≡◌, ℕ, suc, ◌+◌, ◌-◌, ◌*◌, ◌<◌, ◌≤◌, Bool, true, false, List, [], ◌∷◌, length, drop, get_or, Some, None, if◌then◌else◌, nat_le, refl, ap, sym, ◌∙◌, arith, drop-cons}
use Rattle.std.proofs.lemmas.Bool.{lt-leb}
use Rattle.tds_session.specs.Words.{such, is_numeral, numeral_value, digits_value}

-- a number grows with each digit
pub digits_value_grows : (n : ℕ) (us : List ℕ) → n ≤ digits_value n us
digits_value_grows n [] = omega arith
digits_value_grows n (u ∷ us) =
    let h : n * 10 + (u - 48) ≤ digits_value (n * 10 + (u - 48)) us = digits_value_grows (n * 10 + (u - 48)) us in omega (arith, h)

none_such : (test : ℕ → Bool) (numeral : Bool) (n : ℕ) → numeral ≡ true → test n ≡ false → None ≡ such test (if numeral then Some n else None)
none_such test true n h e = sym (ap (λ (b : Bool). if b then Some n else None) e)
none_such test false n h e = refl

-- once the digits up to one are over the limit, the whole number is
pub too_large : (us : List ℕ) (value i most : ℕ) → is_numeral us ≡ true → i < length us → most < value * 10 + (get_or us i 0 - 48)
    → digits_value value (drop i us) ≡ digits_value 0 us → None ≡ such (λ n. nat_le n most) (numeral_value us)
too_large us value i most numeral h over so_far =
    let step : drop i us ≡ get_or us i 0 ∷ drop (suc i) us = drop-cons us i 0 h in
    let rest : digits_value (value * 10 + (get_or us i 0 - 48)) (drop (suc i) us) ≡ digits_value 0 us = sym (ap (λ l. digits_value value l) step) ∙ so_far in
    let grows : value * 10 + (get_or us i 0 - 48) ≤ digits_value (value * 10 + (get_or us i 0 - 48)) (drop (suc i) us) = digits_value_grows (value * 10 + (get_or us i 0 - 48)) (drop (suc i) us) in
    let big : most < digits_value 0 us = omega (arith, over, grows, rest) in
    none_such (λ n. nat_le n most) (is_numeral us) (digits_value 0 us) numeral (lt-leb (digits_value 0 us) most big)
