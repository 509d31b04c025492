use Rattle.std.proofs.Common.{rules, arith, refl, sym, ◌∙◌, ap, ◌≡◌, ◌<◌, ℕ, zero, suc, ◌+◌, ◌-◌, ◌*◌, true, false, List, if◌then◌else◌}
use Rattle.std.specs.Prelude.{Some, None}
use Rattle.tds_wire.specs.Told.{byte_at, digits, is_digit, next_digit}
use Rattle.tds_wire.proofs.told.reading.digits.Goals as goal

-- the digits that are left, by the next one
digits_on : (n : ℕ) (head : List ℕ) (at value : ℕ) → 0 < n
    → digits n head at value ≡ (if is_digit head at then digits (n - 1) head (at + 2) (next_digit value (byte_at head at)) else None)
unfolding digits
digits_on zero head at value h = absurd (omega (arith, h))
digits_on (suc n) head at value h =
    let e : suc n - 1 ≡ n = omega arith in
    rw e refl

digits_stop : (n : ℕ) (head : List ℕ) (at value : ℕ) → 0 < n → is_digit head at ≡ false → digits n head at value ≡ None
digits_stop n head at value h e = digits_on n head at value h ∙ rw e refl

digits_go : (n m : ℕ) (head : List ℕ) (at next value : ℕ) → 0 < n → m ≡ n - 1 → next ≡ at + 2 → is_digit head at ≡ true
    → digits n head at value ≡ digits m head next (next_digit value (byte_at head at))
digits_go n m head at next value h d p e = digits_on n head at value h ∙ rw e (rw d (rw p refl))

digits_end : (n : ℕ) (head : List ℕ) (at value : ℕ) → n ≡ 0 → digits n head at value ≡ Some value
unfolding digits
digits_end n head at value e = rw e refl

pub returns-then-not-is_digit : goal.returns-then-not-is_digit
returns-then-not-is_digit c =
    let e : is_digit c.args.head.now (5 + 2 * c.digits.place) ≡ false = search rules in
    let l : 0 < c.args.count - c.digits.place = search rules in
    sym (c.digits.invariant.does ∙ digits_stop _ _ _ _ l e)

pub digits-preserved : goal.digits-preserved
digits-preserved c =
    let e : is_digit c.args.head.now (5 + 2 * c.digits.place) ≡ true = search rules in
    let l : 0 < c.args.count - c.digits.place = search rules in
    let d : c.args.count - (c.digits.place + 1) ≡ c.args.count - c.digits.place - 1 = omega arith in
    let p : 5 + 2 * (c.digits.place + 1) ≡ 5 + 2 * c.digits.place + 2 = omega arith in
    let v : c.next_digit-value.result ≡ next_digit c.digits.value (byte_at c.args.head.now (5 + 2 * c.digits.place)) = search rules in
    record {
      does = c.digits.invariant.does ∙ (digits_go _ _ _ _ _ _ l d p e ∙ ap (digits _ _ _) (sym v));
      within = search rules;
    }

pub returns : goal.returns
returns c =
    let z : c.args.count - c.digits.place ≡ 0 = search rules in
    sym (c.digits.invariant.does ∙ digits_end _ _ _ _ z)
