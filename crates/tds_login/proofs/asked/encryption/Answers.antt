use Rattle.std.proofs.Common.{◌≡◌, refl, ◌∙◌, sym, ap, rules, arith, ℕ, zero, suc, ◌+◌, ◌-◌, ◌*◌, ◌/◌, ◌<◌, ◌==◌, length, List, None, if◌then◌else◌, slice_get, slice_index}
use Rattle.std.proofs.lemmas.Grind.{common_steps}
use Rattle.tds_login.specs.Asked.{encryption_among}
use Rattle.tds_login.proofs.asked.encryption.Goals as goal

-- what is found among the options that are left, by the next one
among_next : (m : List ℕ) (o n : ℕ) → o < n → encryption_among m o (n - o)
    ≡ (if slice_index m (5 * o) == 1
    then slice_get m (256 * slice_index m (5 * o + 1) + slice_index m (5 * o + 2))
    else if slice_index m (5 * o) == 255 then None else encryption_among m (o + 1) (n - (o + 1)))
unfolding encryption_among
among_next m o n h =
    let e : n - o ≡ suc (n - (o + 1)) = omega arith in
    let s : suc o ≡ o + 1 = omega arith in
    rw e (rw s search rules)

-- the option is the next one
among_found : (m : List ℕ) (o n i : ℕ) → o < n → slice_index m (5 * o) ≡ 1
    → i ≡ 256 * slice_index m (5 * o + 1) + slice_index m (5 * o + 2)
    → encryption_among m o (n - o) ≡ slice_get m i
among_found m o n i h e p = rw (among_next m o n h) (rw p (rw e refl))

pub returns-then-message-at-eq-ENCRYPTION : goal.returns-then-message-at-eq-ENCRYPTION
returns-then-message-at-eq-ENCRYPTION c =
    let e = among_found c.args.message.now c.loop-option.option _ _ c.loop-option-test.true c.if-message-at-eq-ENCRYPTION.true (search rules) in
    c.byte_at.ensures ∙ (sym e ∙ sym c.loop-option.invariant)

pub returns-then-message-at : goal.returns-then-message-at
returns-then-message-at c =
    let e = among_next c.args.message.now c.loop-option.option _ c.loop-option-test.true in
    grind (arith, common_steps, e, c.loop-option.invariant)

pub loop-option-preserved : goal.loop-option-preserved
loop-option-preserved c =
    let e = among_next c.args.message.now c.loop-option.option _ c.loop-option-test.true in
    grind (arith, common_steps, e, c.loop-option.invariant)

pub returns : goal.returns
unfolding encryption_among
returns c =
    let z : length c.args.message.now / 5 - c.loop-option.option ≡ zero = omega arith in
    sym (c.loop-option.invariant ∙ ap (encryption_among c.args.message.now c.loop-option.option) z)
