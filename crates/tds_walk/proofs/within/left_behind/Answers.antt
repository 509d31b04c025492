use Rattle.std.proofs.Common.{rules, ◌≡◌, ◌∙◌, ◌≤◌, ◌<◌, ◌+◌, ◌-◌, ◌*◌, ℕ, Bool, List, true, drop, get_or, length, ap, arith, refl, subst, sym}
use Rattle.tds_wire.specs.declared.due.Due.TheVariants.{Run}
use Rattle.tds_wire.specs.Bytes.{Within}
use Rattle.tds_wire.specs.Walking.{with_run}
use Rattle.tds_walk.specs.Within.{run_next}
use Rattle.tds_walk.proofs.Runs.{all_left, border_passed, ran_within}
use Rattle.tds_walk.proofs.within.left_behind.Goals as goal

pub returns-then-left-length : goal.returns-then-left-length
returns-then-left-length c = λ some w due.
    let short : length c.args.piece.now < c.args.left = search rules in
    ran_within w (with_run w (c.args.left - length c.args.piece.now) (run_next c.args.in_parts)) c.args.left (run_next c.args.in_parts) c.args.piece.now due short refl

pub returns-then-count-rest : goal.returns-then-count-rest
returns-then-count-rest c = λ behind w due.
    let piece = c.args.piece.now in
    let left = c.args.left in
    let n = c.count_of-count.result in
    let parts : c.args.in_parts ≡ true = search rules in
    let some : 0 < left = search rules in
    let fits : left + 4 ≤ length piece = search rules in
    let long : 4 ≤ length piece = omega (arith, fits) in
    let few : left ≤ length piece - 4 = omega (arith, fits) in
    let more : length piece - left - 4 < n = search rules in
    let count : n ≡ get_or (drop left piece) 0 0 + 256 * get_or (drop left piece) 1 0 + 65536 * get_or (drop left piece) 2 0 + 16777216 * get_or (drop left piece) 3 0 =
    subst (λ (xs : List ℕ). n ≡ get_or xs 0 0 + 256 * get_or xs 1 0 + 65536 * get_or xs 2 0 + 16777216 * get_or xs 3 0) (all_left piece left) c.count_of-count.ensures in
    border_passed w left n (n - (length piece - left - 4)) piece (due ∙ ap (λ (b : Bool). Run left (run_next b)) parts) some (omega (arith, long, few)) count more refl
    ∙ sym (ap (λ (b : Bool). Within (with_run w (n - (length piece - left - 4)) (run_next b))) parts)
