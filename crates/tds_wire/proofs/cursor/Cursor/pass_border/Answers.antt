use Rattle.std.proofs.Common.{rules, ◌≡◌, ◌∙◌, ◌≤◌, ◌<◌, ◌+◌, ◌-◌, ◌*◌, ℕ, List, drop, get_or, length, ap, arith, subst, sym}
use Rattle.tds_wire.specs.Bytes.{Within}
use Rattle.tds_wire.specs.Memory.{walk_of}
use Rattle.tds_wire.specs.declared.cursor.Cursor.{Cursor}
use Rattle.tds_wire.proofs.Walks.{all_left}
use Rattle.tds_wire.proofs.WholeTokens.{border_passed}
use Rattle.tds_wire.proofs.cursor.Cursor.pass_border.Goals as goal

pub returns-clause-inside : goal.returns-clause-inside
returns-clause-inside c = λ _.
    let piece = c.args.piece.now in
    let left = c.args.left in
    let n = c.count_of-count.result in
    let some : 0 < left = search rules in
    let long : 4 ≤ length piece = search rules in
    let few : left ≤ length piece - 4 = search rules in
    let more : length piece - left - 4 < n = search rules in
    let count : n ≡ get_or (drop left piece) 0 0 + 256 * get_or (drop left piece) 1 0 + 65536 * get_or (drop left piece) 2 0 + 16777216 * get_or (drop left piece) 3 0 =
    subst (λ (xs : List ℕ). n ≡ get_or xs 0 0 + 256 * get_or xs 1 0 + 65536 * get_or xs 2 0 + 16777216 * get_or xs 3 0) (all_left piece left) c.count_of-count.ensures in
    border_passed (walk_of c.args.self.now c.args.memory.now) left n (n - (length piece - left - 4)) piece c.requires some (omega (arith, long, few)) count more (omega arith)
    ∙ sym (ap (λ (x : Cursor). Within (walk_of x c.args.memory.now)) c.expect_run.ensures)
