use Rattle.tds_wire.specs.Memory.{walk_of}
use Rattle.tds_wire.specs.declared.cursor.Cursor.{Cursor}
use Rattle.std.proofs.Common.{rules, ap, ◌≡◌, ◌<◌, length}
use Rattle.tds_wire.specs.declared.due.Due.TheVariants.{Run}
use Rattle.tds_wire.proofs.Walks.{ran_within}
use Rattle.tds_wire.proofs.cursor.Cursor.pass_middle.Goals as goal

pub returns-then-left-piece-clause-inside : goal.returns-then-left-piece-clause-inside
returns-then-left-piece-clause-inside c =
    let short : length c.args.piece.now < c.in-Run.left = search rules in
    let due : c.args.self.now.at.due ≡ Run c.in-Run.left c.in-Run.next = search rules in
    λ e. ran_within (walk_of c.args.self.now c.args.memory.now) (walk_of c.expect_run.new.self c.args.memory.now) c.in-Run.left c.in-Run.next c.args.piece.now due short (ap (λ (x : Cursor). walk_of x c.args.memory.now) c.expect_run.ensures)
