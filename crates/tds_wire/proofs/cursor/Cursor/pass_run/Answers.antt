use Rattle.tds_wire.specs.Memory.{walk_of}
use Rattle.tds_wire.specs.declared.cursor.Cursor.{Cursor}
use Rattle.std.proofs.Common.{rules, ap, ◌<◌, ◌≤◌, length}
use Rattle.tds_wire.proofs.Walks.{ran, ran_on}
use Rattle.tds_wire.proofs.cursor.Cursor.pass_run.Goals as goal

pub returns-then-left-bytes-clause-exact : goal.returns-then-left-bytes-clause-exact
returns-then-left-bytes-clause-exact c =
    let short : length c.args.bytes.now < c.args.left = search rules in
    ran_on (walk_of c.args.self.now c.args.memory.now) (walk_of c.expect_run.new.self c.args.memory.now) c.args.left c.args.next c.args.bytes.now c.requires.due short (ap (λ (x : Cursor). walk_of x c.args.memory.now) c.expect_run.ensures)

pub returns-else-left-bytes-clause-exact : goal.returns-else-left-bytes-clause-exact
returns-else-left-bytes-clause-exact c =
    let all : c.args.left ≤ length c.args.bytes.now = search rules in
    ran (walk_of c.args.self.now c.args.memory.now) (walk_of c.go.new.self c.go.new.memory) c.args.left c.max.result c.args.next c.args.bytes.now c.requires.due all c.requires.some (search rules) c.go.ensures
