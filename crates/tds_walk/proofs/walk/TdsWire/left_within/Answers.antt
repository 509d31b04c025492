use Rattle.std.proofs.Common.{rules}
use Rattle.tds_walk.proofs.Inside.{stays}
use Rattle.tds_walk.proofs.walk.TdsWire.left_within.Goals as goal

pub returns-in-Some : goal.returns-in-Some
returns-in-Some c = λ some.
    stays c.args.self.now c.left_behind.result c.in-Some.in_parts c.args.piece.now
    (c.is_in_run.ensures.due (search rules)) (c.is_in_run.ensures.whole (search rules)) (c.is_in_run.ensures.head (search rules)) (c.is_in_run.ensures.inside (search rules))
    (search rules) c.in-Some.ensures (c.left_behind.ensures some)
