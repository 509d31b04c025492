use Rattle.std.proofs.Common.{rules}
use Rattle.tds_walk.specs.Within.{behind_piece}
use Rattle.tds_walk.proofs.Inside.{fed_within}
use Rattle.tds_walk.proofs.calls.feed.Goals as goal

pub returns-then-left-gt0 : goal.returns-then-left-gt0
returns-then-left-gt0 c =
    rw c.go_within.ensures (fed_within c.args.walk.now (behind_piece c.args.walk.now c.left_within-left.result c.args.piece.now) c.args.memory.now c.args.piece.now c.args.token.now (c.left_within-left.ensures (search rules)))
