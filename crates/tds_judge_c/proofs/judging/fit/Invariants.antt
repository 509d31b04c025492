use Rattle.std.proofs.Common.{◌≡◌, drop}
use Rattle.tds_judge_c.specs.Judged.{fits}
use Rattle.tds_judge_c.proofs.judging.fit.Given as goal

-- the pieces that are left fit what is left
abbrev pub invariant-pieces : goal.invariant-pieces
invariant-pieces l = fits (drop l.piece-index l.pieces) l.left ≡ fits l.fn.pieces l.fn.length
