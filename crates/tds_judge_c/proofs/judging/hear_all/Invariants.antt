use Rattle.std.proofs.Common.{◌≡◌, drop, length, true}
use Rattle.tds_judge.specs.Framing.{run_of}
use Rattle.tds_judge_c.specs.Judged.{fits, heard_all}
use Rattle.tds_judge_c.proofs.judging.hear_all.Given as goal

-- the pieces that are left lead to the end, over the bytes that are left
abbrev pub invariant-pieces : goal.invariant-pieces
invariant-pieces l = record {
  fit : fits (drop l.piece-index l.pieces) (length l.rest) ≡ true;
  run : heard_all (drop l.piece-index l.pieces) l.rest (run_of l.judge l.found.items) ≡ heard_all l.pieces l.fn.bytes (run_of l.fn.judge l.fn.found.items);
}
