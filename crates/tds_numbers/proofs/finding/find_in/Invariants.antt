use Rattle.std.proofs.Common.{◌-◌, ◌<◌, ◌^◌, ℕ, length, map, slice_index}
use Rattle.tds_numbers.specs.Halving.{Halves, Lasts}
use Rattle.tds_numbers.proofs.finding.find_in.Given as goal

abbrev pub invariant-halves : goal.invariant-halves
invariant-halves g l = record {
  where_it_is : Halves (length l.among) (slice_index (map g.T.Numbered.its l.among)) l.number l.low l.high;
  cost : (most : ℕ) → length l.among < 2 ^ most → Lasts most l.fn.steps l.steps l.low l.high;
}

abbrev pub decreases-halves : goal.decreases-halves
decreases-halves g l = l.high - l.low
