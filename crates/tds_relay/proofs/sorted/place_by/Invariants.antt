use Rattle.std.proofs.Common.{◌-◌, ◌<◌, ◌^◌, ℕ, length, map, slice_index}
use Rattle.tds_relay.specs.Sorted.{Cuts, Lasts, bound}
use Rattle.tds_relay.proofs.sorted.place_by.Given as goal

abbrev pub invariant-halves : goal.invariant-halves
invariant-halves g l = record {
  cuts : Cuts (length l.among) (slice_index (map g.T.Numbered.its l.among)) (bound l.number l.past) l.low l.high;
  cost : (most : ℕ) → length l.among < 2 ^ most → Lasts most l.fn.steps l.steps l.low l.high;
}

abbrev pub decreases-halves : goal.decreases-halves
decreases-halves g l = l.high - l.low
