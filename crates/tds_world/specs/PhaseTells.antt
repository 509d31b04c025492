-- What the phase of a request says of it.
use Rattle.std.specs.Prelude.{ℕ, ◌≡◌, ◌≢◌}
use Rattle.tds_world.specs.Phase.{Phase, Settled, Asked, Sending, Reading, Cancelling}
use Rattle.tds_world.specs.Record.{Fate, Open, Cancelled, Out, NotBegun, Begun, Whole}

-- What became of it, and how much of it is out: before it is settled or cancelled it is open, and none,
-- some or all of its packets are out.
abbrev pub PhaseTells : Phase → Fate → Out → Type 0
PhaseTells Settled fate out = fate ≢ Open
PhaseTells Asked fate out = (fate ≡ Open) × (out ≡ NotBegun)
PhaseTells Sending fate out = (fate ≡ Open) × (n : ℕ) × (out ≡ Begun n)
PhaseTells Reading fate out = (fate ≡ Open) × (n : ℕ) × (out ≡ Whole n)
PhaseTells Cancelling fate out = (fate ≡ Cancelled) × (out ≢ NotBegun)
