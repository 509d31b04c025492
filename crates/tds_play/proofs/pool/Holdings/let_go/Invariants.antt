use Rattle.std.proofs.Common.{◌≡◌, ◌+◌, length}
use Rattle.tds_play.proofs.pool.Holdings.let_go.Given as goal

abbrev pub invariant-held : goal.invariant-held
invariant-held g l = record { many : length l.held.items + l.counter ≡ length l.initial.held.items }
