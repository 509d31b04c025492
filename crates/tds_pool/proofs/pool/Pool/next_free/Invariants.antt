use Rattle.std.proofs.Common.{◌≡◌, length, drop}
use Rattle.tds_pool.specs.Connections.{connections}
use Rattle.tds_pool.specs.Calls.{lent_next}
use Rattle.tds_pool.proofs.pool.Pool.next_free.Given as goal

-- what is lent next stands at this place or behind it
abbrev pub invariant-loop-place : goal.invariant-loop-place
invariant-loop-place l = (l.place-end ≡ length l.self.entries) × (lent_next (drop l.place (connections l.self)) ≡ lent_next (connections l.self))
