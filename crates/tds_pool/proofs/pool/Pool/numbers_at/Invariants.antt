use Rattle.std.proofs.Common.{◌≡◌, ◌++◌, length, drop}
use Rattle.tds_pool.specs.Connections.{connections}
use Rattle.tds_pool.specs.Calls.{numbers_at}
use Rattle.tds_pool.proofs.pool.Pool.numbers_at.Given as goal

-- those found, and those from here on, are all
abbrev pub invariant-seats : goal.invariant-seats
invariant-seats l = (l.index-end ≡ length l.self.entries) × (l.numbers.items ++ numbers_at l.place (drop l.index (connections l.self)) ≡ numbers_at l.place (connections l.self))
