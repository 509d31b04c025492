use Rattle.std.proofs.Common.{◌≡◌, ◌+◌, ◌≤◌, length, drop}
use Rattle.tds_pool.specs.Connections.{connections}
use Rattle.tds_pool.specs.Calls.{count_at}
use Rattle.tds_pool.proofs.pool.Pool.count.Given as goal

-- those counted, and those from here on, are all
abbrev pub invariant-seats : goal.invariant-seats
invariant-seats l = (l.index-end ≡ length l.self.entries) × (l.count ≤ l.index) × (l.count + count_at l.place (drop l.index (connections l.self)) ≡ count_at l.place (connections l.self))
