use Rattle.std.proofs.Common.{◌≡◌, ◌++◌, length, drop}
use Rattle.tds_pool.specs.Connections.{connections}
use Rattle.tds_pool.specs.Calls.{all_numbers}
use Rattle.tds_pool.proofs.pool.Pool.numbers.Given as goal

-- those found, and those from here on, are all
abbrev pub invariant-seats : goal.invariant-seats
invariant-seats l = (l.index-end ≡ length l.self.entries) × (l.numbers.items ++ all_numbers (drop l.index (connections l.self)) ≡ all_numbers (connections l.self))
