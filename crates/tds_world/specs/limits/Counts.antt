-- How many connections, leases, tickets and requests there can be.
use Rattle.std.specs.Prelude.{ℕ, ◌≤◌, length}
use Rattle.tds_world.specs.World.{World}

-- At most n of each.
pub record AreFew (n : ℕ) (w : World) : Type 0 where
  pub connections : length w.connections ≤ n
  pub leases : length w.leases ≤ n
  pub tickets : length w.tickets ≤ n
  pub asked : length w.asked_on ≤ n
