-- How many bytes can be underway to a client.
use Rattle.std.specs.Prelude.{ℕ, suc, ◌*◌, ◌≤◌}
use Rattle.tds_world.specs.Connection.{down_underway}
use Rattle.tds_world.specs.Laws.{OfEachConnection}
use Rattle.tds_world.specs.World.{World}

-- After so many events: each of them sends at most one step, in a packet of at most 512 bytes, and one
-- acknowledgement can wait behind the steps.
abbrev pub FewToClients : ℕ → World → Type 0
FewToClients events w = OfEachConnection (λ c. down_underway c ≤ 512 * suc events) w
