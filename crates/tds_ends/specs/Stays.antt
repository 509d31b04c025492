-- What an end stands for where its connection changes without it.
use Rattle.std.specs.Prelude.{◌≡◌, Option, is_none}
use Rattle.tds_client.specs.Session.{ClientSession, unless_idle}
use Rattle.tds_packet.specs.declared.status.Reset.{Reset}
use Rattle.tds_server.specs.State.{ServerState}
use Rattle.tds_world.specs.Connection.{Connection, Standing, is_idle}
use Rattle.tds_ends.specs.Stands.{MatchesClient, MatchesServer}

-- A client that stands for a connection stands for what this makes of the connection, too.
abbrev pub ClientStays : (Connection → Connection) → Type 0
ClientStays makes = (s : ClientSession) (c : Connection)
    → MatchesClient s c → MatchesClient s (makes c)

-- The same of a server.
abbrev pub ServerStays : Type 0 → (Connection → Connection) → Type 0
ServerStays E makes = (s : ServerState E) (c : Connection)
    → MatchesServer s c → MatchesServer s (makes c)

-- Neither end sees where its connection stands in the pool, and the server doesn't see its mark.
pub record PoolIsUnseen (E : Type 0) : Type 0 where
  pub client : (standing : Standing) → ClientStays (λ c. record c { standing = standing })
  pub server : (mark : Option Reset) (standing : Standing)
      → ServerStays E (λ c. record c { mark = mark; standing = standing })

-- A client that stands for a connection is idle exactly where the connection is.
abbrev pub RefinesIdle : Type 0
RefinesIdle = (s : ClientSession) (c : Connection)
    → MatchesClient s c → is_none (unless_idle s.stage) ≡ is_idle c
