-- What goes out of a request: by the calls of a connection, and by those of a service with its lease.
use Rattle.std.specs.Prelude.{◌≡◌, ℕ, List, [], ◌∷◌, ◌++◌}
use Rattle.tds_client.specs.Sending.{Does}
use Rattle.tds_client.specs.Session.{ClientSession}
use Rattle.tds_client.specs.Streams.{put, finished}
use Rattle.tds_service.specs.declared.connection.Connection.{Connection}
use Rattle.tds_service.specs.declared.service.Service.{Service}
use Rattle.tds_service.specs.Table.{DoesAt, client_of}

-- These parts are put on a connection, one behind the other, and the request is finished: all that goes out, and the connection
-- behind it. Each call appends to bytes of its own.
abbrev pub Spells : Connection → List (List ℕ) → List ℕ → Connection → Type 0
Spells c [] bytes behind = (before : List ℕ) × Does (finished c.client) tt behind.client before (before ++ bytes)
Spells c (part ∷ parts) bytes behind =
    (first : List ℕ) × (rest : List ℕ) × (middle : Connection) × (before : List ℕ) × (bytes ≡ first ++ rest)
    × Does (put c.client part) tt middle.client before (before ++ first) × Spells middle parts rest behind

-- So it is by the calls of a service with this lease, while others leave the client as it is in between.
abbrev pub SpellsBy : ℕ → Service → List (List ℕ) → List ℕ → Service → Type 0
SpellsBy lease s [] bytes behind = (before : List ℕ) × DoesAt finished lease s behind before (before ++ bytes)
SpellsBy lease s (part ∷ parts) bytes behind =
    (first : List ℕ) × (rest : List ℕ) × (middle : Service) × (next : Service) × (before : List ℕ) × (bytes ≡ first ++ rest)
    × DoesAt (λ (c : ClientSession). put c part) lease s middle before (before ++ first) × (client_of lease next ≡ client_of lease middle)
    × SpellsBy lease next parts rest behind
