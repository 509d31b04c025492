-- What calls at a carrier handed over, and what they brought.
use Rattle.std.specs.Prelude.{ℕ, ◌≡◌, ◌≤◌, ◌<◌, ◌==◌, List, [], ◌++◌, length, Option, Some, if◌then◌else◌}
use Rattle.std.specs.List.{fold}
use Rattle.tds_packet.specs.declared.kind.Direction.{Direction}
use Rattle.tds_packet.specs.declared.kind.Direction.TheVariants.{ToServer, ToClient}
use Rattle.tds_play.specs.Pipe.{Pipe, traffic}
use Rattle.tds_play.specs.WholePlay.{come_on}
use Rattle.tds_trace.specs.declared.call.Call.{Call}
use Rattle.tds_trace.specs.declared.call.Made.{Made}
use Rattle.tds_trace.specs.declared.call.Made.TheVariants as made
use Rattle.tds_world.specs.Connection.{Connection}
use Rattle.tds_world.specs.Observed.{bytes_of}
use Rattle.tds_world.specs.World.{World, numbered}

-- The bytes where both ways are the same, else none.
abbrev pub this_way : Direction → Direction → List ℕ → List ℕ
this_way ToServer ToServer bytes = bytes
this_way ToClient ToClient bytes = bytes
this_way ToServer ToClient bytes = []
this_way ToClient ToServer bytes = []

-- What was handed over one way on a connection, behind this call on it: opening it anew begins anew.
abbrev pub handed_after : Made → Direction → List ℕ → List ℕ
handed_after made.Open d bytes = []
handed_after (made.Send way more) d bytes = bytes ++ this_way way d more.items
handed_after (made.Carry way more) d bytes = bytes
handed_after made.Cut d bytes = bytes

-- The same of what came.
abbrev pub brought_after : Made → Direction → List ℕ → List ℕ
brought_after made.Open d bytes = []
brought_after (made.Send way more) d bytes = bytes
brought_after (made.Carry way more) d bytes = bytes ++ this_way way d more.items
brought_after made.Cut d bytes = bytes

-- What calls handed over on a connection, one way, in order, and what they brought there.
abbrev pub handed_of : List Call → ℕ → Direction → List ℕ
handed_of calls n d = fold (λ bytes c. if c.conn == n then handed_after c.made d bytes else bytes) [] calls

abbrev pub brought_of : List Call → ℕ → Direction → List ℕ
brought_of calls n d = fold (λ bytes c. if c.conn == n then brought_after c.made d bytes else bytes) [] calls

-- What a carrier was handed on each connection, each way, and what came there, is that of these calls.
abbrev pub AreCallsAt : List Call → (ℕ → Option Pipe) → Type 0
AreCallsAt calls pipes =
    (n : ℕ) (d : Direction)
    → ((traffic (pipes n) d).handed ≡ handed_of calls n d) × ((traffic (pipes n) d).came ≡ brought_of calls n d)

-- What the calls of a play handed over is what was sent in this world of the model, and what they brought
-- is what came there.
pub record AreCallsOf (w : World) (calls : List Call) : Type 0 where
  pub handed : (n : ℕ) (d : Direction) → 0 < n → n ≤ length w.connections
      → handed_of calls n d ≡ bytes_of w n d
  pub brought : (n : ℕ) (c : Connection) (d : Direction) → numbered w.connections n ≡ Some c
      → brought_of calls n d ≡ come_on d c
