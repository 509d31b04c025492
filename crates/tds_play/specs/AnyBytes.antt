-- What a play makes of any bytes that its carrier brings: which deliveries answer the fault of a header, and
-- what the callers are given.
use Rattle.std.specs.Prelude.{ℕ, ◌≡◌, ◌==◌, ◌⊎◌, List, [], ◌∷◌, ◌++◌, length, flat_map, Option, Bool, false, if◌then◌else◌}
use Rattle.std.specs.List.{AllByRecursion}
use Rattle.tds_ends.specs.AllBytes.{AreToldBy, HasFault, HasNoFault, new_reader}
use Rattle.tds_packet.specs.declared.fault.PacketFault.{PacketFault}
use Rattle.tds_packet.specs.declared.kind.Direction.{Direction}
use Rattle.tds_packet.specs.declared.kind.Direction.TheVariants.{ToServer, ToClient}
use Rattle.tds_packet.specs.Faults.{fault_number}
use Rattle.tds_packet.specs.Reading.{Reading}
use Rattle.tds_token.specs.declared.token.Token.{Token}
use Rattle.tds_world.specs.declared.event.Event.{Event}
use Rattle.tds_world.specs.declared.event.Event.TheVariants as event
use Rattle.tds_world.specs.declared.outcome.End.{End}
use Rattle.tds_world.specs.declared.outcome.End.TheVariants.{Server, Client}
use Rattle.tds_world.specs.declared.outcome.Layer.{Layer}
use Rattle.tds_world.specs.declared.outcome.Layer.TheVariants.{Packet, Core}
use Rattle.tds_world.specs.declared.outcome.Outcome.{Outcome}
use Rattle.tds_world.specs.declared.outcome.Outcome.TheVariants as outcome
use Rattle.tds_world.specs.declared.report.EventReport.{EventReport}
use Rattle.tds_world.specs.declared.report.Report.{Report}
use Rattle.tds_world.specs.declared.report.RequestReport.{RequestReport}
use Rattle.tds_world.specs.Losses.{came_in}
use Rattle.tds_play.specs.Pipe.{Pipe, traffic}

-- ---- Deliveries

-- The end that bytes of a direction come to.
abbrev pub end_at : Direction → End
end_at ToServer = Server
end_at ToClient = Client

-- A fault that an end answers, where these bytes have come to it. One of its packet reader is that of a
-- header after whole packets (MS-TDS 2.2.3.1). Of one of its core nothing is said here.
abbrev pub FaultsBy : Reading → List ℕ → End → Layer → ℕ → Type 0
FaultsBy r bytes end Packet number =
    (end ≡ end_at r.direction) × (fault : PacketFault) × (number ≡ fault_number fault) × HasFault r bytes fault
FaultsBy r bytes end Core number = end ≡ end_at r.direction

-- What a delivery came to, where these bytes had come to the end before it, and these have come then. One
-- that was refused brought nothing. One that answers no fault brought as many as it says, and no header
-- that has come has a fault.
abbrev pub AnswersWith : Reading → Outcome → List ℕ → List ℕ → Type 0
AnswersWith r (outcome.Refused why) before after = after ≡ before
AnswersWith r (outcome.Fault end layer number) before after =
    (more : List ℕ) × (after ≡ before ++ more) × FaultsBy r after end layer number
AnswersWith r o before after =
    (more : List ℕ) × (after ≡ before ++ more) × (length more ≡ came_in o) × HasNoFault r after

-- What deliveries came to, one after the other, where these bytes had come before them, and these have come
-- after them.
abbrev pub AnswerInTurn : Reading → List ℕ → List Outcome → List ℕ → Type 0
AnswerInTurn r before [] came = came ≡ before
AnswerInTurn r before (o ∷ os) came =
    (after : List ℕ) × AnswersWith r o before after × AnswerInTurn r after os came

-- ---- What a report tells of them

-- Whether an event delivers bytes of the connection of this number, this way.
abbrev pub is_delivery : Event → ℕ → Direction → Bool
is_delivery (event.ToServer m most) n ToServer = m == n
is_delivery (event.ToServer m most) n ToClient = false
is_delivery (event.ToClient m most) n ToServer = false
is_delivery (event.ToClient m most) n ToClient = m == n
is_delivery e n d = false

-- What the deliveries this way on this connection came to.
abbrev pub outcomes_on : ℕ → Direction → List Event → List EventReport → List Outcome
outcomes_on n d [] rs = []
outcomes_on n d (e ∷ es) [] = []
outcomes_on n d (e ∷ es) (r ∷ rs) =
    (if is_delivery e n d then r.outcome ∷ [] else []) ++ outcomes_on n d es rs

abbrev pub IsRefused : Outcome → Type 0
IsRefused (outcome.Refused why) = Unit {0}
IsRefused o = ⊥

-- What the callers of this connection were given, in the order in which they asked.
abbrev pub given_to : ℕ → RequestReport → List Token
given_to n q = if q.conn == n then q.tokens else []

abbrev pub given_on : ℕ → List RequestReport → List Token
given_on n requests = flat_map (given_to n) requests

-- Whatever bytes a carrier brought: what the deliveries answered on each connection, each way, is what a
-- reader of packets of this size finds in the bytes that came by then, unless all of them were refused; and
-- what the callers of a connection were given are some of the tokens that are told by the whole packets that
-- came to its client.
pub record ReadsBytes (size : ℕ) (events : List Event) (report : Report) (pipes : ℕ → Option Pipe) : Type 0 where
  pub answers : (n : ℕ) (d : Direction)
      → AllByRecursion IsRefused (outcomes_on n d events report.events)
      ⊎ AnswerInTurn (new_reader d size) [] (outcomes_on n d events report.events) (traffic (pipes n) d).came
  pub tells : (n : ℕ)
      → AreToldBy (new_reader ToClient size) (traffic (pipes n) ToClient).came (given_on n report.requests)
