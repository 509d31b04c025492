-- What the state of each end stands for in the model: the connection that it is an end of.
use Rattle.std.specs.Prelude.{ℕ, ◌+◌, ◌%◌, ◌≡◌, ◌≢◌, ◌≤◌, List, [], ◌++◌, flat_map, nat_lt, Bool, true, false, Option, Some, None}
use Rattle.tds_client.specs.declared.heard.FinalDone.TheVariants.{Awaited}
use Rattle.tds_client.specs.Session as client
use Rattle.tds_client.specs.Session.{ClientSession}
use Rattle.tds_packet.specs.declared.kind.Kind.{Kind}
use Rattle.tds_packet.specs.declared.status.Reset.{Reset}
use Rattle.tds_request.specs.Layout.{kind_of_request, packet_kind}
use Rattle.tds_server.specs.State as server
use Rattle.tds_server.specs.State.{ServerState, Message}
use Rattle.tds_token.specs.Texts.{AreColumns}
use Rattle.tds_world.specs.Connection.{Connection}
use Rattle.tds_world.specs.Entries.{Asking}
use Rattle.tds_world.specs.Lane.{Lane}
use Rattle.tds_world.specs.Phase.{Phase, Settled, Asked, Sending, Reading, Cancelling, phase_of}
use Rattle.tds_world.specs.Record.{Record, packets_of}

-- ---- The client

-- The type of a request's packets.
abbrev pub kind_asked : Asking → Kind
kind_asked a = packet_kind (kind_of_request a.request)

-- Where a client is whose newest request is in this phase.
abbrev pub stage_by : Phase → Record → client.Stage
stage_by Settled q = client.Idle
stage_by Asked q = client.Sending (kind_asked q.asking) q.left (packets_of q.out)
stage_by Sending q = client.Sending (kind_asked q.asking) q.left (packets_of q.out)
stage_by Reading q = client.Reading
stage_by Cancelling q = client.Cancelling

abbrev pub stage_in : Option Record → client.Stage
stage_in None = client.Idle
stage_in (Some q) = stage_by (phase_of q) q

-- Whether a request has a packet to send.
abbrev pub is_sending : Phase → Bool
is_sending Settled = false
is_sending Asked = true
is_sending Sending = true
is_sending Reading = false
is_sending Cancelling = false

-- A request that is asked goes out under the mark of its ask, since no other one is set before it is
-- settled. One that has begun has a packet out.
abbrev pub BeginsBy : Phase → Record → Option Reset → Type 0
BeginsBy Settled q mark = Unit {0}
BeginsBy Asked q mark = q.asking.mark ≡ mark
BeginsBy Sending q mark = 1 ≤ packets_of q.out
BeginsBy Reading q mark = Unit {0}
BeginsBy Cancelling q mark = Unit {0}

abbrev pub BeginsIn : Option Record → Option Reset → Type 0
BeginsIn None mark = Unit {0}
BeginsIn (Some q) mark = BeginsBy (phase_of q) q mark

-- What a client holds is what the model says of its connection. Between two entries nothing is known
-- of a final DONE.
pub record MatchesClient (s : ClientSession) (c : Connection) : Type 0 where
  pub stage : s.stage ≡ stage_in c.current
  pub descriptor : s.heard.descriptor ≡ c.heard
  pub mark : s.heard.mark ≡ c.mark
  pub done : s.heard.done ≡ Awaited
  pub columns : AreColumns s.columns
  pub begins : BeginsIn c.current c.mark

-- ---- The server

-- A message that comes is the newest request's.
abbrev pub IsOf : Message → Option Record → Type 0
IsOf m None = ⊥
IsOf m (Some q) = (m.kind ≡ kind_of_request q.asking.request) × (m.reset ≡ q.asking.mark)

-- Where a server is: the parts that arrived are what came of a message; the answer that is due is
-- what is left of one, the PacketID is that of the next step's place, and the answer has begun where a
-- step was taken.
abbrev pub MatchesPhase : server.Phase → Connection → Type 0
MatchesPhase server.Waiting c = (c.parts ≡ []) × (c.due ≡ [])
MatchesPhase (server.Receiving m) c =
    (m.content ≡ c.parts) × (c.parts ≢ []) × (c.due ≡ []) × IsOf m c.current
MatchesPhase (server.Answering due id begun) c =
    (c.parts ≡ []) × (due ≡ c.due) × (c.due ≢ []) × (id ≡ (c.taken + 1) % 256)
    × (begun ≡ nat_lt 0 c.taken)
MatchesPhase (server.Broken fault) c = ⊥

pub record MatchesServer {E : Type 0} (s : ServerState E) (c : Connection) : Type 0 where
  pub told : s.on_attention ≡ c.on_attention
  pub session : s.session ≡ c.session
  pub phase : MatchesPhase s.phase c

-- ---- What goes out

-- These bytes were sent on a lane, behind all that was sent before, and nothing was delivered.
pub record Sends {Entry : Type 0} (bytes : Entry → List ℕ) (more : List ℕ) (old new : Lane Entry)
    : Type 0 where
  pub waiting : flat_map bytes new.waiting ≡ flat_map bytes old.waiting ++ more
  pub arrived : new.arrived ≡ old.arrived
  pub part : new.part ≡ old.part
