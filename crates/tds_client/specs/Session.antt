-- What a client is seen as, between two calls.
use Rattle.std.specs.Prelude.{ℕ, List, Option, Some, None}
use Rattle.tds_packet.specs.declared.kind.Kind.{Kind}
use Rattle.tds_packet.specs.declared.status.Reset.{Reset}
use Rattle.tds_packet.specs.Resets.{strongest}
use Rattle.tds_client.specs.declared.fault.ClientFault.{ClientFault}
use Rattle.tds_client.specs.declared.fault.ClientFault.TheVariants as faults
use Rattle.tds_client.specs.declared.fault.ClientRefusal.{ClientRefusal}
use Rattle.tds_client.specs.declared.fault.ClientRefusal.TheVariants as refusals
use Rattle.tds_client.specs.declared.state.ClientState.{ClientState}
use Rattle.tds_client.specs.declared.state.ClientState.TheVariants as states
use Rattle.tds_client.specs.declared.heard.Heard.{Heard}
use Rattle.tds_client.specs.declared.heard.FinalDone.TheVariants.{Awaited}

-- Where a request is: none is underway; this many packets of this type are out, with these bytes of the message left; all of it
-- is out, and the answer comes; an attention is out. Or the client is broken.
pub data Stage : Type 0 where
  Idle : Stage
  Sending : (kind : Kind) (left : List ℕ) (packets : ℕ) → Stage
  Reading : Stage
  Cancelling : Stage
  Broken : (fault : ClientFault) → Stage

pub record ClientSession : Type 0 where
  -- the packet size, in bytes
  pub size : ℕ
  pub stage : Stage
  -- the descriptor that was heard, the mark, and how the message that comes stands
  pub heard : Heard
  -- the columns that are known inside the message that comes
  pub columns : Option ℕ

-- A new client: idle, descriptor 0, no mark.
abbrev pub new_session : ℕ → ClientSession
new_session size = record { size = size; stage = Idle; heard = record { descriptor = 0; mark = None; done = Awaited }; columns = None }

-- The state that is shown.
abbrev pub state_of : Stage → ClientState
state_of Idle = states.Idle
state_of (Sending kind left packets) = states.Sending
state_of Reading = states.Reading
state_of Cancelling = states.Cancelling
state_of (Broken fault) = states.Broken fault

-- The same client elsewhere.
abbrev pub with_stage : ClientSession → Stage → ClientSession
with_stage s stage = record s { stage = stage }

-- ---- A connection that is lost

-- A client that is broken stays as it is.
abbrev pub lost_stage : Stage → Stage
lost_stage Idle = Broken faults.Lost
lost_stage (Sending kind left packets) = Broken faults.Lost
lost_stage Reading = Broken faults.Lost
lost_stage Cancelling = Broken faults.Lost
lost_stage (Broken fault) = Broken fault

abbrev pub lost : ClientSession → ClientSession
lost s = with_stage s (lost_stage s.stage)

-- ---- Refusals

-- Why a call that wants an idle client is refused, if it is.
abbrev pub unless_idle : Stage → Option ClientRefusal
unless_idle Idle = None
unless_idle (Sending kind left packets) = Some refusals.NotIdle
unless_idle Reading = Some refusals.NotIdle
unless_idle Cancelling = Some refusals.NotIdle
unless_idle (Broken fault) = Some refusals.Broken

-- ---- The mark: the reset that the next request asks for (MS-TDS 2.2.3.1.2)

-- Of two marks the stronger one stays.
abbrev pub marked : ClientSession → Reset → ClientSession
marked s reset = record s { heard = record s.heard { mark = strongest (Some reset) s.heard.mark } }
