-- One connection of a service, as a machine: who asks, sends and cancels on it, and what is heard there.
use Rattle.std.specs.Prelude.{ℕ, suc, Bool, true, false, List, [], ◌∷◌, Option, Some, None, Result, Ok, Err}
use Rattle.tds_packet.specs.declared.status.Reset.{Reset}
use Rattle.tds_packet.specs.Resets.{strongest, header_descriptor}
use Rattle.tds_client.specs.declared.fault.ClientFault.{ClientFault}
use Rattle.tds_client.specs.declared.fault.ClientFault.TheVariants as faults
use Rattle.tds_listen.specs.declared.fault.ListenFault.{ListenFault}
use Rattle.tds_listen.specs.declared.fault.ListenFault.TheVariants as listens
use Rattle.tds_client.specs.declared.fault.ClientRefusal.{ClientRefusal}
use Rattle.tds_client.specs.declared.fault.ClientRefusal.TheVariants as refusals
use Rattle.tds_client.specs.declared.heard.Heard.{Heard}
use Rattle.tds_client.specs.declared.heard.FinalDone.{FinalDone}
use Rattle.tds_client.specs.declared.heard.FinalDone.TheVariants.{Awaited, Answered, Acknowledged}
use Rattle.tds_client.specs.Hearing.{with_done}
use Rattle.tds_service.specs.Parts.{Part, is_end, items_told, hear_part, heard_until}

-- Where the newest request is.
pub data LineStage : Type 0 where
  Idle : LineStage
  Sending : (begun : Bool) → LineStage
  Reading : LineStage
  Cancelling : LineStage
  Broken : (fault : ClientFault) → LineStage

-- A connection: how many requests were asked on it, which are their numbers; where the newest is; what was heard.
pub record Line : Type 0 where
  pub asked : ℕ
  pub stage : LineStage
  pub heard : Heard

abbrev pub new_line : Line
new_line = record { asked = 0; stage = Idle; heard = record { descriptor = 0; mark = None; done = Awaited } }

-- ---- What can be done there

pub data Act (T : Type 0) : Type 0 where
  Mark : (reset : Reset) → Act T
  Ask : Act T
  -- the next packet of the request; whether it is the last
  Send : (last : Bool) → Act T
  Cancel : Act T
  Come : (part : Part T) → Act T
  Lose : Act T

-- What goes out: a packet of a request, its first one or not, which asks for a reset or not, and ends its message or not; an end of
-- the message by which the server ignores it; an attention.
pub data Packet : Type 0 where
  OfRequest : (request : ℕ) (first : Bool) (reset : Option Reset) (last : Bool) → Packet
  Ignore : (request : ℕ) → Packet
  Attention : Packet

-- What is answered.
pub data Answer : Type 0 where
  Refused : (why : ClientRefusal) → Answer
  Marked : Answer
  -- the request's number, and the transaction that its header names
  Asked : (request descriptor : ℕ) → Answer
  Sent : Answer
  -- nothing was underway; an attention is out already; no packet was out; an attention is out now
  Nothing : Answer
  Already : Answer
  Unsent : (request : ℕ) → Answer
  Stopped : (request : ℕ) → Answer
  -- the message goes on, or the acknowledgement is to come; a request's answer ended; its cancel is acknowledged
  More : Answer
  Finished : (request : ℕ) → Answer
  Acked : (request : ℕ) → Answer
  Fault : (fault : ListenFault) → Answer
  Lost : Answer

-- What is told, and to which request.
pub data Told (T : Type 0) : Type 0 where
  Nobody : Told T
  To : (request : ℕ) (tokens : List T) → Told T

pub record Turn (T : Type 0) : Type 0 where
  pub line : Line
  pub answer : Answer
  pub sent : List Packet
  pub told : Told T

abbrev pub quiet : {T : Type 0} → Line → Answer → Turn T
quiet l answer = record { line = l; answer = answer; sent = []; told = Nobody }

abbrev pub refused : {T : Type 0} → Line → ClientRefusal → Turn T
refused l why = quiet l (Refused why)

abbrev pub at : Line → LineStage → Line
at l stage = record { asked = l.asked; stage = stage; heard = l.heard }

-- ---- Marking and asking, while idle

abbrev pub marked : Line → Reset → Line
marked l reset = record {
  asked = l.asked;
  stage = l.stage;
  heard = record { descriptor = l.heard.descriptor; mark = strongest (Some reset) l.heard.mark; done = l.heard.done };
}

abbrev pub marks : {T : Type 0} → Line → Reset → LineStage → Turn T
marks l reset Idle = quiet (marked l reset) Marked
marks l reset (Sending begun) = refused l refusals.NotIdle
marks l reset Reading = refused l refusals.NotIdle
marks l reset Cancelling = refused l refusals.NotIdle
marks l reset (Broken fault) = refused l refusals.Broken

abbrev pub asked : Line → Line
asked l = record { asked = suc l.asked; stage = Sending false; heard = l.heard }

abbrev pub asks : {T : Type 0} → Line → LineStage → Turn T
asks l Idle = quiet (asked l) (Asked (suc l.asked) (header_descriptor l.heard.mark l.heard.descriptor))
asks l (Sending begun) = refused l refusals.NotIdle
asks l Reading = refused l refusals.NotIdle
asks l Cancelling = refused l refusals.NotIdle
asks l (Broken fault) = refused l refusals.Broken

-- ---- Sending

-- The mark stands on a request's first packet alone.
abbrev pub mark_on : Bool → Option Reset → Option Reset
mark_on false mark = mark
mark_on true mark = None

abbrev pub not_begun : Bool → Bool
not_begun false = true
not_begun true = false

abbrev pub stage_behind : Bool → LineStage
stage_behind false = Sending true
stage_behind true = Reading

abbrev pub sends : {T : Type 0} → Line → Bool → LineStage → Turn T
sends l last Idle = refused l refusals.NotSending
sends l last (Sending begun) = record {
  line = at l (stage_behind last);
  answer = Sent;
  sent = OfRequest l.asked (not_begun begun) (mark_on begun l.heard.mark) last ∷ [];
  told = Nobody;
}
sends l last Reading = refused l refusals.NotSending
sends l last Cancelling = refused l refusals.NotSending
sends l last (Broken fault) = refused l refusals.Broken

-- ---- Cancelling

abbrev pub cancels : {T : Type 0} → Line → LineStage → Turn T
cancels l Idle = quiet l Nothing
cancels l (Sending false) = quiet (at l Idle) (Unsent l.asked)
cancels l (Sending true) =
    record { line = at l Cancelling; answer = Stopped l.asked; sent = Ignore l.asked ∷ Attention ∷ []; told = Nobody }
cancels l Reading = record { line = at l Cancelling; answer = Stopped l.asked; sent = Attention ∷ []; told = Nobody }
cancels l Cancelling = quiet l Already
cancels l (Broken fault) = refused l refusals.Broken

-- ---- Hearing

abbrev pub heard_at : Line → LineStage → Heard → Line
heard_at l stage heard = record { asked = l.asked; stage = stage; heard = heard }

-- What a connection is broken by.
abbrev pub cause : ListenFault → ClientFault
cause (listens.Client fault) = fault
cause (listens.Wire refusal) = faults.Lost
cause listens.Cut = faults.Lost
cause listens.ResetUnanswered = faults.Lost

-- What was heard before the fault is known still. The message is over where it had its end without the reset's.
abbrev pub left_by : ListenFault → Heard → Heard
left_by (listens.Client fault) heard = heard
left_by (listens.Wire refusal) heard = heard
left_by listens.Cut heard = heard
left_by listens.ResetUnanswered heard = with_done heard Awaited

abbrev pub breaks : {T : Type 0} → Line → Heard → ListenFault → Turn T
breaks l heard fault = quiet (heard_at l (Broken (cause fault)) (left_by fault heard)) (Fault fault)

abbrev pub breaks_as : {T : Type 0} → Line → ClientFault → Turn T
breaks_as l fault = breaks l l.heard (listens.Client fault)

-- The answer of a request that is awaited; `until` is what was heard up to a fault.
abbrev pub reads : {T : Type 0} → Line → Part T → Bool → Heard → Result Heard ListenFault → Turn T
reads l part ends until (Err fault) = breaks l until fault
reads l part false until (Ok heard) =
    record { line = heard_at l Reading heard; answer = More; sent = []; told = To l.asked (items_told part.items) }
reads l part true until (Ok heard) =
    record { line = heard_at l Idle (with_done heard Awaited); answer = Finished l.asked; sent = []; told = To l.asked (items_told part.items) }

-- What comes behind a cancel.
abbrev pub skips_to_end : {T : Type 0} → Line → Heard → FinalDone → Turn T
skips_to_end l heard Awaited = quiet (heard_at l Cancelling (with_done heard Awaited)) More
skips_to_end l heard Answered = quiet (heard_at l Cancelling (with_done heard Awaited)) More
skips_to_end l heard Acknowledged = quiet (heard_at l Idle (with_done heard Awaited)) (Acked l.asked)

abbrev pub skips : {T : Type 0} → Line → Bool → Heard → Result Heard ListenFault → Turn T
skips l ends until (Err fault) = breaks l until fault
skips l false until (Ok heard) = quiet (heard_at l Cancelling heard) More
skips l true until (Ok heard) = skips_to_end l heard heard.done

abbrev pub comes : {T : Type 0} → Line → Part T → LineStage → Turn T
comes l part Idle = breaks_as l faults.AnswerInIdle
comes l part (Sending begun) = breaks_as l faults.AnswerInSending
comes l part Reading = reads l part (is_end part.close) (heard_until false l.heard part.items) (hear_part false l.heard part)
comes l part Cancelling = skips l (is_end part.close) (heard_until true l.heard part.items) (hear_part true l.heard part)
comes l part (Broken fault) = breaks_as l fault

-- ---- All

abbrev pub line_loses : {T : Type 0} → Line → LineStage → Turn T
line_loses l (Broken fault) = quiet l Lost
line_loses l _ = quiet (at l (Broken faults.Lost)) Lost

abbrev pub line_turn : {T : Type 0} → Line → Act T → Turn T
line_turn l (Mark reset) = marks l reset l.stage
line_turn l Ask = asks l l.stage
line_turn l (Send last) = sends l last l.stage
line_turn l Cancel = cancels l l.stage
line_turn l (Come part) = comes l part l.stage
line_turn l Lose = line_loses l l.stage
