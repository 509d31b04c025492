-- What an application's end promises, over any list of what it meets: packets, and what is heard of the server.
use Rattle.std.specs.Prelude.{ℕ, ◌+◌, ◌&&◌, Bool, true, false, List, [], ◌∷◌, Result, Ok, Err}
use Rattle.tds_packet.specs.declared.kind.Kind.{Kind}
use Rattle.tds_packet.specs.declared.kind.Kind.TheVariants as kinds
use Rattle.tds_front.specs.declared.fault.FrontFault.{FrontFault}
use Rattle.tds_front.specs.declared.stage.Action.{Action}
use Rattle.tds_front.specs.declared.stage.Action.TheVariants.{Begin, Go, Forget, Acknowledge, HandOn}
use Rattle.tds_front.specs.declared.stage.Head.{Head}
use Rattle.tds_front.specs.declared.stage.Stage.{Stage}
use Rattle.tds_front.specs.declared.stage.Stage.TheVariants.{Quiet, Receiving, Underway, Stopping, Broken}
use Rattle.tds_front.specs.Rules.{taken, request_went_on, answered, acknowledged}

pub data Event : Type 0 where
  Packet : (head : Head) → Event
  WentOn : Event
  Answered : Event
  Acknowledged : Event

abbrev pub stage_by : Stage → Event → Stage
stage_by stage (Packet head) = (taken stage head).stage
stage_by stage WentOn = request_went_on stage
stage_by stage Answered = answered stage
stage_by stage Acknowledged = acknowledged stage

abbrev pub stage_after : Stage → List Event → Stage
stage_after stage [] = stage
stage_after stage (event ∷ events) = stage_after (stage_by stage event) events

-- ---- Attentions, and who acknowledges them

abbrev pub one_if : Bool → ℕ
one_if true = 1
one_if false = 0

abbrev pub is_here : Result Action FrontFault → Bool
is_here (Ok Acknowledge) = true
is_here _ = false

abbrev pub is_handed_on : Result Action FrontFault → Bool
is_handed_on (Ok HandOn) = true
is_handed_on _ = false

abbrev pub is_taken : Result Action FrontFault → Bool
is_taken (Ok action) = true
is_taken (Err fault) = false

abbrev pub is_attention : Kind → Bool
is_attention kinds.Attention = true
is_attention _ = false

abbrev pub is_stopping : Stage → Bool
is_stopping Stopping = true
is_stopping _ = false

-- of one event, met at a stage: an attention that was taken; one that is acknowledged here; one that was handed on; the server's
-- acknowledgement of one
abbrev pub taken_in : Stage → Event → ℕ
taken_in stage (Packet head) = one_if (is_attention head.kind && is_taken (taken stage head).does)
taken_in stage WentOn = 0
taken_in stage Answered = 0
taken_in stage Acknowledged = 0

abbrev pub here_in : Stage → Event → ℕ
here_in stage (Packet head) = one_if (is_here (taken stage head).does)
here_in stage WentOn = 0
here_in stage Answered = 0
here_in stage Acknowledged = 0

abbrev pub handed_in : Stage → Event → ℕ
handed_in stage (Packet head) = one_if (is_handed_on (taken stage head).does)
handed_in stage WentOn = 0
handed_in stage Answered = 0
handed_in stage Acknowledged = 0

abbrev pub settled_in : Stage → Event → ℕ
settled_in stage (Packet head) = 0
settled_in stage WentOn = 0
settled_in stage Answered = 0
settled_in stage Acknowledged = one_if (is_stopping stage)

-- how many along events
abbrev pub count : (Stage → Event → ℕ) → Stage → List Event → ℕ
count of stage [] = 0
count of stage (event ∷ events) = of stage event + count of (stage_by stage event) events

-- ---- What of requests is handed on

-- whether a packet's data are
abbrev pub is_passed : Result Action FrontFault → Bool
is_passed (Ok (Begin kind reset)) = true
is_passed (Ok Go) = true
is_passed _ = false

-- a request is whole, or its attention isn't acknowledged
abbrev pub is_whole : Stage → Bool
is_whole Quiet = false
is_whole (Receiving kind gone) = false
is_whole (Underway gone) = true
is_whole Stopping = true
is_whole (Broken fault) = true

-- something of a request is at the server
abbrev pub is_gone : Stage → Bool
is_gone Quiet = false
is_gone (Receiving kind gone) = gone
is_gone (Underway gone) = gone
is_gone Stopping = true
is_gone (Broken fault) = false
