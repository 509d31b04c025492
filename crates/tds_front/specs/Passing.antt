-- An application's end between the application and what is behind it: a connection, and whoever shares it out.
use Rattle.std.specs.Prelude.{◌≡◌, ℕ, nat_lt, Bool, true, List, [], ◌∷◌, Option, Some, None, Result, Ok, Err, if◌then◌else◌}
use Rattle.tds_packet.specs.declared.kind.Kind.{Kind}
use Rattle.tds_front.specs.declared.fault.FrontFault.{FrontFault}
use Rattle.tds_front.specs.declared.front.Due.{Due}
use Rattle.tds_front.specs.declared.front.Due.TheVariants as due
use Rattle.tds_front.specs.declared.front.Fed.{Fed}
use Rattle.tds_front.specs.declared.front.Said.{Said}
use Rattle.tds_front.specs.declared.front.Said.TheVariants as said
use Rattle.tds_front.specs.declared.stage.Action.{Action}
use Rattle.tds_front.specs.declared.stage.Action.TheVariants as actions
use Rattle.tds_front.specs.declared.stage.Head.{Head}
use Rattle.tds_front.specs.declared.stage.Stage.{Stage}
use Rattle.tds_front.specs.declared.stage.Stage.TheVariants as stages
use Rattle.tds_front.specs.Rules as rules
use Rattle.tds_front.specs.Rules.{taken}
use Rattle.tds_front.specs.Serving.{More, Whole, Ignored, Attention, Wrong, ServerReply, Tokens, Ends, Acknowledges, Happening, Comes, Goes, Closes, brings_message, begun_behind}

pub data FrontEvent : Type 0 where
  -- a packet of the application
  Packet : (head : Head) → FrontEvent
  -- bytes of it that are no packet of a client's, or no headers of a request (MS-TDS 2.2.3.1, 2.2.5.3)
  Refuses : (fault : FrontFault) → FrontEvent
  -- something of its request goes on, the last of it or not
  GoesOn : (last : Bool) → FrontEvent
  -- what is behind says this, and it goes to the application
  Says : (reply : ServerReply) → FrontEvent

abbrev pub stage_behind_reply : Stage → ServerReply → Stage
stage_behind_reply stage Tokens = stage
stage_behind_reply stage Ends = rules.answered stage
stage_behind_reply stage Acknowledges = rules.acknowledged stage

-- ---- Towards the application

-- what the end does by itself: it acknowledges an attention, or closes
abbrev pub with_own : Result Action FrontFault → List Happening → List Happening
with_own (Ok actions.Acknowledge) later = Goes Acknowledges ∷ later
with_own (Ok action) later = later
with_own (Err fault) later = Closes ∷ later

-- once it is closed, nothing goes to it
abbrev pub with_reply : Stage → ServerReply → List Happening → List Happening
with_reply (stages.Broken fault) reply later = later
with_reply stage reply later = Goes reply ∷ later

-- what comes of the application, and what goes to it
abbrev pub towards : Option Kind → Stage → List FrontEvent → List Happening
towards begun stage [] = []
towards begun stage (Packet head ∷ events) =
    Comes (brings_message begun head) ∷ with_own (taken stage head).does (towards (begun_behind begun head) (taken stage head).stage events)
towards begun stage (Refuses fault ∷ events) =
    Comes Wrong ∷ with_own (rules.refuses stage fault).does (towards None (rules.refuses stage fault).stage events)
towards begun stage (GoesOn last ∷ events) = towards begun (rules.request_went_on stage) events
towards begun stage (Says reply ∷ events) = with_reply stage reply (towards begun (stage_behind_reply stage reply) events)

-- ---- Behind it

-- Of a request that has gone on in part, it is told that it is to be ignored; and it is handed attentions.
abbrev pub with_told : Result Action FrontFault → List Happening → List Happening
with_told (Ok (actions.Forget true)) later = Comes Ignored ∷ later
with_told (Ok actions.HandOn) later = Comes Attention ∷ later
with_told does later = later

-- what goes on, and what is said there
abbrev pub happenings_of : Stage → List FrontEvent → List Happening
happenings_of stage [] = []
happenings_of stage (Packet head ∷ events) = with_told (taken stage head).does (happenings_of (taken stage head).stage events)
happenings_of stage (Refuses fault ∷ events) = happenings_of (rules.refuses stage fault).stage events
happenings_of stage (GoesOn last ∷ events) = Comes (if last then Whole else More) ∷ happenings_of (rules.request_went_on stage) events
happenings_of stage (Says reply ∷ events) = Goes reply ∷ happenings_of (stage_behind_reply stage reply) events

-- where its end has come
abbrev pub EndsAt : Bool → Stage → Type 0
EndsAt true stages.Quiet = ⊥
EndsAt true (stages.Receiving kind gone) = ⊥
EndsAt last stage = Unit {0}

-- The last of a request goes on only where its end has come.
abbrev pub EndsWhole : Stage → List FrontEvent → Type 0
EndsWhole stage [] = Unit {0}
EndsWhole stage (Packet head ∷ events) = EndsWhole (taken stage head).stage events
EndsWhole stage (Refuses fault ∷ events) = EndsWhole (rules.refuses stage fault).stage events
EndsWhole stage (GoesOn last ∷ events) = EndsAt last stage × EndsWhole (rules.request_went_on stage) events
EndsWhole stage (Says reply ∷ events) = EndsWhole (stage_behind_reply stage reply) events

-- ---- What a call with bytes is of these

-- the packet whose header ends with the first of them, which is judged by it
abbrev pub judged : Due → List ℕ → Option Head
judged due [] = None
judged (due.Rest head left) (byte ∷ bytes) = if nat_lt 1 left then None else Some head
judged due (byte ∷ bytes) = None

abbrev pub stage_judged : Stage → Option Head → Stage
stage_judged stage None = stage
stage_judged stage (Some head) = (taken stage head).stage

-- where the application is then: the packet leads there, and a fault
abbrev pub stage_fed : Stage → Option Head → Result Fed FrontFault → Stage
stage_fed stage packet (Ok fed) = stage_judged stage packet
stage_fed stage packet (Err fault) = (rules.refuses (stage_judged stage packet) fault).stage

-- and what is answered of a packet
abbrev pub IsSaid : Result Action FrontFault → Said → Type 0
IsSaid (Ok (actions.Begin kind reset)) answer = answer ≡ said.Begin kind reset
IsSaid (Ok actions.Go) said.Nothing = Unit {0}
IsSaid (Ok actions.Go) (said.End count) = count ≡ 0
IsSaid (Ok (actions.Forget gone)) answer = answer ≡ said.Forget gone
IsSaid (Ok actions.Acknowledge) answer = answer ≡ said.Acknowledge
IsSaid (Ok actions.HandOn) answer = answer ≡ said.HandOn
IsSaid does answer = ⊥

-- of other bytes
abbrev pub IsData : Said → Type 0
IsData said.Nothing = Unit {0}
IsData (said.Body count) = Unit {0}
IsData (said.End count) = Unit {0}
IsData answer = ⊥

-- a request's end is told where it is whole
abbrev pub IsWholeRequest : Stage → Type 0
IsWholeRequest (stages.Underway gone) = Unit {0}
IsWholeRequest stage = ⊥

abbrev pub EndsOf : Said → Stage → Type 0
EndsOf (said.End count) stage = IsWholeRequest stage
EndsOf answer stage = Unit {0}

abbrev pub SaysOf : Stage → Option Head → Result Fed FrontFault → Type 0
SaysOf stage None (Ok fed) = IsData fed.said
SaysOf stage (Some head) (Ok fed) = IsSaid (taken stage head).does fed.said
SaysOf stage packet (Err fault) = Unit {0}

abbrev pub EndsWhere : Stage → Result Fed FrontFault → Type 0
EndsWhere stage (Ok fed) = EndsOf fed.said stage
EndsWhere stage (Err fault) = Unit {0}
