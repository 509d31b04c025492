-- What somebody sees between an application and its end of a relay (tds_relay): its packets, and what it is given, in the judge's words.
use Rattle.std.specs.Prelude.{◌≡◌, ◌⊎◌, ℕ, ◌==◌, ◌||◌, Bool, true, false, List, [], ◌∷◌, Option, Some, None, Result, Ok, Err, if◌then◌else◌}
use Rattle.tds_packet.specs.Layout.{bits_of}
use Rattle.tds_token.specs.declared.env_change.EnvChange.TheVariants as changes
use Rattle.tds_client.specs.declared.sign.Sign.{Sign}
use Rattle.tds_client.specs.declared.sign.Sign.TheVariants as signs
use Rattle.tds_wire.specs.declared.told.ChangeValue.TheVariants as values
use Rattle.tds_wire.specs.declared.told.Told.TheVariants as told
use Rattle.tds_wire.specs.declared.told.Token.{Token}
use Rattle.tds_service.specs.History.{acts_of}
use Rattle.tds_service.specs.Parts.{Item, Part, is_end}
use Rattle.tds_front.specs.declared.fault.FrontFault.{FrontFault}
use Rattle.tds_front.specs.declared.stage.Action.{Action}
use Rattle.tds_front.specs.declared.stage.Action.TheVariants as actions
use Rattle.tds_front.specs.declared.stage.Head.{Head}
use Rattle.tds_front.specs.declared.stage.Stage.{Stage}
use Rattle.tds_front.specs.declared.stage.Stage.TheVariants as stages
use Rattle.tds_front.specs.Passing.{judged}
use Rattle.tds_front.specs.Rules.{taken}
use Rattle.tds_relay.specs.Pool.{Event, Sharing, whose}
use Rattle.tds_relay.specs.Fronting.{done_on}
use Rattle.tds_relay.specs.Giving.{Given, Visit, machine_at_visit}
use Rattle.tds_relay.specs.Core.{End, Open, end_at}
use Rattle.tds_relay.specs.Machine.{Machine, Step, Takes, Hands, Manner, Whole, Without, Withheld, after, owed}
use Rattle.tds_judge.specs.declared.talk.Event as talk
use Rattle.tds_judge.specs.declared.talk.Event.TheVariants as events
use Rattle.tds_judge.specs.Conversation.{May, Place, Answering, place_of}
use Rattle.tds_judge.specs.History.{Said, last_told}
use Rattle.tds_judge.specs.Talking.{changes_wrongly}
use Rattle.laws_never_blamed.specs.Seen.{AllBehindLogin, Eye, sees, sees_begin, sees_come, sees_names, sees_packet, sees_request}

-- ---- What is left open

-- the news of a reset (MS-TDS 2.2.7.9, type 18)
abbrev pub IsNews : Sign → Type 0
IsNews (signs.Change changes.ResetDone) = Unit {0}
IsNews _ = ⊥

-- Of these tokens the others are left, in order, and those that are left out are news of a reset.
abbrev pub LeavesOut : List (Item Token) → List (Item Token) → Type 0
LeavesOut [] left = left ≡ []
LeavesOut (item ∷ items) left = ((rest : List (Item Token)) × (left ≡ item ∷ rest) × LeavesOut items rest) ⊎ (IsNews item.sign × LeavesOut items left)

-- Beside what an eye leaves open: the transaction that the next request names, and which news a packet lacks that is handed on without some.
pub record Side : Type 0 where
  pub eye : Eye
  pub names : List Said → ℕ
  pub leaves : List Said → List (Item Token) → List (Item Token)
  pub news_only : (past : List Said) (items : List (Item Token)) → LeavesOut items (leaves past items)

-- ---- A packet of the application (MS-TDS 2.2.3.1.2, 2.2.1.7)

abbrev pub sees_asked : Side → List Said → List Said
sees_asked s past = sees_names s.eye (s.names past) past

abbrev pub sees_first : Side → List Said → Head → List Said
sees_first s past head = sees_asked s (sees_request s.eye (sees_packet s.eye past) (bits_of head.status))

abbrev pub sees_more : Side → List Said → Head → List Said
sees_more s past head = sees s.eye (sees_packet s.eye past) (events.Later (bits_of head.status))

-- the last of a message that is to be ignored, which is its first one or not
abbrev pub sees_dropped : Side → Stage → List Said → Head → List Said
sees_dropped s stages.Quiet past head = sees s.eye (sees_first s past head) events.Ignored
sees_dropped s stage past head = sees s.eye (sees_more s past head) events.Ignored

abbrev pub sees_attention : Side → List Said → List Said
sees_attention s past = sees s.eye (sees s.eye past (events.Packet 8 false)) (events.Attention 8 1)

-- By what its end takes it for. By one that breaks the rules it is closed, and that isn't seen.
abbrev pub sees_head : Side → Stage → List Said → Head → Result Action FrontFault → List Said
sees_head s stage past head (Ok (actions.Begin kind reset)) = sees_first s past head
sees_head s stage past head (Ok actions.Go) = sees_more s past head
sees_head s stage past head (Ok (actions.Forget gone)) = sees_dropped s stage past head
sees_head s stage past head (Ok actions.Acknowledge) = sees_attention s past
sees_head s stage past head (Ok actions.HandOn) = sees_attention s past
sees_head s stage past head (Err fault) = past

-- the packet whose header ends with these bytes
abbrev pub sees_judged : Side → Stage → List Said → Option Head → List Said
sees_judged s stage past None = past
sees_judged s stage past (Some head) = sees_head s stage past head (taken stage head).does

-- ---- What it is given

-- a DONE with bit 0020, and an ENVCHANGE of type 18
abbrev pub own_acknowledgement : Token
own_acknowledgement = record { kind = 0xFD; start = 0; length = 13; told = told.Done (record { status = 32; command = 0; count = 0 }) }

abbrev pub own_news : Token
own_news = record { kind = 0xE3; start = 0; length = 6; told = told.Change (record { kind = 18; value = values.ResetDone }) }

-- its end's own acknowledgement, a message of one packet
abbrev pub sees_owed : Side → List Said → Option Given → List Said
sees_owed s past None = past
sees_owed s past (Some pieces) =
    sees s.eye (sees s.eye (sees s.eye (sees_packet s.eye past) events.Answer) (events.Says own_acknowledgement)) (events.Answered true)

-- the relay's own news, in a packet before another one
abbrev pub sees_news : Side → Bool → List Said → Bool → List Said
sees_news s begun past false = past
sees_news s begun past true = sees s.eye (sees_begin s.eye begun (sees_packet s.eye past)) (events.Says own_news)

abbrev pub sees_told : Side → Bool → List Said → Bool → Part Token → List Said
sees_told s begun past tells part = sees_come s.eye (tells || begun) (sees_news s begun past tells) part

-- the part that is left of it
abbrev pub left_part : Side → List Said → Part Token → Part Token
left_part s past part = record { items = s.leaves past part.items; close = part.close }

abbrev pub sees_handed : Side → Bool → List Said → Manner → Part Token → List Said
sees_handed s begun past (Whole tells) part = sees_told s begun past tells part
sees_handed s begun past (Without tells bytes) part = sees_told s begun past tells (left_part s past part)
sees_handed s begun past Withheld part = past

-- ---- All of it

-- whether a message goes to it that has begun, and what was seen so far
pub record Sight : Type 0 where
  pub begun : Bool
  pub past : List Said

abbrev pub goes_on_behind : Bool → Manner → Part Token → Bool
goes_on_behind begun (Whole tells) part = if is_end part.close then false else true
goes_on_behind begun (Without tells bytes) part = if is_end part.close then false else true
goes_on_behind begun Withheld part = begun

abbrev pub sees_bytes : Side → List ℕ → Option End → List Said → List Said
sees_bytes s bytes (Some (Open front withdrawn asks)) past =
    sees_owed s (sees_judged s front.stage past (judged front.due bytes)) (owed bytes (Some (Open front withdrawn asks)))
sees_bytes s bytes end past = past

abbrev pub sees_its : ℕ → Option ℕ → Sight → Sight → Sight
sees_its key None before behind = before
sees_its key (Some other) before behind = if other == key then behind else before

abbrev pub sees_step : Side → ℕ → Machine → Step → Sight → Sight
sees_step s key h (Hands number header content part way manner) x =
    sees_its key (whose h.core.pool number) x (record { begun = goes_on_behind x.begun manner part; past = sees_handed s x.begun x.past manner part })
sees_step s key h (Takes other bytes) x =
    sees_its key (Some other) x (record { begun = x.begun; past = sees_bytes s bytes (end_at h.core.ends key) x.past })
sees_step s key h step x = x

abbrev pub sees_steps : Side → ℕ → Machine → List Step → Sight → Sight
sees_steps s key h [] x = x
sees_steps s key h (step ∷ steps) x = sees_steps s key (after h step) steps (sees_step s key h step x)

-- From where an application has come: nothing was seen.
abbrev pub relayed : {sharing : Sharing} {key : ℕ} → Side → Visit sharing key → List Said
relayed {sharing} {key} s v = (sees_steps s key (machine_at_visit v) v.since (record { begun = false; past = [] })).past

-- ---- What is supposed

-- All that comes on each connection is as behind a login, whatever is done at the pool by these.
abbrev pub ComeBehindLogin : Sharing → List Event → Type 0
ComeBehindLogin sharing done = (number : ℕ) → AllBehindLogin (acts_of (done_on sharing number done))

-- the newest DONE of the answer that ends says that no more come (MS-TDS 2.2.7.6)
abbrev pub EndsFinally : Place → Type 0
EndsFinally (Answering reset final) = final ≡ true
EndsFinally place = Unit {0}

-- The application breaks no rule of the judge's. Of what servers say each change of a transaction fits what it was told last, and an answer
-- ends behind a final DONE.
abbrev pub Supposed : List Said → talk.Event → Type 0
Supposed past (events.Request status bulk) = May past (events.Request status bulk)
Supposed past (events.Attention size status) = May past (events.Attention size status)
Supposed past (events.Later status) = May past (events.Later status)
Supposed past (events.Names descriptor) = May past (events.Names descriptor)
Supposed past (events.Says token) = changes_wrongly (last_told past) token ≡ false
Supposed past (events.Answered whole) = EndsFinally (place_of past)
Supposed past _ = Unit {0}

unfoldable pub AllSupposed : List Said → Type 0
AllSupposed [] = Unit {0}
AllSupposed (x ∷ past) = AllSupposed past × Supposed past x.event
