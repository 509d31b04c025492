-- What happens at a relay, one thing after the other: how the ends of applications move with the pool, and what each application is given
-- by that. One total function.
use Rattle.std.specs.Prelude.{◌≡◌, ◌&&◌, ℕ, ◌+◌, not, Bool, true, false, List, [], ◌∷◌, ◌++◌, length, Option, Some, None, IsSome, is_some, Result, Ok, Err, slice_set}
use Rattle.tds_packet.specs.declared.header.Header.{Header}
use Rattle.tds_packet.specs.Layout.{header_bytes}
use Rattle.tds_front.specs.declared.fault.FrontFault.{FrontFault}
use Rattle.tds_front.specs.declared.front.Fed.{Fed}
use Rattle.tds_front.specs.declared.front.Said.{Said}
use Rattle.tds_front.specs.declared.front.Said.TheVariants as said
use Rattle.tds_front.specs.Bytes.{fed}
use Rattle.tds_wire.specs.declared.told.Token.{Token}
use Rattle.tds_wire.specs.Reading.{Parser}
use Rattle.tds_token.specs.declared.env_change.EnvChange.TheVariants as changes
use Rattle.tds_client.specs.declared.sign.Sign.{Sign}
use Rattle.tds_client.specs.declared.sign.Sign.TheVariants as signs
use Rattle.tds_service.specs.Parts.{Item, Part}
use Rattle.tds_relay.specs.declared.pool.coming.What.{What}
use Rattle.tds_relay.specs.declared.pool.coming.What.TheVariants as whats
use Rattle.tds_relay.specs.declared.link.Answer.{Answer}
use Rattle.tds_relay.specs.Cutting.{IsCut, is_last_packet}
use Rattle.tds_relay.specs.Pool.{Sharing, Way, owes_reset, whose}
use Rattle.tds_relay.specs.Core as core
use Rattle.tds_relay.specs.Core.{End, Open, Over, EndList, Core, Move, CausesMove, HasEntered, IsQuiet, MayMove, dones_of_part, end_at, moved_all, new_core, what_in}
use Rattle.tds_relay.specs.Queues as waiting
use Rattle.tds_relay.specs.Queues.{Queue, Queues, acknowledgement, change, news, put_behind, without_first}
use Rattle.tds_relay.specs.Promises.{Each, one_if}
use Rattle.tds_relay.specs.Ties.{Cause, Neither, part_on}

-- The core, and what waits to be sent to each application.
pub record Machine : Type 0 where
  pub core : Core
  pub queues : Queues

abbrev pub new_machine : Sharing → Machine
new_machine sharing = record { core = new_core sharing; queues = [] }

-- How a packet is handed on, behind the news of a reset or not: as it came; or as these bytes, without the news of one. Or not at all.
pub data Manner : Type 0 where
  Whole : (tells : Bool) → Manner
  Without : (tells : Bool) (bytes : List ℕ) → Manner
  Withheld : Manner

pub data Step : Type 0 where
  -- a move by which nothing is given
  Makes : (move : Move) → Step
  -- a packet comes on a connection, and is handed so to the application that this is lent to
  Hands : (number : ℕ) (header : Header) (content : List ℕ) (part : Part Token) (way : Way) (manner : Manner) → Step
  -- bytes of an application come, and it is given what its end owes it by them
  Takes : (key : ℕ) (bytes : List ℕ) → Step
  -- an application is sent so many of the bytes that wait for it
  Writes : (key count : ℕ) → Step
  -- one has come, with which these are the ends, and this waits; one is there no more
  Admits : (key : ℕ) (ends : EndList) (queues : Queues) → Step
  Removes : (key : ℕ) (gives : Bool) (way : Way) → Step

-- ---- What each is, and does

abbrev pub moves_of : Step → List Move
moves_of (Makes move) = move ∷ []
moves_of (Hands number header content part way manner) = core.Comes number part way ∷ []
moves_of (Takes key bytes) = core.Feeds key bytes ∷ []
moves_of (Writes key count) = []
moves_of (Admits key ends queues) = core.Enters key ends ∷ []
moves_of (Removes key gives way) = core.Quits key gives way ∷ []

-- the packets by which a packet is handed on, if it is
abbrev pub behind_news : Bool → List ℕ → List (List ℕ)
behind_news true piece = news ∷ piece ∷ []
behind_news false piece = piece ∷ []

abbrev pub handed : Manner → Header → List ℕ → Option (List (List ℕ))
handed (Whole tells) header content = Some (behind_news tells (header_bytes header ++ content))
handed (Without tells bytes) header content = Some (behind_news tells bytes)
handed Withheld header content = None

-- the acknowledgement of an attention that is its end's own
abbrev pub owed_of : Said → Option (List (List ℕ))
owed_of said.Acknowledge = Some (acknowledgement ∷ [])
owed_of answer = None

abbrev pub owed_by : Result Fed FrontFault → Option (List (List ℕ))
owed_by (Ok fed) = owed_of fed.said
owed_by (Err fault) = None

abbrev pub owed : List ℕ → Option End → Option (List (List ℕ))
owed bytes None = None
owed bytes (Some (Open front withdrawn asks)) = owed_by (fed front bytes).brings
owed bytes (Some (Over why)) = None

-- these pieces are put behind what waits, one after the other
abbrev pub put_all : List (List ℕ) → Queue → Queue
put_all [] p = p
put_all (piece ∷ pieces) p = put_all pieces (put_behind piece p)

abbrev pub put_some : Option (List (List ℕ)) → Queue → Queue
put_some None p = p
put_some (Some pieces) p = put_all pieces p

abbrev pub change_whose_queue : Option ℕ → (Queue → Queue) → Queues → Queues
change_whose_queue None by queues = queues
change_whose_queue (Some key) by queues = change key by queues

abbrev pub queues_behind : Machine → Step → Queues
queues_behind h (Makes move) = h.queues
queues_behind h (Hands number header content part way manner) = change_whose_queue (whose h.core.pool number) (put_some (handed manner header content)) h.queues
queues_behind h (Takes key bytes) = change key (put_some (owed bytes (end_at h.core.ends key))) h.queues
queues_behind h (Writes key count) = change key (without_first count) h.queues
queues_behind h (Admits key ends queues) = queues
queues_behind h (Removes key gives way) = slice_set h.queues key None

abbrev pub after : Machine → Step → Machine
after h step = record { core = moved_all h.core (moves_of step); queues = queues_behind h step }

abbrev pub after_all : Machine → List Step → Machine
after_all h [] = h
after_all h (step ∷ steps) = after_all (after h step) steps

-- ---- When each may be

-- behind it its connection is closed
abbrev pub closes_connection : What → Bool
closes_connection whats.Goes = false
closes_connection whats.Finished = false
closes_connection whats.Acknowledged = false
closes_connection whats.Closed = true

-- Whether an application's end says a packet by which this came: not where it is to be closed, or has taken its request back; nor where the
-- connection is closed behind it.
abbrev pub is_said : What → Option End → Bool
is_said what None = false
is_said what (Some (Open front withdrawn asks)) = not withdrawn && not (closes_connection what)
is_said what (Some (Over why)) = false

-- It is handed on exactly where it is.
abbrev pub IsHanded : Bool → Manner → Type 0
IsHanded true Withheld = ⊥
IsHanded true manner = Unit {0}
IsHanded false manner = manner ≡ Withheld

abbrev pub end_whose : Option ℕ → EndList → Option End
end_whose None ends = None
end_whose (Some key) ends = end_at ends key

-- Without the news is what is left of the data, token by token, from where a parser stands.
abbrev pub IsRight : Header → List ℕ → Manner → Type 0
IsRight header content (Whole tells) = Unit {0}
IsRight header content (Without tells bytes) = (a : Answer) × IsCut a header content bytes
IsRight header content Withheld = Unit {0}

-- whether a reset is owed that was asked for, and hasn't been told: it has been behind the first news. Those that nobody asked for are an
-- application's own (`sp_reset_connection`)
abbrev pub owed_behind : Bool → Sign → Bool
owed_behind owed (signs.Change changes.ResetDone) = false
owed_behind owed _ = owed

-- how often these tell that it is done, from where it is owed or isn't
abbrev pub news_of : Bool → Sign → ℕ
news_of owed (signs.Change changes.ResetDone) = one_if owed
news_of owed _ = 0

abbrev pub news_in : Bool → List (Item Token) → ℕ
news_in owed [] = 0
news_in owed (item ∷ items) = news_of owed item.sign + news_in (owed_behind owed item.sign) items

-- how often its application is told so by it: what is cut out isn't
abbrev pub tellings : Bool → Manner → Part Token → ℕ
tellings owed (Whole tells) part = one_if tells + news_in owed part.items
tellings owed (Without tells bytes) part = one_if tells
tellings owed Withheld part = 0

-- it only acknowledges an attention
abbrev pub acknowledges : What → Bool
acknowledges whats.Goes = false
acknowledges whats.Finished = false
acknowledges whats.Acknowledged = true
acknowledges whats.Closed = false

-- Whether it is told with a packet by which this came: where its request asks for a reset, of which it hasn't been told.
abbrev pub hears_of_reset : What → Option End → Bool
hears_of_reset what None = false
hears_of_reset what (Some (Open front withdrawn asks)) = is_some asks && not (acknowledges what)
hears_of_reset what (Some (Over why)) = false

abbrev pub IsTold : Bool → Bool → Manner → Part Token → Type 0
IsTold owed hears (Whole tells) part = tellings owed (Whole tells) part ≡ one_if hears
IsTold owed hears (Without tells bytes) part = tellings owed (Without tells bytes) part ≡ one_if hears
IsTold owed hears Withheld part = Unit {0}

-- A packet has come, whose data are this part to the parser over what its connection answers; and it is handed on exactly where its
-- application's end says it. With it its application is told of a reset once, where its request asks for one and hasn't been told, and
-- else never.
pub record MayHand (h : Machine) (number : ℕ) (header : Header) (content : List ℕ) (part : Part Token) (manner : Manner) : Type 0 where
  pub counted : header.length ≡ 8 + length content
  pub parser : Option Parser
  pub part_is : part ≡ part_on parser content (is_last_packet header)
  pub has_parser : (key : ℕ) → whose h.core.pool number ≡ Some key → IsSome parser
  pub right : IsRight header content manner
  pub handed_on : IsHanded (is_said (what_in (dones_of_part h.core.pool number part)) (end_whose (whose h.core.pool number) h.core.ends)) manner
  pub told : IsTold (owes_reset number h.core.pool) (hears_of_reset (what_in (dones_of_part h.core.pool number part)) (end_whose (whose h.core.pool number) h.core.ends)) manner part

abbrev pub MayStep : Machine → Step → Type 0
MayStep h (Makes move) = MayMove h.core move × IsQuiet move
MayStep h (Hands number header content part way manner) = MayHand h number header content part manner
MayStep h (Takes key bytes) = Unit {0}
MayStep h (Writes key count) = Unit {0}
MayStep h (Admits key ends queues) = HasEntered key h.core.ends ends × (size : ℕ) × (tag : ℕ) × waiting.EntersQueues size tag key h.queues queues
MayStep h (Removes key gives way) = Unit {0}

abbrev pub MayAll : Machine → List Step → Type 0
MayAll h [] = Unit {0}
MayAll h (step ∷ steps) = MayStep h step × MayAll (after h step) steps

-- ---- Who causes each

abbrev pub CausesStep : Cause → Step → Type 0
CausesStep by (Writes key count) = by ≡ Neither
CausesStep by step = Each (CausesMove by) (moves_of step)

-- Steps that this causes led from one machine to the other.
pub record Steps (by : Cause) (old new : Machine) : Type 0 where
  pub steps : List Step
  pub are : after_all old steps ≡ new
  pub may : MayAll old steps
  pub caused : Each (CausesStep by) steps

-- The same, whoever caused it.
abbrev pub StepsOn : Machine → Machine → Type 0
StepsOn old new = (by : Cause) → Steps by old new

-- ---- A machine that a relay is at

-- Steps lead to it from a new one.
abbrev pub IsLedTo : Sharing → Machine → Type 0
IsLedTo sharing h = (steps : List Step) × (after_all (new_machine sharing) steps ≡ h) × MayAll (new_machine sharing) steps
