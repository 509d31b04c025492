-- Lawful conversations: one exchange behind the other, in the order in which somebody on the way
-- sees both directions (MS-TDS 3.2.5, 3.3.5). That an attention is seen before the end of the
-- answer that it stops, or behind it, is lawful both.
use Rattle.std.specs.Prelude.{◌≡◌, ℕ, ◌==◌, ◌&&◌, ◌||◌, not, nat_lt, Bool, true, false, List, [], ◌∷◌, if◌then◌else◌}
use Rattle.tds_judge.specs.declared.finding.Direction.{Direction}
use Rattle.tds_judge.specs.declared.talk.Ending.{Ending}
use Rattle.tds_judge.specs.declared.talk.Ending.TheVariants as endings
use Rattle.tds_judge.specs.declared.talk.Event.{Event}
use Rattle.tds_judge.specs.declared.talk.Event.TheVariants as events
use Rattle.tds_judge.specs.declared.talk.Reset.{Reset}
use Rattle.tds_judge.specs.declared.talk.Reset.TheVariants as resets
use Rattle.tds_judge.specs.declared.talk.Transaction.{Transaction}
use Rattle.tds_judge.specs.declared.talk.Transaction.TheVariants as transactions
use Rattle.tds_wire.specs.declared.told.ChangeValue.{ChangeValue}
use Rattle.tds_wire.specs.declared.told.ChangeValue.TheVariants as changes
use Rattle.tds_wire.specs.declared.told.Told.{Told}
use Rattle.tds_wire.specs.declared.told.Told.TheVariants as told
use Rattle.tds_wire.specs.declared.told.Token.{Token}
use Rattle.tds_judge.specs.Breaches.{final_by_token, is_dated, size_told}
use Rattle.tds_judge.specs.Framing.{Run, closed, event_said, steps}
use Rattle.tds_judge.specs.History.{Said, is_forgotten, last_told}
use Rattle.tds_judge.specs.Talking.{acknowledges, admits, changes_wrongly, ignores_early, is_both, is_full, reset_of, says_more}

-- Where a conversation is.
pub data Place : Type 0 where
  -- nothing is awaited
  Quiet : Place
  -- a message of the login was sent, and nothing let the client in so far, or it did
  Greeting : (enters : Bool) → Place
  -- it was answered, and the login goes on
  Entering : Place
  -- a request was begun that asks for this reset, and its answer wasn't
  Asking : (reset : Reset) → Place
  -- its answer comes: this reset is still to be told done, and the newest DONE was final or not
  Answering : (reset : Reset) (final : Bool) → Place
  -- an attention is out, and no message comes
  Stopping : Place
  -- one comes, and has a DONE that acknowledges the attention or not
  Skipping : (acknowledged : Bool) → Place

-- ---- Where it is behind what is said

-- the reset that is still to be told done (2.2.7.9, type 18)
abbrev pub left_by_change : ChangeValue → Reset → Reset
left_by_change changes.ResetDone reset = resets.None
left_by_change _ reset = reset

abbrev pub left_by : Told → Reset → Reset
left_by (told.Change change) reset = left_by_change change.value reset
left_by _ reset = reset

abbrev pub heard_at : Token → Place → Place
heard_at token (Greeting enters) = Greeting (if admits token.kind then false else enters)
heard_at token (Answering reset final) =
    Answering (left_by token.told reset) (final_by_token token.told final)
heard_at token (Skipping acknowledged) = Skipping (acknowledged || acknowledges token)
heard_at token place = place

-- a message of the server begins, and ends
abbrev pub begun_at : Place → Place
begun_at (Asking reset) = Answering reset false
begun_at Quiet = Answering resets.None false
begun_at Stopping = Skipping false
begun_at place = place

abbrev pub ended_at : Place → Place
ended_at (Greeting true) = Entering
ended_at (Skipping false) = Stopping
ended_at place = Quiet

abbrev pub stopped_at : Place → Place
stopped_at (Answering reset final) = Skipping false
stopped_at place = Stopping

-- what the server is to ignore need not be answered (2.2.1.7), and its reset isn't to be told done
abbrev pub forgotten_at : Place → Place
forgotten_at (Asking reset) = Quiet
forgotten_at (Greeting enters) = Entering
forgotten_at (Answering reset final) = Answering resets.None final
forgotten_at place = place

abbrev pub place_by : Event → Place → Place
place_by (events.Request status bulk) place = Asking (reset_of status)
place_by events.Login place = Greeting true
place_by (events.Attention size status) place = stopped_at place
place_by events.Ignored place = forgotten_at place
place_by events.Answer place = begun_at place
place_by (events.Says token) place = heard_at token place
place_by (events.Answered whole) place = ended_at place
place_by _ place = place

unfoldable pub place_of : List Said → Place
place_of [] = Quiet
place_of (x ∷ past) = place_by x.event (place_of past)

-- ---- What may be said there

-- A request is begun where nothing is awaited, with one reset bit at most; what is to be ignored
-- ends its message (2.2.3.1.2).
abbrev pub MayAsk : Place → ℕ → Type 0
MayAsk Quiet status = (is_both (reset_of status) ≡ false) × (ignores_early status ≡ false)
MayAsk _ status = ⊥

-- A login is of several messages (2.2.6), up to the one that lets the client in.
abbrev pub MayGreet : Place → Type 0
MayGreet Quiet = Unit {0}
MayGreet (Greeting enters) = Unit {0}
MayGreet Entering = Unit {0}
MayGreet _ = ⊥

-- One attention is out at a time. Where nothing is awaited it has crossed the end of the answer
-- (2.2.1.7).
abbrev pub MayStop : Place → Type 0
MayStop Quiet = Unit {0}
MayStop (Asking reset) = Unit {0}
MayStop (Answering reset final) = Unit {0}
MayStop _ = ⊥

-- A request names the transaction that was told last; or none, where its full reset ends it
-- (2.2.5.3.2). Where none was told it may be any.
abbrev pub Names : Transaction → Reset → ℕ → Type 0
Names transactions.Unknown reset descriptor = Unit {0}
Names (transactions.Told last) reset descriptor =
    ((last == descriptor) || (is_full reset && (descriptor == 0))) ≡ true

abbrev pub MayName : Place → Transaction → ℕ → Type 0
MayName (Asking reset) last descriptor = Names last reset descriptor
MayName _ last descriptor = ⊥

-- A message of the server begins where one is awaited, or to say of a request that it was ignored,
-- and failed so (2.2.1.7).
abbrev pub MayAnswer : Bool → Place → Type 0
MayAnswer forgotten (Greeting enters) = Unit {0}
MayAnswer forgotten (Asking reset) = Unit {0}
MayAnswer forgotten Stopping = Unit {0}
MayAnswer forgotten Quiet = forgotten ≡ true
MayAnswer forgotten _ = ⊥

-- The answer to a request acknowledges no attention. Behind an acknowledgement nothing comes in its
-- message (2.2.7.6). None begins a transaction inside another one, or ends another one (2.2.7.9).
abbrev pub MaySay : Place → Token → Type 0
MaySay (Greeting enters) token = Unit {0}
MaySay (Answering reset final) token = acknowledges token ≡ false
MaySay (Skipping true) token = ⊥
MaySay (Skipping false) token = acknowledges token && says_more token ≡ false
MaySay _ token = ⊥

-- It ends between two tokens, behind a final DONE and the end of the reset that was asked for. What
-- an attention stops ends anywhere.
abbrev pub MayEnd : Place → Bool → Type 0
MayEnd (Greeting enters) whole = Unit {0}
MayEnd (Answering resets.None true) true = Unit {0}
MayEnd (Skipping acknowledged) whole = Unit {0}
MayEnd _ whole = ⊥

-- It is lent where nothing is awaited.
abbrev pub MayLend : Place → Type 0
MayLend Quiet = Unit {0}
MayLend Entering = Unit {0}
MayLend _ = ⊥

-- Encryption, other versions, other protocols and COMPUTE aren't judged; they are lawful.
abbrev pub MayStay : Ending → Type 0
MayStay endings.WrongToken = ⊥
MayStay endings.WrongLength = ⊥
MayStay endings.WrongDirection = ⊥
MayStay _ = Unit {0}

-- ALL_HEADERS is as it has to be (2.2.5.3) from TDS 7.2 on, and isn't there before.
abbrev pub MayHead : Bool → Type 0
MayHead false = Unit {0}
MayHead true = ⊥

-- by the transaction and the packet size that were told last, 0 where no size was, and by whether
-- TDS 7.2 or later was shown, and a message that is to be ignored ended last
abbrev pub MayAt : Place → Transaction → ℕ → (dated forgotten : Bool) → Event → Type 0
MayAt place last most dated forgotten (events.Packet size fills) =
    ((most == 0) || not (nat_lt most size)) ≡ true
MayAt place last most dated forgotten events.Unfinished = ⊥
MayAt place last most dated forgotten (events.Request status bulk) = MayAsk place status
MayAt place last most dated forgotten events.Login = MayGreet place
MayAt place last most dated forgotten (events.Attention size status) =
    MayStop place × (size ≡ 8) × (status ≡ 1)
MayAt place last most dated forgotten (events.Later status) =
    (reset_of status ≡ resets.None) × (ignores_early status ≡ false)
MayAt place last most dated forgotten (events.Names descriptor) = MayName place last descriptor
MayAt place last most dated forgotten (events.Headers fault) = MayHead dated
MayAt place last most dated forgotten events.Ignored = Unit {0}
MayAt place last most dated forgotten events.Answer = MayAnswer forgotten place
MayAt place last most dated forgotten (events.Says token) =
    MaySay place token × (changes_wrongly last token ≡ false)
MayAt place last most dated forgotten (events.Answered whole) = MayEnd place whole
MayAt place last most dated forgotten events.TakenUp = Unit {0}
MayAt place last most dated forgotten (events.Stops ending value) = MayStay ending
MayAt place last most dated forgotten events.Borrowed = MayLend place
MayAt place last most dated forgotten events.Closed = Unit {0}

abbrev pub May : List Said → Event → Type 0
May past event =
    MayAt (place_of past) (last_told past) (size_told past) (is_dated past) (is_forgotten past)
    event

-- ---- A lawful conversation, the newest first

unfoldable pub IsLawful : List Said → Type 0
IsLawful [] = Unit {0}
IsLawful (x ∷ past) = IsLawful past × May past x.event

-- ---- What is handed in of a connection

-- bytes of a direction, that it is lent, and that it is closed, each at a time
pub data Piece : Type 0 where
  Bytes : (direction : Direction) (time : ℕ) (bytes : List ℕ) → Piece
  Lends : (time : ℕ) → Piece
  Closes : (time : ℕ) → Piece

abbrev pub piece_seen : Piece → Run → Run
piece_seen (Bytes direction time bytes) run = steps direction time bytes run
piece_seen (Lends time) run = event_said time events.Borrowed run
piece_seen (Closes time) run = closed time run

-- one behind the other
unfoldable pub seen : List Piece → Run → Run
seen [] run = run
seen (piece ∷ pieces) run = seen pieces (piece_seen piece run)
