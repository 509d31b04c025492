-- The calls of a client whose answers somebody reads and tells it of, one thing at a time, one call behind the other.
use Rattle.std.specs.Prelude.{ℕ, ◌≢◌, ◌||◌, Bool, true, false, List, [], ◌∷◌, ◌++◌, Option, Some, None, Result, Ok, Err, if◌then◌else◌}
use Rattle.tds_packet.specs.declared.status.Reset.{Reset}
use Rattle.tds_packet.specs.declared.status.Reset.TheVariants.{Full}
use Rattle.tds_packet.specs.Layout.{has_bit}
use Rattle.tds_request.specs.declared.request.Request.{Request}
use Rattle.tds_token.specs.declared.env_change.EnvChange.{EnvChange}
use Rattle.tds_token.specs.declared.env_change.EnvChange.TheVariants.{Begin, Commit, Rollback, ResetDone}
use Rattle.tds_client.specs.declared.fault.ClientFault.{ClientFault}
use Rattle.tds_client.specs.declared.sign.DoneKind.TheVariants.{Statement, Procedure, InProcedure}
use Rattle.tds_client.specs.declared.sign.Rules.{Rules}
use Rattle.tds_client.specs.declared.sign.Sign.{Sign}
use Rattle.tds_client.specs.declared.sign.Sign.TheVariants as signs
use Rattle.tds_client.specs.Calls as calls
use Rattle.tds_client.specs.Calls.{Turn, silent, turn, is_acknowledged}
use Rattle.tds_client.specs.Hearing.{reset_told}
use Rattle.tds_client.specs.Machine.{Item, ItemMove, Token, MessageEnd, heard_after, tells}
use Rattle.tds_client.specs.Session.{ClientSession}
use Rattle.tds_client.specs.Streams.{Step}
use Rattle.tds_client.specs.Taking.{broken_by}

pub data Act : Type 0 where
  MarkReset : (reset : Reset) → Act
  Start : (request : Request) → Act
  Send : Act
  Cancel : Act
  Lose : Act
  Stream : (step : Step) → Act
  -- a thing that is heard, by these rules
  Hear : (rules : Rules) (item : Item) → Act

abbrev pub heard_turn : ClientSession → Result ItemMove ClientFault → Turn
heard_turn s (Ok move) = record { session = move.session; bytes = []; acknowledged = is_acknowledged move.answer }
heard_turn s (Err fault) = silent (broken_by s fault)

abbrev pub act : ClientSession → Act → Turn
act s (MarkReset reset) = turn s (calls.MarkReset reset)
act s (Start request) = turn s (calls.Start request)
act s Send = turn s calls.Send
act s Cancel = turn s calls.Cancel
act s Lose = turn s calls.Lose
act s (Stream step) = turn s (calls.Stream step)
act s (Hear rules item) = heard_turn s (heard_after rules s item)

-- The client behind these acts, all that they append, and what each of them did.
abbrev pub behind : ClientSession → List Act → ClientSession
behind s [] = s
behind s (a ∷ others) = behind (act s a).session others

abbrev pub put_out : ClientSession → List Act → List ℕ
put_out s [] = []
put_out s (a ∷ others) = (act s a).bytes ++ put_out (act s a).session others

abbrev pub acted : ClientSession → List Act → List Turn
acted s [] = []
acted s (a ∷ others) = act s a ∷ acted (act s a).session others

-- ---- What the caller may be told

abbrev pub told_at : ClientSession → Act → List Sign
told_at s (MarkReset reset) = []
told_at s (Start request) = []
told_at s Send = []
told_at s Cancel = []
told_at s Lose = []
told_at s (Stream step) = []
told_at s (Hear rules (Token sign)) = if tells s.stage then sign ∷ [] else []
told_at s (Hear rules MessageEnd) = []

abbrev pub told_by : ClientSession → List Act → List Sign
told_by s [] = []
told_by s (a ∷ others) = told_at s a ++ told_by (act s a).session others

-- ---- The message that comes

-- The signs of it that came so far.
abbrev pub message_behind : List Sign → Act → List Sign
message_behind m (MarkReset reset) = m
message_behind m (Start request) = m
message_behind m Send = m
message_behind m Cancel = m
message_behind m Lose = m
message_behind m (Stream step) = m
message_behind m (Hear rules (Token sign)) = m ++ sign ∷ []
message_behind m (Hear rules MessageEnd) = []

abbrev pub message_of : List Sign → List Act → List Sign
message_of m [] = m
message_of m (a ∷ others) = message_of (message_behind m a) others

-- Whether a DONE with bit 0020 is among them (MS-TDS 2.2.7.6).
abbrev pub is_acknowledgement : Sign → Bool
is_acknowledgement signs.Nothing = false
is_acknowledgement (signs.Change change) = false
is_acknowledgement (signs.Done Statement status) = has_bit status 0x20
is_acknowledgement (signs.Done Procedure status) = false
is_acknowledgement (signs.Done InProcedure status) = false

abbrev pub has_acknowledgement : List Sign → Bool
has_acknowledgement [] = false
has_acknowledgement (sign ∷ others) = is_acknowledgement sign || has_acknowledgement others

-- ---- Changes

abbrev pub changes_in : List Sign → List EnvChange
changes_in [] = []
changes_in (signs.Nothing ∷ others) = changes_in others
changes_in (signs.Change change ∷ others) = change ∷ changes_in others
changes_in (signs.Done kind status ∷ others) = changes_in others

-- What a server says of its transaction by these changes, each by itself: it is in the one that has begun, in none where one has
-- ended, and where a reset is done in the one that this reset leaves: a reset that nobody asked for leaves none.
abbrev pub server_says : Option Reset → ℕ → List EnvChange → ℕ
server_says mark descriptor [] = descriptor
server_says mark descriptor (Begin d ∷ others) = server_says mark d others
server_says mark descriptor (Commit d ∷ others) = server_says mark 0 others
server_says mark descriptor (Rollback d ∷ others) = server_says mark 0 others
server_says mark descriptor (ResetDone ∷ others) = server_says None (reset_told mark descriptor) others

-- The client behind the news of a full reset that nobody asked for: in no transaction, and otherwise as it was.
abbrev pub in_none : ClientSession → ClientSession
in_none s = record s { heard = record s.heard { descriptor = 0 } }

-- Whether they tell that a reset is done.
abbrev pub has_reset : List EnvChange → Bool
has_reset [] = false
has_reset (Begin d ∷ others) = has_reset others
has_reset (Commit d ∷ others) = has_reset others
has_reset (Rollback d ∷ others) = has_reset others
has_reset (ResetDone ∷ others) = true

-- Whether a transaction begins before that.
abbrev pub begins_first : List EnvChange → Bool
begins_first [] = false
begins_first (Begin d ∷ others) = has_reset others || begins_first others
begins_first (Commit d ∷ others) = begins_first others
begins_first (Rollback d ∷ others) = begins_first others
begins_first (ResetDone ∷ others) = false

-- A transaction that begins has a descriptor, and no full reset is awaited then.
abbrev pub IsPlaced : Option Reset → Sign → Type 0
IsPlaced mark signs.Nothing = Unit {0}
IsPlaced mark (signs.Change (Begin d)) = (d ≢ 0) × (mark ≢ Some Full)
IsPlaced mark (signs.Change (Commit d)) = Unit {0}
IsPlaced mark (signs.Change (Rollback d)) = Unit {0}
IsPlaced mark (signs.Change ResetDone) = Unit {0}
IsPlaced mark (signs.Done kind status) = Unit {0}
