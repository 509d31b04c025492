-- What both ends of a connection have said, and what more is said.
use Rattle.std.specs.Prelude.{ℕ, ◌/◌, ◌%◌, ◌==◌, ◌&&◌, ◌||◌, not, nat_lt, Bool, true, false, if◌then◌else◌}
use Rattle.tds_judge.specs.declared.talk.Asked.{Asked}
use Rattle.tds_judge.specs.declared.talk.Asked.TheVariants as asks
use Rattle.tds_judge.specs.declared.talk.Event.{Event}
use Rattle.tds_judge.specs.declared.talk.Event.TheVariants as events
use Rattle.tds_judge.specs.declared.talk.Reset.{Reset}
use Rattle.tds_judge.specs.declared.talk.Reset.TheVariants as resets
use Rattle.tds_judge.specs.declared.talk.Talk.{Talk}
use Rattle.tds_judge.specs.declared.talk.Transaction.{Transaction}
use Rattle.tds_judge.specs.declared.talk.Transaction.TheVariants as transactions
use Rattle.tds_wire.specs.declared.told.ChangeValue.{ChangeValue}
use Rattle.tds_wire.specs.declared.told.ChangeValue.TheVariants as changes
use Rattle.tds_wire.specs.declared.told.Done.{Done}
use Rattle.tds_wire.specs.declared.told.Told.{Told}
use Rattle.tds_wire.specs.declared.told.Told.TheVariants as told
use Rattle.tds_wire.specs.declared.told.Token.{Token}

-- ---- Words

-- bit 08 is RESETCONNECTION, 10 RESETCONNECTIONSKIPTRAN (MS-TDS 2.2.3.1.2)
abbrev pub reset_by : Bool → Bool → Reset
reset_by full keep =
    if full then (if keep then resets.Both else resets.Full)
    else (if keep then resets.Keep else resets.None)

abbrev pub reset_of : ℕ → Reset
reset_of status = reset_by (status / 8 % 2 == 1) (status / 16 % 2 == 1)

abbrev pub is_asked : Reset → Bool
is_asked resets.None = false
is_asked resets.Full = true
is_asked resets.Keep = true
is_asked resets.Both = true

abbrev pub is_full : Reset → Bool
is_full resets.None = false
is_full resets.Full = true
is_full resets.Keep = false
is_full resets.Both = true

abbrev pub keeps : Reset → Bool
keeps resets.None = false
keeps resets.Full = false
keeps resets.Keep = true
keeps resets.Both = false

-- what is still to be told done of what was asked for
abbrev pub owed : Bool → Reset → Reset
owed done asked = if done then resets.None else asked

abbrev pub is_both : Reset → Bool
is_both resets.None = false
is_both resets.Full = false
is_both resets.Keep = false
is_both resets.Both = true

abbrev pub is_request : Asked → Bool
is_request asks.Unknown = false
is_request asks.Login = false
is_request asks.Request = true

-- something was sent to the server
abbrev pub is_known : Asked → Bool
is_known asks.Unknown = false
is_known asks.Login = true
is_known asks.Request = true

abbrev pub descriptor_of : Transaction → ℕ
descriptor_of transactions.Unknown = 0
descriptor_of (transactions.Told descriptor) = descriptor

abbrev pub is_told : Transaction → Bool
is_told transactions.Unknown = false
is_told (transactions.Told descriptor) = true

-- a DONE with bit 0020 (MS-TDS 2.2.1.7)
abbrev pub told_acknowledges : Told → Bool
told_acknowledges (told.Done done) = done.status / 32 % 2 == 1
told_acknowledges _ = false

abbrev pub acknowledges : Token → Bool
acknowledges token = told_acknowledges token.told

-- LOGINACK (MS-TDS 2.2.7.14) lets a client in
abbrev pub admits : ℕ → Bool
admits kind = kind == 0xAD

-- COLMETADATA (2.2.7.4) and each DONE tell that something of a request was done
abbrev pub shows_work : ℕ → Bool
shows_work kind = (kind == 0x81) || (kind == 0xFD) || (kind == 0xFE) || (kind == 0xFF)

-- a packet that is to be ignored, and doesn't end its message (MS-TDS 2.2.3.1.2)
abbrev pub ignores_early : ℕ → Bool
ignores_early status = (status / 2 % 2 == 1) && not (status % 2 == 1)

-- a DONE that says that more come (MS-TDS 2.2.7.6)
abbrev pub told_more : Told → Bool
told_more (told.Done done) = done.status % 2 == 1
told_more _ = false

abbrev pub says_more : Token → Bool
says_more token = told_more token.told

-- ---- Changes (MS-TDS 2.2.7.9)

-- what is so of a change, and of no other token
abbrev pub of_change : Told → (ℕ → ChangeValue → Bool) → Bool
of_change (told.Change change) is = is change.kind change.value
of_change _ is = false

-- what is so of a transaction's change, by its new and its old value
abbrev pub of_both : ChangeValue → (ℕ → ℕ → Bool) → Bool
of_both (changes.Transaction new old) is = is new old
of_both _ is = false

abbrev pub is_reset_done : ChangeValue → Bool
is_reset_done changes.ResetDone = true
is_reset_done _ = false

-- type 18
abbrev pub tells_reset : Token → Bool
tells_reset token = of_change token.told (λ type value. is_reset_done value)

-- 9 committed, 10 rolled back, 17 ended: the old value is the descriptor
abbrev pub ends_old : ℕ → Bool
ends_old type = (type == 9) || (type == 10) || (type == 17)

-- 8 begins one inside another or without a descriptor, or another one ends than was told last
abbrev pub changes_wrongly : Transaction → Token → Bool
changes_wrongly last token = of_change token.told (λ type value. of_both value (λ new old.
    if (type == 8) || (type == 11)
    then (type == 8)
    && ((new == 0) || (not (descriptor_of last == 0) && not (descriptor_of last == new)))
    else ends_old type && (not (descriptor_of last == 0) && not (descriptor_of last == old))))

-- one ends, and it was told that none is open
abbrev pub ends_none : Transaction → Token → Bool
ends_none last token =
    of_change token.told (λ type value. of_both value (λ new old. ends_old type
    && (is_told last && (descriptor_of last == 0))))

abbrev pub old_of : ChangeValue → ℕ
old_of (changes.Transaction new old) = old
old_of _ = 0

abbrev pub told_old : Told → ℕ
told_old (told.Change change) = old_of change.value
told_old _ = 0

abbrev pub ended_descriptor : Token → ℕ
ended_descriptor token = told_old token.told

-- Type 11 has its descriptor as the old value by its table, and as the new one by what clients do:
-- none is known from there on.
abbrev pub begun_as : ℕ → ℕ → Transaction
begun_as type new = if type == 11 then transactions.Unknown else transactions.Told new

-- an ENVCHANGE whose fields don't fit its length
abbrev pub unclear_by : ℕ → Told → Bool
unclear_by kind told.Unclear = kind == 0xE3
unclear_by kind _ = false

abbrev pub is_unclear : Token → Bool
is_unclear token = unclear_by token.kind token.told

-- A DONE of TDS 7.2 has 8 bytes of a count, one of an earlier version 4 (MS-TDS 2.2.7.6): then the
-- next token's first byte, which is never 0, stands in the upper half.
abbrev pub is_long : Done → Bool
is_long done = nat_lt done.count 4294967296

abbrev pub told_short : Told → Bool
told_short (told.Done done) = not (is_long done)
told_short _ = false

abbrev pub is_short : Token → Bool
is_short token = told_short token.told

-- ---- What a request asks for

-- no answer is to come
abbrev pub awaits_none : Talk → Bool
awaits_none t = not t.underway && (not t.attention && not t.doubled)

abbrev pub begins_request : Talk → ℕ → Bool → Talk
begins_request t status bulk = record t {
  asked = asks.Request;
  underway = true;
  late = t.attention;
  asking = not (status % 2 == 1) && awaits_none t;
  reset = reset_of status;
  reset_done = false;
  bulk = bulk;
  forgotten = false;
  begun = false;
  borrowed = t.borrowed && is_asked (reset_of status);
  entering = false;
}

abbrev pub begins_login : Talk → Talk
begins_login t =
    record t {
      asked = asks.Login;
      underway = true;
      asking = false;
      reset = resets.None;
      reset_done = false;
      bulk = false;
      forgotten = false;
      begun = false;
      transaction = transactions.Told 0;
      entering = true;
    }

-- a transaction that the answer underway has begun was begun by an answer that is cancelled now
abbrev pub cancels : Talk → Talk
cancels t = record t {
  attention = true;
  doubled = t.doubled || t.attention;
  late = false;
  ended_since = not t.underway;
  asking = false;
  forgotten = false;
  begun_unheard = t.begun_unheard || (t.begun && t.underway);
}

-- why a descriptor is wrong is told once
abbrev pub has_named : Talk → Talk
has_named t = record t { begun_unheard = false; ended = 0; dated = true }

-- ---- What an answer says

abbrev pub begins_answer : Talk → Talk
begins_answer t = record t {
  underway = t.underway || t.forgotten;
  is_final = false;
  acknowledges = false;
  worked = false;
  asking = false;
}

-- of the three kinds of DONE the last decides
abbrev pub is_done : Talk → Done → Talk
is_done t done = record t {
  is_final = not (done.status % 2 == 1);
  acknowledges = t.acknowledges || (done.status / 32 % 2 == 1);
  other = t.other || (not t.dated && not (is_long done));
  dated = t.dated || is_long done;
}

abbrev pub has_begun : Talk → ℕ → ℕ → ℕ → Talk
has_begun t time type descriptor =
    record t {
      transaction = begun_as type descriptor;
      begun = true;
      begun_unheard = t.attention;
      ended = 0;
      since = time;
    }

abbrev pub has_ended : Talk → ℕ → Talk
has_ended t time =
    record t {
      transaction = transactions.Told 0;
      begun = false;
      begun_unheard = false;
      ended = descriptor_of t.transaction;
      since = time;
    }

-- 8 has begun, and 11 is enlisted; 9 is committed, 10 rolled back, 12 defected, 17 has ended
-- (MS-TDS 2.2.7.9)
abbrev pub transaction_changed : Talk → ℕ → ℕ → ℕ → Talk
transaction_changed t time type new =
    if (type == 8) || (type == 11) then has_begun t time type new else has_ended t time

-- 18: the reset has ended the transaction, but for one that keeps it. One that no bit asked for is
-- a full one (`sp_reset_connection`).
abbrev pub is_reset : Talk → Talk
is_reset t =
    if keeps (owed t.reset_done t.reset) then record t { reset_done = true; borrowed = false }
    else record t {
      reset_done = true;
      borrowed = false;
      transaction = transactions.Told 0;
      begun_unheard = false;
    }

abbrev pub change_heard : Talk → ℕ → ℕ → ChangeValue → Talk
change_heard t time type (changes.Transaction new old) = transaction_changed t time type new
change_heard t time type changes.ResetDone = is_reset t
change_heard t time type (changes.PacketSize size) = record t { agreed = size }
change_heard t time type (changes.Values new old) = t
change_heard t time type changes.Other = t

-- an ENVCHANGE that can't be read may be any change
abbrev pub unclear_heard : Talk → Bool → Talk
unclear_heard t unclear = if unclear then record t { transaction = transactions.Unknown } else t

abbrev pub told_heard : Talk → ℕ → ℕ → Told → Talk
told_heard t time kind (told.Done done) = is_done t done
told_heard t time kind (told.Change change) = change_heard t time change.kind change.value
told_heard t time kind told.Unclear = unclear_heard t (kind == 0xE3)
told_heard t time kind _ = t

-- by its first byte
abbrev pub kind_heard : Talk → ℕ → Talk
kind_heard t kind = record t {
  entering = if admits kind then false else t.entering;
  worked = if shows_work kind then true else t.worked;
}

abbrev pub token_heard : Talk → ℕ → Token → Talk
token_heard t time token = told_heard (kind_heard t token.kind) time token.kind token.told

-- ---- The beginning and the end of an answer

-- an answer to a request that wasn't cancelled
abbrev pub is_plain : Talk → Bool
is_plain t = is_request t.asked && (not t.attention && not t.acknowledges)

-- an answer to a request or a login, where none was cancelled
abbrev pub is_awaited : Talk → Bool
is_awaited t = is_known t.asked && (not t.attention && not t.acknowledges)

-- An acknowledgement leaves underway what was asked since the attention; the second of two what is
-- asked.
abbrev pub ends_answer : Talk → ℕ → Bool → Talk
ends_answer t time whole =
    if t.acknowledges
    then record t {
      underway = if t.attention then t.late else t.doubled && t.underway;
      attention = false;
      doubled = t.doubled && t.attention;
      late = false;
      ended_since = false;
      forgotten = false;
      since = time;
      most = t.agreed;
    }
    else record t {
      underway = false;
      late = t.late && not t.ended_since;
      ended_since = true;
      forgotten = false;
      since = time;
      most = t.agreed;
      other = t.other || (is_awaited t && (not whole && not t.dated));
    }

-- ---- What is said

-- and what has been said then
unfoldable pub talk_by : Talk → ℕ → Event → Talk
talk_by t time (events.Request status bulk) = begins_request t status bulk
talk_by t time events.Login = begins_login t
talk_by t time (events.Attention size status) = cancels t
talk_by t time (events.Later status) = record t { asking = t.asking && not (status % 2 == 1) }
talk_by t time (events.Names descriptor) = has_named t
talk_by t time events.Ignored = record t { underway = false; forgotten = true }
talk_by t time events.Answer = begins_answer t
talk_by t time (events.Says token) = token_heard t time token
talk_by t time (events.Answered whole) = ends_answer t time whole
talk_by t time events.Borrowed = record t { borrowed = true }
talk_by t time _ = t

-- before anything was seen
abbrev pub new_talk : Talk
new_talk = record {
  asked = asks.Unknown;
  underway = false;
  attention = false;
  doubled = false;
  late = false;
  ended_since = false;
  asking = false;
  reset = resets.None;
  reset_done = false;
  bulk = false;
  forgotten = false;
  transaction = transactions.Unknown;
  begun = false;
  begun_unheard = false;
  ended = 0;
  is_final = false;
  acknowledges = false;
  borrowed = false;
  since = 0;
  agreed = 0;
  most = 0;
  dated = false;
  other = false;
  entering = false;
  worked = false;
}
