-- The other findings, by what was said on a connection before, the newest first (see History).
use Rattle.std.specs.Prelude.{ℕ, ◌%◌, ◌==◌, ◌&&◌, ◌||◌, not, Bool, true, false, List, [], ◌∷◌, if◌then◌else◌}
use Rattle.tds_judge.specs.declared.talk.Asked.{Asked}
use Rattle.tds_judge.specs.declared.talk.Asked.TheVariants as asks
use Rattle.tds_judge.specs.declared.talk.Event.{Event}
use Rattle.tds_judge.specs.declared.talk.Event.TheVariants as events
use Rattle.tds_judge.specs.declared.talk.Reset.{Reset}
use Rattle.tds_judge.specs.declared.talk.Transaction.{Transaction}
use Rattle.tds_wire.specs.declared.told.ChangeValue.{ChangeValue}
use Rattle.tds_wire.specs.declared.told.ChangeValue.TheVariants as changes
use Rattle.tds_wire.specs.declared.told.Told.{Told}
use Rattle.tds_wire.specs.declared.told.Told.TheVariants as told
use Rattle.tds_judge.specs.History.{Said, is_acknowledged, is_out, is_twice, is_underway, last_told, owed_of}
use Rattle.tds_judge.specs.Talking.{admits, descriptor_of, is_asked, is_known, is_long, is_request, keeps, reset_of, shows_work}

-- ---- The answer that comes, and its request

-- what the newest message to the server is, attentions apart
abbrev pub asked_by : Event → Asked → Asked
asked_by (events.Request status bulk) before = asks.Request
asked_by events.Login before = asks.Login
asked_by _ before = before

unfoldable pub asked_last : List Said → Asked
asked_last [] = asks.Unknown
asked_last (x ∷ past) = asked_by x.event (asked_last past)

-- the answer's newest DONE says that no more come (2.2.7.6)
abbrev pub final_by_token : Told → Bool → Bool
final_by_token (told.Done done) before = not (done.status % 2 == 1)
final_by_token _ before = before

abbrev pub final_by : Event → Bool → Bool
final_by events.Answer before = false
final_by (events.Says token) before = final_by_token token.told before
final_by _ before = before

unfoldable pub is_over : List Said → Bool
is_over [] = false
is_over (x ∷ past) = final_by x.event (is_over past)

-- the packet size that was told last; 0 where none was
abbrev pub size_by_change : ChangeValue → ℕ → ℕ
size_by_change (changes.PacketSize size) before = size
size_by_change _ before = before

abbrev pub size_by_token : Told → ℕ → ℕ
size_by_token (told.Change change) before = size_by_change change.value before
size_by_token _ before = before

abbrev pub size_by : Event → ℕ → ℕ
size_by (events.Says token) before = size_by_token token.told before
size_by _ before = before

unfoldable pub agreed_last : List Said → ℕ
agreed_last [] = 0
agreed_last (x ∷ past) = size_by x.event (agreed_last past)

-- the packet size that counts: what was told last when an answer ended
abbrev pub most_by : Event → ℕ → ℕ → ℕ
most_by (events.Answered whole) agreed before = agreed
most_by _ agreed before = before

unfoldable pub size_told : List Said → ℕ
size_told [] = 0
size_told (x ∷ past) = most_by x.event (agreed_last past) (size_told past)

-- A new borrower has the connection, and no reset was heard of since (2.2.7.9, type 18). A request
-- that asks for none is told once.
abbrev pub lent_by_change : ChangeValue → Bool → Bool
lent_by_change changes.ResetDone before = false
lent_by_change _ before = before

abbrev pub lent_by_token : Told → Bool → Bool
lent_by_token (told.Change change) before = lent_by_change change.value before
lent_by_token _ before = before

abbrev pub lent_by : Event → Bool → Bool
lent_by events.Borrowed before = true
lent_by (events.Request status bulk) before = before && is_asked (reset_of status)
lent_by (events.Says token) before = lent_by_token token.told before
lent_by _ before = before

unfoldable pub is_lent : List Said → Bool
is_lent [] = false
is_lent (x ∷ past) = lent_by x.event (is_lent past)

-- the answer to a request that wasn't cancelled
abbrev pub is_plain_answer : List Said → Bool
is_plain_answer past =
    is_request (asked_last past) && (not (is_out past) && not (is_acknowledged past))

-- the answer to a request or to a message of a login, where none was cancelled
abbrev pub is_awaited_answer : List Said → Bool
is_awaited_answer past =
    is_known (asked_last past) && (not (is_out past) && not (is_acknowledged past))

-- a login has begun, and nothing has let the client in (2.2.7.14); a request before that is told
-- once
abbrev pub entering_by : Event → Bool → Bool
entering_by events.Login before = true
entering_by (events.Request status bulk) before = false
entering_by (events.Says token) before = if admits token.kind then false else before
entering_by _ before = before

unfoldable pub is_entering : List Said → Bool
is_entering [] = false
is_entering (x ∷ past) = entering_by x.event (is_entering past)

-- The newest request's last packet is to come (2.2.3.1.2), and no other answer was when it began;
-- an answer that begins before it is told once.
abbrev pub goes_out_by : Event → (free before : Bool) → Bool
goes_out_by (events.Request status bulk) free before = not (status % 2 == 1) && free
goes_out_by events.Login free before = false
goes_out_by (events.Attention size status) free before = false
goes_out_by (events.Later status) free before = before && not (status % 2 == 1)
goes_out_by events.Answer free before = false
goes_out_by _ free before = before

abbrev pub no_answer_is_due : List Said → Bool
no_answer_is_due past = not (is_underway past) && (not (is_out past) && not (is_twice past))

unfoldable pub is_asking : List Said → Bool
is_asking [] = false
is_asking (x ∷ past) = goes_out_by x.event (no_answer_is_due past) (is_asking past)

-- the newest request is a bulk load, of which no reset may be asked (2.2.3.1.2)
abbrev pub bulk_by : Event → Bool → Bool
bulk_by (events.Request status bulk) before = bulk
bulk_by events.Login before = false
bulk_by _ before = before

unfoldable pub is_bulk : List Said → Bool
is_bulk [] = false
is_bulk (x ∷ past) = bulk_by x.event (is_bulk past)

-- the answer that comes tells that something of the request was done
abbrev pub working_by : Event → Bool → Bool
working_by events.Answer before = false
working_by (events.Says token) before = if shows_work token.kind then true else before
working_by _ before = before

unfoldable pub has_worked : List Said → Bool
has_worked [] = false
has_worked (x ∷ past) = working_by x.event (has_worked past)

-- ---- Versions

-- TDS 7.2 or later was shown: by ALL_HEADERS (2.2.5.3), or by a DONE of 13 bytes (2.2.7.6)
abbrev pub dated_by_token : Told → Bool → Bool
dated_by_token (told.Done done) before = before || is_long done
dated_by_token _ before = before

abbrev pub dated_by : Event → Bool → Bool
dated_by (events.Names descriptor) before = true
dated_by (events.Says token) before = dated_by_token token.told before
dated_by _ before = before

unfoldable pub is_dated : List Said → Bool
is_dated [] = false
is_dated (x ∷ past) = dated_by x.event (is_dated past)

-- An earlier one, before that: a DONE isn't one of 13 bytes, or an answer that wasn't cancelled
-- ends inside a token. So it is with the DONE of the login's answer, behind a LOGINACK of an
-- earlier version.
abbrev pub other_by_token : Told → Bool → Bool → Bool
other_by_token (told.Done done) dated before = before || (not dated && not (is_long done))
other_by_token _ dated before = before

abbrev pub other_by : Event → (dated awaited acknowledged before : Bool) → Bool
other_by (events.Says token) dated awaited acknowledged before =
    other_by_token token.told dated before
other_by (events.Answered whole) dated awaited acknowledged before =
    if acknowledged then before else before || (awaited && (not whole && not dated))
other_by _ dated awaited acknowledged before = before

unfoldable pub is_other_shown : List Said → Bool
is_other_shown [] = false
is_other_shown (x ∷ past) =
    other_by x.event (is_dated past) (is_awaited_answer past) (is_acknowledged past)
    (is_other_shown past)

-- ---- Transactions (2.2.7.9)

-- 8 has begun, 11 is enlisted; all others end one
abbrev pub begins : ℕ → Bool
begins type = (type == 8) || (type == 11)

-- the newest request's answer has begun a transaction that stands
abbrev pub begun_by_change : ℕ → ChangeValue → Bool → Bool
begun_by_change type (changes.Transaction new old) before = begins type
begun_by_change type _ before = before

abbrev pub begun_by_token : Told → Bool → Bool
begun_by_token (told.Change change) before = begun_by_change change.kind change.value before
begun_by_token _ before = before

abbrev pub begun_by : Event → Bool → Bool
begun_by (events.Request status bulk) before = false
begun_by events.Login before = false
begun_by (events.Says token) before = begun_by_token token.told before
begun_by _ before = before

unfoldable pub has_begun : List Said → Bool
has_begun [] = false
has_begun (x ∷ past) = begun_by x.event (has_begun past)

-- that transaction was begun by an answer that was cancelled, and no request has named one since
abbrev pub unheard_by_change : ℕ → ChangeValue → Bool → Reset → Bool → Bool
unheard_by_change type (changes.Transaction new old) out owes before = begins type && out
unheard_by_change type changes.ResetDone out owes before = if keeps owes then before else false
unheard_by_change type _ out owes before = before

abbrev pub unheard_by_token : Told → Bool → Reset → Bool → Bool
unheard_by_token (told.Change change) out owes before =
    unheard_by_change change.kind change.value out owes before
unheard_by_token _ out owes before = before

abbrev pub unheard_by : Event → Bool → Bool → Bool → Reset → Bool → Bool
unheard_by (events.Attention size status) out underway begun owes before =
    before || (begun && underway)
unheard_by (events.Names descriptor) out underway begun owes before = false
unheard_by (events.Says token) out underway begun owes before =
    unheard_by_token token.told out owes before
unheard_by _ out underway begun owes before = before

unfoldable pub is_unheard : List Said → Bool
is_unheard [] = false
is_unheard (x ∷ past) =
    unheard_by x.event (is_out past) (is_underway past) (has_begun past) (owed_of past)
    (is_unheard past)

-- the transaction that ended last, while no request has named one since; 0 where none did
abbrev pub gone_by_change : ℕ → ChangeValue → Transaction → ℕ → ℕ
gone_by_change type (changes.Transaction new old) last before =
    if begins type then 0 else descriptor_of last
gone_by_change type _ last before = before

abbrev pub gone_by_token : Told → Transaction → ℕ → ℕ
gone_by_token (told.Change change) last before = gone_by_change change.kind change.value last before
gone_by_token _ last before = before

abbrev pub gone_by : Event → Transaction → ℕ → ℕ
gone_by (events.Names descriptor) last before = 0
gone_by (events.Says token) last before = gone_by_token token.told last before
gone_by _ last before = before

unfoldable pub gone_last : List Said → ℕ
gone_last [] = 0
gone_last (x ∷ past) = gone_by x.event (last_told past) (gone_last past)

-- when an answer ended last, or a transaction began or ended
abbrev pub since_by_change : ℕ → ChangeValue → ℕ → ℕ
since_by_change time (changes.Transaction new old) before = time
since_by_change time _ before = before

abbrev pub since_by_token : ℕ → Told → ℕ → ℕ
since_by_token time (told.Change change) before = since_by_change time change.value before
since_by_token time _ before = before

abbrev pub since_by : ℕ → Event → ℕ → ℕ
since_by time (events.Answered whole) before = time
since_by time (events.Says token) before = since_by_token time token.told before
since_by time _ before = before

unfoldable pub idle_since : List Said → ℕ
idle_since [] = 0
idle_since (x ∷ past) = since_by x.spot.time x.event (idle_since past)
