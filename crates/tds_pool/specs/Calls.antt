-- What the calls of a pool do.
use Rattle.std.specs.Prelude.{◌≡◌, ℕ, ◌==◌, ◌&&◌, ◌||◌, is_some, is_none, length, nat_lt, Bool, true, false, List, [], map, filter, count_by, Option, Some, None, Result, Ok, Err, if◌then◌else◌}
use Rattle.std.specs.List.{find}
use Rattle.tds_packet.specs.declared.status.Reset.{Reset}
use Rattle.tds_packet.specs.declared.status.Reset.TheVariants.{Full, KeepTransaction}
use Rattle.tds_client.specs.declared.fault.ClientRefusal.{ClientRefusal}
use Rattle.tds_client.specs.declared.state.Cancelled.{Cancelled}
use Rattle.tds_client.specs.declared.state.Cancelled.TheVariants as asked
use Rattle.tds_request.specs.declared.request.Request.{Request}
use Rattle.tds_client.specs.Session.{ClientSession, Stage, Idle, Sending, Reading, Cancelling, Broken, new_session, marked}
use Rattle.tds_client.specs.Sending as sending
use Rattle.tds_pool.specs.declared.answers.PoolRefusal.{PoolRefusal}
use Rattle.tds_pool.specs.declared.answers.PoolRefusal.TheVariants as refusals
use Rattle.tds_pool.specs.declared.answers.GivenBack.{GivenBack}
use Rattle.tds_pool.specs.declared.answers.GivenBack.TheVariants as given
use Rattle.tds_pool.specs.declared.lease.Lease.{Lease}
use Rattle.tds_pool.specs.declared.lease.Ticket.{Ticket}
use Rattle.tds_pool.specs.declared.lease.Turn.{Turn}
use Rattle.tds_pool.specs.declared.seat.Place.{Place}
use Rattle.tds_pool.specs.declared.seat.Place.TheVariants as places
use Rattle.tds_pool.specs.Connections.{Connection, numbered, changed_in, at_place, lending_ended_at, with_client, taken_out, first_turn, same_turn}

abbrev pub refusal_number : PoolRefusal → ℕ
refusal_number refusals.AllInUse = 1
refusal_number refusals.Unknown = 2
refusal_number refusals.NotIdle = 3
refusal_number refusals.NoTransaction = 4
refusal_number refusals.Broken = 5
refusal_number refusals.Memory = 6
refusal_number refusals.NumbersUsedUp = 7

-- ---- Who a connection is lent to

abbrev pub is_leased : Place → Bool
is_leased places.Leased = true
is_leased _ = false

abbrev pub is_kept : Place → Bool
is_kept places.Kept = true
is_kept _ = false

abbrev pub is_free : Place → Bool
is_free places.Free = true
is_free _ = false

abbrev pub is_draining : Place → Bool
is_draining places.Draining = true
is_draining _ = false

abbrev pub is_cleaning : Place → Bool
is_cleaning places.Cleaning = true
is_cleaning _ = false

-- where it meets the test
abbrev pub only : (Connection → Bool) → Option Connection → Option Connection
only test None = None
only test (Some c) = if test c then Some c else None

-- the connection of this number, where it has this key and its turn and its place meet the test
abbrev pub standing : (Turn → Place → Bool) → ℕ → ℕ → List Connection → Option Connection
standing test key number cs =
    only (λ (c : Connection). (c.key == key) && test c.turn c.place) (numbered number cs)

-- whether a connection whose turn is now that one, at that place, is lent for this turn, or kept
-- for it
abbrev pub is_lent_for : Turn → Turn → Place → Bool
is_lent_for turn now place = same_turn now turn && is_leased place

abbrev pub is_kept_for : Turn → Turn → Place → Bool
is_kept_for turn now place = same_turn now turn && is_kept place

-- the connection that a lease, or a ticket, stands for: of its number, under its key, and lent,
-- or kept, for its turn, which names its pool too
abbrev pub lent_to : Lease → List Connection → Option Connection
lent_to lease cs = standing (is_lent_for lease.turn) lease.key lease.number cs

abbrev pub kept_for : Ticket → List Connection → Option Connection
kept_for ticket cs = standing (is_kept_for ticket.turn) ticket.key ticket.number cs

-- ---- A client's stage

abbrev pub is_idle : Stage → Bool
is_idle Idle = true
is_idle _ = false

abbrev pub is_broken : Stage → Bool
is_broken (Broken fault) = true
is_broken _ = false

-- where a connection stands that nobody holds: it is free if its client is idle, it drains if its
-- client is not, and if that is broken it is taken out
abbrev pub rests_at : Stage → Option Place
rests_at Idle = Some places.Free
rests_at (Sending kind left packets) = Some places.Draining
rests_at Reading = Some places.Draining
rests_at Cancelling = Some places.Draining
rests_at (Broken fault) = None

-- ---- Giving back

-- an answer, and the connections behind it
pub record Returned : Type 0 where
  pub answer : GivenBack
  pub connections : List Connection

abbrev pub rested : ℕ → Option Place → List Connection → Returned
rested number None cs = record { answer = given.Closed number; connections = taken_out number cs }
rested number (Some places.Draining) cs =
    record {
      answer = given.Draining number;
      connections = lending_ended_at number places.Draining cs;
    }
rested number (Some places.Leased) cs =
    record { answer = given.Free number; connections = lending_ended_at number places.Leased cs }
rested number (Some places.Kept) cs =
    record { answer = given.Free number; connections = lending_ended_at number places.Kept cs }
rested number (Some places.Free) cs =
    record { answer = given.Free number; connections = lending_ended_at number places.Free cs }
rested number (Some places.Cleaning) cs =
    record { answer = given.Free number; connections = lending_ended_at number places.Cleaning cs }

-- nobody holds this connection any more; where there is none, nothing changes
abbrev pub put_back : Option Connection → List Connection → Returned
put_back None cs = record { answer = given.Unknown; connections = cs }
put_back (Some c) cs = rested c.number (rests_at c.client.stage) cs

-- a ticket is abandoned
abbrev pub abandoned : Ticket → List Connection → Returned
abandoned ticket cs = put_back (kept_for ticket cs) cs

-- a draining connection is looked at again
abbrev pub drained : ℕ → List Connection → Returned
drained number cs =
    put_back (only (λ (c : Connection). is_draining c.place) (numbered number cs)) cs

-- ---- Keeping a transaction

-- why a call that wants an idle client is refused, if it is
abbrev pub unless_idle : Stage → Option PoolRefusal
unless_idle Idle = None
unless_idle (Sending kind left packets) = Some refusals.NotIdle
unless_idle Reading = Some refusals.NotIdle
unless_idle Cancelling = Some refusals.NotIdle
unless_idle (Broken fault) = Some refusals.Broken

-- whether a transaction is open that no full reset is about to end
abbrev pub has_no_transaction : ℕ → Option Reset → Bool
has_no_transaction descriptor None = descriptor == 0
has_no_transaction descriptor (Some Full) = true
has_no_transaction descriptor (Some KeepTransaction) = descriptor == 0

abbrev pub unless_open : ClientSession → Stage → Option PoolRefusal
unless_open s Idle =
    if has_no_transaction s.heard.descriptor s.heard.mark then Some refusals.NoTransaction else None
unless_open s (Sending kind left packets) = Some refusals.NotIdle
unless_open s Reading = Some refusals.NotIdle
unless_open s Cancelling = Some refusals.NotIdle
unless_open s (Broken fault) = Some refusals.Broken

-- why a lease can't be kept, and a ticket not be resumed: the first cause of them
abbrev pub refuses_keep : Option Connection → Option PoolRefusal
refuses_keep None = Some refusals.Unknown
refuses_keep (Some c) = unless_open c.client c.client.stage

abbrev pub refuses_resume : Option Connection → Option PoolRefusal
refuses_resume None = Some refusals.Unknown
refuses_resume (Some c) = unless_idle c.client.stage

-- a connection is lent again, its client marked for a reset
abbrev pub lent_again : ℕ → Reset → List Connection → List Connection
lent_again number reset cs =
    changed_in number (λ (c : Connection). record c
    { place = places.Leased; client = marked c.client reset }) cs

-- ---- A connection that nobody holds any more

-- of this number; where there is none, nothing changes
abbrev pub settled : ℕ → List Connection → Returned
settled number cs = put_back (numbered number cs) cs

-- the client behind a cancel, and the bytes that go out for it; a broken client stays as it is
abbrev pub session_behind : Result (sending.Effect Cancelled) ClientRefusal → ClientSession
    → ClientSession
session_behind (Ok effect) s = effect.session
session_behind (Err refusal) s = s

abbrev pub bytes_behind : Result (sending.Effect Cancelled) ClientRefusal → List ℕ
bytes_behind (Ok effect) = effect.bytes
bytes_behind (Err refusal) = []

-- whether an attention goes out
abbrev pub IsAsked : Result (sending.Effect Cancelled) ClientRefusal → Type 0
IsAsked (Ok effect) = effect.answer ≡ asked.Asked
IsAsked (Err refusal) = ⊥

-- what is underway on a connection is cancelled
abbrev pub cancels : ℕ → ClientSession → List Connection → List Connection
cancels number client cs = with_client number (session_behind (sending.cancelled client) client) cs

-- ---- Giving back a lease

-- what is underway is cancelled, and then nobody holds the connection
abbrev pub cancelled_and_settled : Option Connection → List Connection → Returned
cancelled_and_settled None cs = record { answer = given.Unknown; connections = cs }
cancelled_and_settled (Some c) cs = settled c.number (cancels c.number c.client cs)

abbrev pub cancel_bytes : Option Connection → List ℕ
cancel_bytes None = []
cancel_bytes (Some c) = bytes_behind (sending.cancelled c.client)

abbrev pub given_back : Lease → List Connection → Returned
given_back lease cs = cancelled_and_settled (lent_to lease cs) cs

abbrev pub given_back_bytes : Lease → List Connection → List ℕ
given_back_bytes lease cs = cancel_bytes (lent_to lease cs)

-- ---- Lending

-- a free connection whose client is idle
abbrev pub is_lendable : Connection → Bool
is_lendable c = is_free c.place && is_idle c.client.stage

-- the one that is lent next, if there is any: the first of the rising numbers
abbrev pub lent_next : List Connection → Option Connection
lent_next cs = find is_lendable cs

-- why no new connection is opened, if one isn't, want of memory aside
abbrev pub refuses_new : ℕ → ℕ → ℕ → Option PoolRefusal
refuses_new count max last =
    if nat_lt count max then (if nat_lt last 4294967295 then None else Some refusals.NumbersUsedUp)
    else Some refusals.AllInUse

-- whether a lease is given, want of memory aside: a connection is free, or a new one may be opened
abbrev pub can_lend : ℕ → ℕ → List Connection → Bool
can_lend max last cs = is_some (lent_next cs) || is_none (refuses_new (length cs) max last)

-- the first refusal, and where there is none, want of memory
abbrev pub IsRefusal : Option PoolRefusal → PoolRefusal → Type 0
IsRefusal None refusal = refusal ≡ refusals.Memory
IsRefusal (Some first) refusal = refusal ≡ first

-- a new connection of the pool of this name
abbrev pub new_connection : ℕ → ℕ → ℕ → ℕ → Connection
new_connection pool number key size = record {
  number = number;
  key = key;
  turn = first_turn pool;
  place = places.Leased;
  client = new_session size;
}

-- ---- What a service asks

abbrev pub all_numbers : List Connection → List ℕ
all_numbers cs = map (λ (c : Connection). c.number) cs

-- whether a place is this one
abbrev pub stands_at : Place → Place → Bool
stands_at places.Leased place = is_leased place
stands_at places.Kept place = is_kept place
stands_at places.Free place = is_free place
stands_at places.Draining place = is_draining place
stands_at places.Cleaning place = is_cleaning place

abbrev pub count_at : Place → List Connection → ℕ
count_at place cs = count_by (λ (c : Connection). stands_at place c.place) cs

abbrev pub numbers_at : Place → List Connection → List ℕ
numbers_at place cs =
    map (λ (c : Connection). c.number) (filter (λ (c : Connection). stands_at place c.place) cs)

-- the free connection of this number
abbrev pub free_one : ℕ → List Connection → Option Connection
free_one number cs = only (λ (c : Connection). is_free c.place) (numbered number cs)

-- it is taken out
abbrev pub closed_for : Option Connection → List Connection → List Connection
closed_for None cs = cs
closed_for (Some c) cs = taken_out c.number cs

abbrev pub closed : ℕ → List Connection → List Connection
closed number cs = closed_for (free_one number cs) cs

-- ---- Taking back what is lent or kept, without its lease or ticket

abbrev pub is_held : Place → Bool
is_held places.Leased = true
is_held places.Kept = true
is_held places.Free = false
is_held places.Draining = false
is_held places.Cleaning = false

abbrev pub held_one : ℕ → List Connection → Option Connection
held_one number cs = only (λ (c : Connection). is_held c.place) (numbered number cs)

abbrev pub taken_back : ℕ → List Connection → Returned
taken_back number cs = cancelled_and_settled (held_one number cs) cs

abbrev pub taken_back_bytes : ℕ → List Connection → List ℕ
taken_back_bytes number cs = cancel_bytes (held_one number cs)

-- ---- Cleaning

-- why a connection can't be cleaned, if it can't, want of memory aside: it isn't free, or its
-- client isn't idle
abbrev pub refuses_clean : Option Connection → Option PoolRefusal
refuses_clean None = Some refusals.Unknown
refuses_clean (Some c) = unless_idle c.client.stage

-- the client that asks for a full reset by this request
abbrev pub asks_reset : ClientSession → Request → ClientSession
asks_reset s request = sending.started (marked s Full) request

-- a connection is being cleaned
abbrev pub cleaning : ℕ → Request → List Connection → List Connection
cleaning number request cs =
    changed_in number (λ (c : Connection). record c
    { place = places.Cleaning; client = asks_reset c.client request }) cs

-- behind a refusal the client is as it was, but where memory was wanting it is marked for a full
-- reset, as the next lease marks it too
abbrev pub behind_refusal : PoolRefusal → ClientSession → ClientSession
behind_refusal refusals.Memory s = marked s Full
behind_refusal _ s = s

abbrev pub not_cleaned : PoolRefusal → ℕ → List Connection → List Connection
not_cleaned refusal number cs =
    changed_in number (λ (c : Connection). record c { client = behind_refusal refusal c.client }) cs

-- whether a client has heard that its reset was done, and is in no transaction
abbrev pub is_clean : ClientSession → Bool
is_clean s = is_none s.heard.mark && (s.heard.descriptor == 0)

-- where a connection stands that is being cleaned: it is free once its client is idle, its reset
-- was done, and it is in no transaction; where one of these fails, or it is broken, it is taken out
abbrev pub rests_clean : ClientSession → Stage → Option Place
rests_clean s Idle = if is_clean s then Some places.Free else None
rests_clean s (Sending kind left packets) = Some places.Cleaning
rests_clean s Reading = Some places.Cleaning
rests_clean s Cancelling = Some places.Cleaning
rests_clean s (Broken fault) = None

-- what a look at a connection that is being cleaned finds
abbrev pub cleaned_to : ℕ → Option Place → List Connection → Returned
cleaned_to number None cs =
    record { answer = given.Closed number; connections = taken_out number cs }
cleaned_to number (Some places.Free) cs =
    record { answer = given.Free number; connections = at_place number places.Free cs }
cleaned_to number _ cs = record { answer = given.Draining number; connections = cs }

abbrev pub looked_at_clean : Option Connection → List Connection → Returned
looked_at_clean None cs = record { answer = given.Unknown; connections = cs }
looked_at_clean (Some c) cs = cleaned_to c.number (rests_clean c.client c.client.stage) cs

abbrev pub cleaned : ℕ → List Connection → Returned
cleaned number cs =
    looked_at_clean (only (λ (c : Connection). is_cleaning c.place) (numbered number cs)) cs
