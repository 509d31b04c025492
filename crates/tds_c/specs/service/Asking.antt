-- What the exports do by which a lease asks: the machine's call, the bytes that go out, and what waits for a packet in the caller's
-- memory.
use Rattle.std.specs.Prelude.{◌≡◌, ◌≢◌, ℕ, ◌+◌, ◌<◌, ◌≤◌, ◌⊎◌, ◌==◌, Bool, true, false, List, [], ◌++◌, length, take, drop, Option, Some, None, Result, Ok, Err, if◌then◌else◌}
use Rattle.std.specs.Prelude.{slice_index_or, slice_set}
use Rattle.tds_packet.specs.Resets.{mark_bit}
use Rattle.tds_packet.specs.Sent.{end_bit}
use Rattle.tds_packet.specs.Size.{IsPacketSize}
use Rattle.tds_request.specs.Layout.{all_headers}
use Rattle.tds_wire.specs.declared.told.Token.{Token}
use Rattle.tds_client.specs.declared.message.MessageKind.{MessageKind}
use Rattle.tds_client.specs.declared.message.MessageKind.TheVariants.{Batch, Procedure, BulkLoad, Transaction}
use Rattle.tds_client.specs.declared.state.Cancelled.{Cancelled}
use Rattle.tds_client.specs.declared.state.Cancelled.TheVariants as cancels
use Rattle.tds_client.specs.Packets.{packet_bytes}
use Rattle.tds_client.specs.Sending.{cancelled}
use Rattle.tds_client.specs.Streams.{finished, has_headers, opened, packets_are, put}
use Rattle.tds_service.specs.declared.refusal.Refusal.{Refusal}
use Rattle.tds_service.specs.declared.refusal.Refusal.TheVariants.{Memory}
use Rattle.tds_service.specs.declared.service.asking.Asked as asks
use Rattle.tds_service.specs.Line as line
use Rattle.tds_service.specs.Service.{Call, Ask, Put, Finish, Cancel, Did, Seat, has_lease}
use Rattle.tds_service.specs.Table.{Answers, Denies}
use Rattle.tds_service.specs.Ties.{cancel_answer}
use Rattle.tds_c.specs.declared.service.answers.Stop.{Stop}
use Rattle.tds_c.specs.declared.service.answers.Stop.TheVariants as stops
use Rattle.tds_c.specs.declared.service.plain.TdsAsked.{TdsAsked}
use Rattle.tds_c.specs.declared.service.plain.TdsSeat.{TdsSeat}
use Rattle.tds_c.specs.declared.service.sending.Putting.{Putting}
use Rattle.tds_c.specs.declared.service.sending.Putting.TheVariants.{All, Packet}
use Rattle.tds_c.specs.service.Answers.{stop_number}
use Rattle.tds_c.specs.service.Clients.{asked_seat, cancelled_seat, sent_seat, session_of}
use Rattle.tds_c.specs.service.Calls.{Buffer, DoesIt, Fits, Held, Stops, done_number}
use Rattle.tds_c.specs.service.Plain.{kind_at, mark_of, table_of, used}
use Rattle.tds_c.specs.service.Table.{FirstMet}

-- What is written to the front of a buffer; what stands behind it stays.
abbrev pub with_front : List ℕ → List ℕ → List ℕ
with_front bytes buffer = bytes ++ drop (length bytes) buffer

-- The seat that meets a test first.
pub record Found (test : Seat → Bool) (h : Held) (seat : TdsSeat) : Type 0 where
  pub index : ℕ
  pub met : FirstMet test (used h.service h.seats) index
  pub at : seat ≡ slice_index_or h.seats index seat

-- It was this one, and is that one now. No other changed, and nor did the table.
pub record Turned (test : Seat → Bool) (old new : Held) (before after : TdsSeat) : Type 0 where
  pub index : ℕ
  pub met : FirstMet test (used old.service old.seats) index
  pub was : before ≡ slice_index_or old.seats index before
  pub is : new.seats ≡ slice_set old.seats index after
  pub service : new.service ≡ old.service

-- A number of packets or of requests is used up.
abbrev pub UsedUp : (Seat → Bool) → Held → (TdsSeat → ℕ) → ℕ → Type 0
UsedUp test h number most = (c : TdsSeat) × Found test h c × (most ≤ number c)

-- The machine refuses it so; 22 is answered only where a number is used up.
abbrev pub RefusedAs : Call Token → Held → (Held → Type 0) → Refusal → Type 0
RefusedAs call h used_up refusal = Fits h × Denies call (table_of h.service h.seats) refusal × (refusal ≡ Memory → used_up h)

-- ---- Asking

-- By the type of its packets (MS-TDS 2.2.3.1.1).
unfoldable pub message_from : ℕ → Option MessageKind
message_from n =
    if n == 1 then Some Batch
    else if n == 3 then Some Procedure
    else if n == 7 then Some BulkLoad
    else if n == 14 then Some Transaction
    else None

-- The headers that wait first, with this descriptor (MS-TDS 2.2.5.3).
abbrev pub headers_by : MessageKind → ℕ → List ℕ
headers_by kind descriptor = if has_headers kind then all_headers descriptor else []

abbrev pub plain_asked : asks.Asked → TdsAsked
plain_asked a = record { number = a.number; request = a.request }

pub record HasAsked (lease : ℕ) (kind : MessageKind) (old new : Held) (kept : Buffer) (asked : asks.Asked) : Type 0 where
  pub descriptor : ℕ
  pub before : TdsSeat
  pub after : TdsSeat
  pub turned : Turned (has_lease lease) old new before after
  pub does : DoesIt (Ask lease) old new Did asked.number []
  pub names : Answers (Ask lease) (table_of old.service old.seats) (line.Asked asked.request descriptor)
  pub written : kept.after ≡ with_front (headers_by kind descriptor) kept.before
  pub counted : kept.count ≡ length (headers_by kind descriptor)
  pub kind_is : kind_at after.client.kind ≡ packets_are kind
  pub seat_is : after ≡ asked_seat kind before
  pub client_is : session_of after (headers_by kind descriptor) ≡ opened (session_of before []) kind

abbrev pub all_asked : ℕ → Held → Type 0
all_asked lease h = UsedUp (has_lease lease) h (λ c. c.asked) 18446744073709551615

abbrev pub AskStops : ℕ → Option MessageKind → Held → Buffer → Stop → Type 0
AskStops lease kind h kept stops.NoTable = (length h.seats < h.service.count) × (kept.count ≡ 0)
AskStops lease kind h kept stops.NoRoom =
    (k : MessageKind) × (d : ℕ) × (kind ≡ Some k) × (kept.count ≡ length (headers_by k d)) × (length kept.before < kept.count)
AskStops lease kind h kept stops.OutOfRange = (kind ≡ None) × (kept.count ≡ 0)
AskStops lease kind h kept (stops.Refused refusal) = RefusedAs (Ask lease) h (all_asked lease) refusal × (kept.count ≡ 0)

abbrev pub Asking : ℕ → Option MessageKind → (old new : Held) → Buffer → (before after : TdsAsked) → Result asks.Asked Stop → Type 0
Asking lease kind old new kept before after (Ok asked) =
    (k : MessageKind) × (kind ≡ Some k) × (after ≡ plain_asked asked) × HasAsked lease k old new kept asked
Asking lease kind old new kept before after (Err stop) =
    (new ≡ old) × (after ≡ before) × (kept.after ≡ kept.before) × AskStops lease kind old kept stop

abbrev pub Asks : ℕ → ℕ → (old new : Held) → Buffer → (before after : TdsAsked) → ℕ → Type 0
Asks lease kind old new kept before after n =
    (answer : Result asks.Asked Stop) × (n ≡ done_number answer) × Asking lease (message_from kind) old new kept before after answer

-- ---- Packets

-- The next packet of a seat's request, with these data (MS-TDS 2.2.3.1).
abbrev pub packet_of : TdsSeat → Bool → List ℕ → List ℕ
packet_of c last content =
    packet_bytes (kind_at c.client.kind) (end_bit last + mark_bit c.client.packets (mark_of c.client.mark)) c.client.packets content

abbrev pub all_packets : ℕ → Held → Type 0
all_packets lease h = UsedUp (has_lease lease) h (λ c. c.client.packets) 9223372036854775807

-- ---- Putting bytes

-- The room for what waits, before and after, and how many bytes of it wait.
pub record Keep : Type 0 where
  pub before : List ℕ
  pub after : List ℕ
  pub waiting : ℕ
  pub waits : ℕ

abbrev pub put_number : Putting → ℕ
put_number All = 0
put_number Packet = 1

-- What becomes of the seat.
abbrev pub put_seat : Putting → TdsSeat → TdsSeat
put_seat All c = c
put_seat Packet c = sent_seat false c

-- All of these bytes wait behind the others, and there is room in a packet for them; or they fill one, and the next byte waits.
abbrev pub AreTaken : Putting → TdsSeat → Keep → List ℕ → ℕ → List ℕ → Type 0
AreTaken All c keep bytes taken packet =
    (packet ≡ []) × (taken ≡ length bytes) × (keep.after ≡ with_front (take keep.waiting keep.before ++ bytes) keep.before)
    × (keep.waits ≡ keep.waiting + length bytes) × (keep.waits + 8 ≤ c.client.size)
AreTaken Packet c keep bytes taken packet =
    (end : ℕ) × (taken ≡ end + 1) × (end < length bytes) × (keep.waiting + end + 8 ≡ c.client.size)
    × (packet ≡ packet_of c false (take keep.waiting keep.before ++ take end bytes))
    × (keep.after ≡ with_front (take 1 (drop end bytes)) keep.before) × (keep.waits ≡ 1)

pub record HasPut (lease : ℕ) (old new : Held) (keep : Keep) (bytes : List ℕ) (taken : ℕ) (out : Buffer) (answer : Putting) : Type 0 where
  pub before : TdsSeat
  pub after : TdsSeat
  pub turned : Turned (has_lease lease) old new before after
  pub packet : List ℕ
  pub does : DoesIt (Put lease (put_number answer)) old new Did before.number packet
  pub written : out.after ≡ with_front packet out.before
  pub counted : out.count ≡ length packet
  pub taken_are : AreTaken answer before keep bytes taken packet
  pub seat_is : after ≡ put_seat answer before
  pub client_does : put (session_of before (take keep.waiting keep.before)) (take taken bytes)
      ≡ Ok (record { answer = tt; session = session_of after (take keep.waits keep.after); bytes = packet })

-- What waits isn't there, or is more than a packet holds; or the packet size is none.
abbrev pub WaitsWrong : TdsSeat → (waiting room : ℕ) → Type 0
WaitsWrong c waiting room = (¬ IsPacketSize c.client.size) ⊎ ((room < waiting) ⊎ (c.client.size < waiting + 8))

abbrev pub PutStops : ℕ → Held → Keep → Buffer → Stop → Type 0
PutStops lease h keep out stops.NoTable = (length h.seats < h.service.count) × (out.count ≡ 0)
PutStops lease h keep out stops.NoRoom =
    (c : TdsSeat) × Found (has_lease lease) h c × (out.count ≡ c.client.size)
    × ((length out.before < c.client.size) ⊎ (length keep.before + 8 < c.client.size))
PutStops lease h keep out stops.OutOfRange =
    (c : TdsSeat) × Found (has_lease lease) h c × WaitsWrong c keep.waiting (length keep.before) × (out.count ≡ 0)
PutStops lease h keep out (stops.Refused refusal) =
    ((packets : ℕ) → RefusedAs (Put lease packets) h (all_packets lease) refusal) × (out.count ≡ 0)

abbrev pub IsPut : ℕ → (old new : Held) → Keep → List ℕ → ℕ → Buffer → Result Putting Stop → Type 0
IsPut lease old new keep bytes taken out (Ok answer) = HasPut lease old new keep bytes taken out answer
IsPut lease old new keep bytes taken out (Err stop) =
    (new ≡ old) × (keep.after ≡ keep.before) × (keep.waits ≡ keep.waiting) × (taken ≡ 0) × (out.after ≡ out.before) × PutStops lease old keep out stop

abbrev pub puts_number : Result Putting Stop → ℕ
puts_number (Ok answer) = put_number answer
puts_number (Err stop) = stop_number stop

abbrev pub Puts : ℕ → (old new : Held) → Keep → List ℕ → ℕ → Buffer → ℕ → Type 0
Puts lease old new keep bytes taken out n =
    (answer : Result Putting Stop) × (n ≡ puts_number answer) × IsPut lease old new keep bytes taken out answer

-- ---- The end of a request

pub record HasFinished (lease : ℕ) (old new : Held) (kept : List ℕ) (out : Buffer) : Type 0 where
  pub before : TdsSeat
  pub after : TdsSeat
  pub turned : Turned (has_lease lease) old new before after
  pub does : DoesIt (Finish lease 0) old new Did before.number (packet_of before true kept)
  pub written : out.after ≡ with_front (packet_of before true kept) out.before
  pub counted : out.count ≡ 8 + length kept
  pub holds : length kept + 8 ≤ before.client.size
  pub seat_is : after ≡ sent_seat true before
  pub client_does : finished (session_of before kept) ≡ Ok (record { answer = tt; session = session_of after []; bytes = packet_of before true kept })

abbrev pub FinishStops : ℕ → Held → List ℕ → Buffer → Stop → Type 0
FinishStops lease h kept out stops.NoTable = (length h.seats < h.service.count) × (out.count ≡ 0)
FinishStops lease h kept out stops.NoRoom = Fits h × (out.count ≡ 8 + length kept) × (length out.before < out.count)
FinishStops lease h kept out stops.OutOfRange =
    (c : TdsSeat) × Found (has_lease lease) h c × WaitsWrong c (length kept) (length kept) × (out.count ≡ 0)
FinishStops lease h kept out (stops.Refused refusal) =
    ((packets : ℕ) → RefusedAs (Finish lease packets) h (all_packets lease) refusal) × (out.count ≡ 0)

abbrev pub Finishing : ℕ → (old new : Held) → List ℕ → Buffer → Result (Unit {0}) Stop → Type 0
Finishing lease old new kept out (Ok x) = HasFinished lease old new kept out
Finishing lease old new kept out (Err stop) = (new ≡ old) × (out.after ≡ out.before) × FinishStops lease old kept out stop

abbrev pub Finishes : ℕ → (old new : Held) → List ℕ → Buffer → ℕ → Type 0
Finishes lease old new kept out n = (answer : Result (Unit {0}) Stop) × (n ≡ done_number answer) × Finishing lease old new kept out answer

-- ---- A cancel

abbrev pub cancelled_number : Result Cancelled Stop → ℕ
cancelled_number (Ok cancels.Nothing) = 5
cancelled_number (Ok cancels.Already) = 6
cancelled_number (Ok cancels.Unsent) = 7
cancelled_number (Ok cancels.Asked) = 8
cancelled_number (Err stop) = stop_number stop

pub record HasCancelled (lease : ℕ) (old new : Held) (out : Buffer) (how : Cancelled) : Type 0 where
  pub before : TdsSeat
  pub after : TdsSeat
  pub turned : Turned (has_lease lease) old new before after
  pub within : out.count ≤ length out.after
  pub does : DoesIt (Cancel lease) old new Did before.number (take out.count out.after)
  pub how_is : Answers (Cancel lease) (table_of old.service old.seats) (cancel_answer before.asked how)
  pub seat_is : after ≡ cancelled_seat before
  pub client_does : (left : List ℕ) → cancelled (session_of before left) ≡ Ok (record { answer = how; session = session_of after left; bytes = take out.count out.after })

abbrev pub Cancelling : ℕ → (old new : Held) → Buffer → Result Cancelled Stop → Type 0
Cancelling lease old new out (Ok how) = HasCancelled lease old new out how
Cancelling lease old new out (Err stop) =
    (new ≡ old) × (out.after ≡ out.before) × (out.count ≤ 16) × (stop ≢ stops.Refused Memory)
    × Stops (Cancel lease) old (length out.before) out.count stop

abbrev pub Cancels : ℕ → (old new : Held) → Buffer → ℕ → Type 0
Cancels lease old new out n = (answer : Result Cancelled Stop) × (n ≡ cancelled_number answer) × Cancelling lease old new out answer
