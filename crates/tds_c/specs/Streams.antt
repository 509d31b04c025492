-- What the exports do that send any request in parts. What waits for a packet lies in the caller's memory.
use Rattle.std.specs.Prelude.{◌≡◌, ℕ, ◌+◌, ◌≤◌, ◌<◌, ◌⊎◌, ◌==◌, nat_le, List, [], length, take, Option, Some, None, Result, Ok, Err, if◌then◌else◌}
use Rattle.tds_request.specs.Layout.{all_headers}
use Rattle.tds_client.specs.declared.fault.ClientRefusal.{ClientRefusal}
use Rattle.tds_client.specs.declared.message.MessageKind.{MessageKind}
use Rattle.tds_client.specs.declared.message.MessageKind.TheVariants.{Batch, Procedure, BulkLoad, Transaction}
use Rattle.tds_client.specs.Parts.{left_of}
use Rattle.tds_client.specs.Sending.{Effect, IsRefusal, refusal_of, room}
use Rattle.tds_client.specs.Session.{ClientSession, unless_idle}
use Rattle.tds_client.specs.Streams.{finished, has_headers, headers_of, opened, put}
use Rattle.tds_c.specs.declared.answers.Stop.{Stop}
use Rattle.tds_c.specs.declared.answers.Stop.TheVariants as stops
use Rattle.tds_c.specs.declared.client.TdsClient.{TdsClient}
use Rattle.tds_c.specs.declared.streams.Putting.{Putting}
use Rattle.tds_c.specs.declared.streams.Putting.TheVariants.{All, Packet}
use Rattle.tds_c.specs.Calls.{Buffer, Kept, Wanted, Writes, none_out, on, unless, value_of, with_front}
use Rattle.tds_c.specs.Plain.{client_of}

-- ---- Beginning a message

-- By the type of its packets (MS-TDS 2.2.3.1.1).
unfoldable pub message_from : ℕ → Option MessageKind
message_from n =
    if n == 1 then Some Batch
    else if n == 3 then Some Procedure
    else if n == 7 then Some BulkLoad
    else if n == 0x0E then Some Transaction
    else None

-- What the client spells of it, with this descriptor.
abbrev pub headers_by : MessageKind → ℕ → List ℕ
headers_by kind descriptor = if has_headers kind then all_headers descriptor else []

-- Its headers are what is written.
abbrev pub open_on : MessageKind → ClientSession → Result (Effect (Unit {0})) ClientRefusal
open_on kind s = unless (unless_idle s.stage) (record { answer = tt; session = opened s kind; bytes = headers_of s.heard kind })

abbrev pub opens : TdsClient → MessageKind → Wanted (Unit {0})
opens c kind = on (open_on kind) (client_of c [])

-- A number that stands for no message is refused, and nothing was done.
abbrev pub Opens : Option MessageKind → TdsClient → TdsClient → Buffer → Result (Unit {0}) Stop → Type 0
Opens None old new buffer result = (result ≡ Err stops.OutOfRange) × (buffer.count ≡ 0) × Kept old new buffer
Opens (Some kind) old new buffer result = Writes (opens old kind) none_out old new buffer result

-- ---- What waits

-- A client of whose message these bytes wait: no more than a packet's data.
abbrev pub with_room : List ℕ → Option ClientSession → Option ClientSession
with_room kept None = None
with_room kept (Some s) = if nat_le (length kept) (room s) then Some s else None

unfoldable pub waits : TdsClient → List ℕ → Option ClientSession
waits c kept = with_room kept (client_of c kept)

abbrev pub finishes : TdsClient → List ℕ → Wanted (Unit {0})
finishes c kept = on finished (waits c kept)

-- ---- Putting bytes

-- The room for what waits, before and after, and how many bytes of it wait.
pub record Keep : Type 0 where
  pub before : List ℕ
  pub after : List ℕ
  pub waiting : ℕ
  pub waits : ℕ

abbrev pub put_number : Putting → ℕ
put_number All = 0
put_number Packet = 1

-- What waits, of a room that has so much.
abbrev pub waiting_in : TdsClient → Keep → Option ClientSession
waiting_in c keep = if nat_le keep.waiting (length keep.before) then waits c (take keep.waiting keep.before) else None

-- All of the bytes were taken and no packet is full, or one is and so many were.
abbrev pub IsTaken : Putting → ℕ → ℕ → List ℕ → List ℕ → Type 0
IsTaken All size taken bytes packet = (taken ≡ length bytes) × (packet ≡ [])
IsTaken Packet size taken bytes packet = (taken ≤ length bytes) × (length packet ≡ size)

-- It was done: this is the client, this packet stands at the front of the buffer, and what waits now at the front of its room.
pub record HasPut (old new : TdsClient) (keep : Keep) (bytes : List ℕ) (taken : ℕ) (buffer : Buffer) (answer : Putting) : Type 0 where
  pub before : ClientSession
  pub held : waiting_in old keep ≡ Some before
  pub session : ClientSession
  pub packet : List ℕ
  pub is : put before (take taken bytes) ≡ Ok (record { answer = tt; session = session; bytes = packet })
  pub client : new ≡ value_of session 0
  pub kept : keep.after ≡ with_front (left_of session.stage) keep.before
  pub waits_are : keep.waits ≡ length (left_of session.stage)
  pub written : buffer.after ≡ with_front packet buffer.before
  pub counted : buffer.count ≡ length packet
  pub taken_are : IsTaken answer before.size taken bytes packet

-- Why it was not done. Room is wanted for a whole packet and its data, whether one is full or not.
abbrev pub PutStops : TdsClient → Keep → List ℕ → Buffer → Stop → Type 0
PutStops old keep bytes buffer stops.NoClient = (waiting_in old keep ≡ None) × (buffer.count ≡ 0)
PutStops old keep bytes buffer stops.NoRoom =
    (s : ClientSession) × (waiting_in old keep ≡ Some s) × (buffer.count ≡ s.size)
    × ((length buffer.before < s.size) ⊎ (length keep.before + 8 < s.size))
PutStops old keep bytes buffer (stops.Refused refusal) =
    (s : ClientSession) × (waiting_in old keep ≡ Some s) × IsRefusal (refusal_of (put s bytes)) refusal × (buffer.count ≡ 0)
PutStops old keep bytes buffer _ = ⊥

-- Nothing was done.
pub record HasNotPut (old new : TdsClient) (keep : Keep) (taken : ℕ) (buffer : Buffer) : Type 0 where
  pub client : new ≡ old
  pub kept : keep.after ≡ keep.before
  pub waits_are : keep.waits ≡ keep.waiting
  pub written : buffer.after ≡ buffer.before
  pub taken_are : taken ≡ 0

abbrev pub Puts : TdsClient → TdsClient → Keep → List ℕ → ℕ → Buffer → Result Putting Stop → Type 0
Puts old new keep bytes taken buffer (Ok answer) = HasPut old new keep bytes taken buffer answer
Puts old new keep bytes taken buffer (Err stop) = PutStops old keep bytes buffer stop × HasNotPut old new keep taken buffer
