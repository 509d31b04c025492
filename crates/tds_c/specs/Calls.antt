-- What each export does to the client that is handed to it.
use Rattle.std.specs.Prelude.{◌≡◌, ℕ, ◌-◌, ◌<◌, ◌==◌, nat_le, nat_lt, List, [], ◌++◌, length, drop, Option, Some, None, Result, Ok, Err, if◌then◌else◌}
use Rattle.tds_packet.specs.declared.status.Reset.{Reset}
use Rattle.tds_packet.specs.Size.{IsPacketSize}
use Rattle.tds_request.specs.declared.request.Request.{Request}
use Rattle.tds_request.specs.declared.request.Request.TheVariants as requests
use Rattle.tds_client.specs.declared.fault.ClientRefusal.{ClientRefusal}
use Rattle.tds_client.specs.declared.state.Cancelled.{Cancelled}
use Rattle.tds_client.specs.declared.state.Sent.{Sent}
use Rattle.tds_client.specs.Parts.{parts_of, left_of}
use Rattle.tds_client.specs.Sending.{Effect, refusal_of, started, message_of, sent, cancelled}
use Rattle.tds_client.specs.Session.{ClientSession, new_session, unless_idle, marked, lost}
use Rattle.tds_c.specs.declared.answers.Stop.{Stop}
use Rattle.tds_c.specs.declared.answers.Stop.TheVariants as stops
use Rattle.tds_c.specs.declared.attentions.Written.{Written}
use Rattle.tds_c.specs.declared.attentions.Written.TheVariants as written
use Rattle.tds_c.specs.declared.client.TdsClient.{TdsClient}
use Rattle.tds_c.specs.declared.messages.Asked.{Asked}
use Rattle.tds_c.specs.declared.messages.Asked.TheVariants as asked
use Rattle.tds_c.specs.declared.messages.Body.{Body}
use Rattle.tds_c.specs.declared.messages.Body.TheVariants as bodies
use Rattle.tds_c.specs.Plain.{client_of, mark_from, plain_of}

-- The value of a client, of whose message so many bytes are out.
abbrev pub value_of : ClientSession → ℕ → TdsClient
value_of s sent = plain_of (parts_of s) sent

-- What is written to the front of a buffer; what stands behind it stays.
abbrev pub with_front : List ℕ → List ℕ → List ℕ
with_front bytes buffer = bytes ++ drop (length bytes) buffer

-- ---- What the core's call on this client is to do. None where the value is no client's.

abbrev pub Wanted : Type 0 → Type 0
Wanted A = Option (Result (Effect A) ClientRefusal)

abbrev pub on : {A B : Type 0} → (A → B) → Option A → Option B
on f None = None
on f (Some x) = Some (f x)

abbrev pub unless : Option ClientRefusal → Effect (Unit {0}) → Result (Effect (Unit {0})) ClientRefusal
unless None effect = Ok effect
unless (Some refusal) effect = Err refusal

-- The message of the request is what is written.
abbrev pub start_on : Request → ClientSession → Result (Effect (Unit {0})) ClientRefusal
start_on request s = unless (unless_idle s.stage) (record { answer = tt; session = started s request; bytes = message_of s.heard request })

abbrev pub starts : TdsClient → Request → Wanted (Unit {0})
starts c request = on (start_on request) (client_of c [])

-- What is left of the message goes out. It has the bytes at least that are out.
abbrev pub sends : TdsClient → List ℕ → Wanted Sent
sends c message = if nat_le c.sent (length message) then on sent (client_of c (drop c.sent message)) else None

abbrev pub cancels : TdsClient → Wanted Cancelled
cancels c = on cancelled (client_of c [])

-- No byte of a message is out.
abbrev pub none_out : ClientSession → ℕ
none_out s = 0

-- ---- What is written, as the program holds it

abbrev pub written_bytes : Written → List ℕ
written_bytes written.Nothing = []
written_bytes (written.Attention bytes) = bytes
written_bytes (written.Both bytes) = bytes

abbrev pub body_bytes : Body → List ℕ
body_bytes (bodies.Short bytes) = bytes
body_bytes (bodies.Long bytes) = bytes

-- The request that it is.
abbrev pub request_of : Asked → Request
request_of (asked.Begin isolation) = requests.Begin isolation
request_of (asked.Commit next) = requests.Commit next
request_of (asked.Rollback next) = requests.Rollback next

-- ---- What came of it

-- A buffer before and after, and how many bytes were written.
pub record Buffer : Type 0 where
  pub before : List ℕ
  pub after : List ℕ
  pub count : ℕ

-- It was done: this is the client, and the bytes stand at the buffer's front.
abbrev pub Wrote : {A : Type 0} → Wanted A → A → (ClientSession → ℕ) → TdsClient → Buffer → Type 0
Wrote wanted answer sent client buffer =
    (session : ClientSession) × (bytes : List ℕ) × (wanted ≡ Some (Ok (record { answer = answer; session = session; bytes = bytes })))
    × (client ≡ value_of session (sent session)) × (buffer.after ≡ with_front bytes buffer.before) × (buffer.count ≡ length bytes)

-- Why it was not done. Where room is wanted, the count says how much.
abbrev pub Stops : {A : Type 0} → Wanted A → Buffer → Stop → Type 0
Stops wanted buffer stops.NoClient = (wanted ≡ None) × (buffer.count ≡ 0)
Stops {A} wanted buffer stops.NoRoom =
    (answer : A) × (session : ClientSession) × (bytes : List ℕ)
    × (wanted ≡ Some (Ok (record { answer = answer; session = session; bytes = bytes })))
    × (buffer.count ≡ length bytes) × (length buffer.before < buffer.count)
Stops wanted buffer stops.OutOfRange = ⊥
Stops wanted buffer stops.WantsBytes = ⊥
Stops wanted buffer stops.NoPacket = ⊥
Stops wanted buffer stops.NoPlace = ⊥
Stops {A} wanted buffer (stops.Refused refusal) =
    (call : Result (Effect A) ClientRefusal) × (wanted ≡ Some call) × (refusal_of call ≡ Some refusal) × (buffer.count ≡ 0)
Stops wanted buffer (stops.Packet fault) = ⊥
Stops wanted buffer (stops.Token fault) = ⊥
Stops wanted buffer (stops.Client fault) = ⊥

-- Nothing was done.
abbrev pub Kept : TdsClient → TdsClient → Buffer → Type 0
Kept old new buffer = (new ≡ old) × (buffer.after ≡ buffer.before)

-- All that such a call says.
abbrev pub Writes : {A : Type 0} → Wanted A → (ClientSession → ℕ) → TdsClient → TdsClient → Buffer → Result A Stop → Type 0
Writes wanted sent old new buffer (Ok answer) = Wrote wanted answer sent new buffer
Writes wanted sent old new buffer (Err stop) = Stops wanted buffer stop × Kept old new buffer

-- A request that is none is refused, and nothing was done.
abbrev pub StartsIf : Type 0 → Wanted (Unit {0}) → TdsClient → TdsClient → Buffer → Result (Unit {0}) Stop → Type 0
StartsIf lawful wanted old new buffer (Ok done) = lawful × Writes wanted none_out old new buffer (Ok done)
StartsIf lawful wanted old new buffer (Err stops.OutOfRange) = (¬ lawful) × (buffer.count ≡ 0) × Kept old new buffer
StartsIf lawful wanted old new buffer (Err stops.NoClient) = Writes wanted none_out old new buffer (Err stops.NoClient)
StartsIf lawful wanted old new buffer (Err stops.NoRoom) = Writes wanted none_out old new buffer (Err stops.NoRoom)
StartsIf lawful wanted old new buffer (Err stops.WantsBytes) = Writes wanted none_out old new buffer (Err stops.WantsBytes)
StartsIf lawful wanted old new buffer (Err stops.NoPacket) = Writes wanted none_out old new buffer (Err stops.NoPacket)
StartsIf lawful wanted old new buffer (Err stops.NoPlace) = Writes wanted none_out old new buffer (Err stops.NoPlace)
StartsIf lawful wanted old new buffer (Err (stops.Refused refusal)) = Writes wanted none_out old new buffer (Err (stops.Refused refusal))
StartsIf lawful wanted old new buffer (Err (stops.Packet fault)) = Writes wanted none_out old new buffer (Err (stops.Packet fault))
StartsIf lawful wanted old new buffer (Err (stops.Token fault)) = Writes wanted none_out old new buffer (Err (stops.Token fault))
StartsIf lawful wanted old new buffer (Err (stops.Client fault)) = Writes wanted none_out old new buffer (Err (stops.Client fault))

-- The bytes of the message that are out.
abbrev pub out_of : List ℕ → ClientSession → ℕ
out_of message s = length message - length (left_of s.stage)

-- ---- Calls that change the client alone

abbrev pub mark_on : Reset → ClientSession → Result (Effect (Unit {0})) ClientRefusal
mark_on reset s = unless (unless_idle s.stage) (record { answer = tt; session = marked s reset; bytes = [] })

abbrev pub marks : TdsClient → Reset → Wanted (Unit {0})
marks c reset = on (mark_on reset) (client_of c [])

abbrev pub lose_on : ClientSession → Result (Effect (Unit {0})) ClientRefusal
lose_on s = Ok (record { answer = tt; session = lost s; bytes = [] })

abbrev pub loses : TdsClient → Wanted (Unit {0})
loses c = on lose_on (client_of c [])

abbrev pub no_buffer : Buffer
no_buffer = record { before = []; after = []; count = 0 }

abbrev pub Changes : Wanted (Unit {0}) → TdsClient → TdsClient → Result (Unit {0}) Stop → Type 0
Changes wanted old new result = Writes wanted none_out old new no_buffer result

-- By the reset's number.
abbrev pub MarksBy : Option (Option Reset) → TdsClient → TdsClient → Result (Unit {0}) Stop → Type 0
MarksBy None old new result = (result ≡ Err stops.OutOfRange) × (new ≡ old)
MarksBy (Some None) old new result = (result ≡ Err stops.OutOfRange) × (new ≡ old)
MarksBy (Some (Some reset)) old new result = Changes (marks old reset) old new result

abbrev pub MarksIf : ℕ → TdsClient → TdsClient → Result (Unit {0}) Stop → Type 0
MarksIf reset old new result = MarksBy (mark_from reset) old new result

-- A new client, of a packet size that is one.
abbrev pub IsNew : ℕ → TdsClient → TdsClient → Result (Unit {0}) Stop → Type 0
IsNew size old new (Ok done) = IsPacketSize size × (new ≡ value_of (new_session size) 0)
IsNew size old new (Err stop) = (¬ IsPacketSize size) × (stop ≡ stops.OutOfRange) × (new ≡ old)

-- ---- A commit or rollback, and the transaction that it begins at once

-- 0 to 5 is an isolation level, and 255 none.
unfoldable pub next_from : ℕ → Option (Option ℕ)
next_from n = if n == 255 then Some None else if nat_lt 5 n then None else Some (Some n)

abbrev pub StartsNext : Option (Option ℕ) → TdsClient → (Option ℕ → Request) → TdsClient → Buffer → Result (Unit {0}) Stop → Type 0
StartsNext None old request new buffer result = (result ≡ Err stops.OutOfRange) × (buffer.count ≡ 0) × Kept old new buffer
StartsNext (Some next) old request new buffer result = Writes (starts old (request next)) none_out old new buffer result
