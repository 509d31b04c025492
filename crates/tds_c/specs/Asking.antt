-- What the export does that sends any request whole, where one packet has all of it.
use Rattle.std.specs.Prelude.{◌≡◌, ℕ, nat_lt, Bool, true, false, List, [], ◌++◌, length, Option, Some, None, Result, Ok, Err}
use Rattle.tds_client.specs.declared.fault.ClientRefusal.{ClientRefusal}
use Rattle.tds_client.specs.declared.message.MessageKind.{MessageKind}
use Rattle.tds_client.specs.Sending.{Effect, room}
use Rattle.tds_client.specs.Session.{ClientSession, unless_idle}
use Rattle.tds_client.specs.Streams.{finished, headers_of, opened, put}
use Rattle.tds_c.specs.declared.answers.Stop.{Stop}
use Rattle.tds_c.specs.declared.answers.Stop.TheVariants as stops
use Rattle.tds_c.specs.declared.client.TdsClient.{TdsClient}
use Rattle.tds_c.specs.Calls.{Buffer, Kept, Wanted, Writes, none_out, on}
use Rattle.tds_c.specs.Plain.{client_of}

-- What a call does or why it is refused.
abbrev pub Done : Type 0
Done = Result (Effect (Unit {0})) ClientRefusal

-- One call and then another: the second appends its bytes behind those of the first.
abbrev pub appended_to : List ℕ → Done → Done
appended_to first (Ok second) = Ok (record { answer = tt; session = second.session; bytes = first ++ second.bytes })
appended_to first (Err refusal) = Err refusal

abbrev pub then_by : (ClientSession → Done) → Done → Done
then_by next (Ok first) = appended_to first.bytes (next first.session)
then_by next (Err refusal) = Err refusal

-- ---- Asking

abbrev pub but_for : Option ClientRefusal → Done → Done
but_for None done = done
but_for (Some refusal) done = Err refusal

-- A message of this kind is begun, this body is put, and it is finished.
abbrev pub ask_on : MessageKind → List ℕ → ClientSession → Done
ask_on kind body s = but_for (unless_idle s.stage) (then_by finished (put (opened s kind) body))

abbrev pub asks : TdsClient → MessageKind → List ℕ → Wanted (Unit {0})
asks c kind body = on (ask_on kind body) (client_of c [])

-- Whether the message is longer than the data of a packet.
abbrev pub is_longer : MessageKind → List ℕ → Option ClientSession → Bool
is_longer kind body None = false
is_longer kind body (Some s) = nat_lt (room s) (length (headers_of s.heard kind ++ body))

abbrev pub AsksIf : Bool → Wanted (Unit {0}) → TdsClient → TdsClient → Buffer → Result (Unit {0}) Stop → Type 0
AsksIf true wanted old new buffer result = (result ≡ Err stops.OutOfRange) × (buffer.count ≡ 0) × Kept old new buffer
AsksIf false wanted old new buffer result = Writes wanted none_out old new buffer result

-- A number that stands for no message is refused, and so is one that no packet has whole: then nothing was done.
abbrev pub Asks : Option MessageKind → List ℕ → TdsClient → TdsClient → Buffer → Result (Unit {0}) Stop → Type 0
Asks None body old new buffer result = (result ≡ Err stops.OutOfRange) × (buffer.count ≡ 0) × Kept old new buffer
Asks (Some kind) body old new buffer result = AsksIf (is_longer kind body (client_of old [])) (asks old kind body) old new buffer result
