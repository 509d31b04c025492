-- Any request as a stream: a message whose body its caller spells in parts (MS-TDS 2.2.1, 2.2.3.1.1, 2.2.5.3).
use Rattle.std.specs.Prelude.{ℕ, ◌+◌, ◌-◌, ◌*◌, ◌/◌, zero, suc, Bool, true, false, List, [], ◌++◌, length, take, drop, Option, Result, Ok, Err, if◌then◌else◌}
use Rattle.tds_packet.specs.declared.kind.Kind.{Kind}
use Rattle.tds_packet.specs.declared.kind.Kind.TheVariants as kinds
use Rattle.tds_packet.specs.declared.status.Reset.{Reset}
use Rattle.tds_packet.specs.Resets.{header_descriptor, mark_bit}
use Rattle.tds_packet.specs.Sent.{end_bit}
use Rattle.tds_request.specs.Layout.{all_headers}
use Rattle.tds_client.specs.declared.fault.ClientRefusal.{ClientRefusal}
use Rattle.tds_client.specs.declared.fault.ClientRefusal.TheVariants as refusals
use Rattle.tds_client.specs.declared.heard.Heard.{Heard}
use Rattle.tds_client.specs.declared.message.MessageKind.{MessageKind}
use Rattle.tds_client.specs.declared.message.MessageKind.TheVariants.{Batch, Procedure, BulkLoad, Transaction}
use Rattle.tds_client.specs.Packets.{packet_bytes}
use Rattle.tds_client.specs.Sending.{Effect, room}
use Rattle.tds_client.specs.Session.{ClientSession, Stage, Idle, Sending, Reading, Cancelling, Broken, with_stage}

-- The type of its packets (MS-TDS 2.2.3.1.1).
abbrev pub packets_are : MessageKind → Kind
packets_are Batch = kinds.Batch
packets_are Procedure = kinds.Procedure
packets_are BulkLoad = kinds.BulkLoad
packets_are Transaction = kinds.Transaction

-- ALL_HEADERS stands in front of any request but a bulk load (MS-TDS 2.2.5.3).
abbrev pub has_headers : MessageKind → Bool
has_headers Batch = true
has_headers Procedure = true
has_headers BulkLoad = false
has_headers Transaction = true

-- What the client writes of it: the headers, with the descriptor that was heard, or 0 where a full reset is asked for.
abbrev pub headers_of : Heard → MessageKind → List ℕ
headers_of heard kind = if has_headers kind then all_headers (header_descriptor heard.mark heard.descriptor) else []

abbrev pub opened : ClientSession → MessageKind → ClientSession
opened s kind = with_stage s (Sending (packets_are kind) (headers_of s.heard kind) 0)

-- ---- Packets that are full

-- How many full packets so many bytes fill, where at least one byte stands behind them: a message's last packet has that.
abbrev pub full_packets : ℕ → ℕ → ℕ
full_packets room bytes = (bytes - 1) / room

-- So many packets of these bytes, each full, behind `before` others of their message.
abbrev pub packets_of : ℕ → Kind → Option Reset → ℕ → ℕ → List ℕ → List ℕ
packets_of room kind mark before zero bytes = []
packets_of room kind mark before (suc count) bytes =
    packet_bytes kind (end_bit false + mark_bit before mark) before (take room bytes) ++ packets_of room kind mark (before + 1) count (drop room bytes)

-- ---- Putting

-- Of these bytes of a message, each packet that is full and not the last goes out. The others are left.
abbrev pub left_behind : ℕ → List ℕ → List ℕ
left_behind room bytes = drop (full_packets room (length bytes) * room) bytes

abbrev pub put_of : ClientSession → Kind → List ℕ → ℕ → Effect (Unit {0})
put_of s kind bytes packets = record {
  answer = tt;
  session = with_stage s (Sending kind (left_behind (room s) bytes) (packets + full_packets (room s) (length bytes)));
  bytes = packets_of (room s) kind s.heard.mark packets (full_packets (room s) (length bytes)) bytes;
}

abbrev pub put_in : ClientSession → List ℕ → Stage → Result (Effect (Unit {0})) ClientRefusal
put_in s more Idle = Err refusals.NotSending
put_in s more (Sending kind left packets) = Ok (put_of s kind (left ++ more) packets)
put_in s more Reading = Err refusals.NotSending
put_in s more Cancelling = Err refusals.NotSending
put_in s more (Broken fault) = Err refusals.Broken

-- Putting these bytes behind the others of the message, want of memory aside.
abbrev pub put : ClientSession → List ℕ → Result (Effect (Unit {0})) ClientRefusal
put s more = put_in s more s.stage

-- ---- Finishing

-- These bytes, the last of their message, in packets: each is full but the last, which ends the message.
abbrev pub ended_by : ℕ → Kind → Option Reset → ℕ → List ℕ → List ℕ
ended_by room kind mark before bytes =
    let full = full_packets room (length bytes) in
    packets_of room kind mark before full bytes ++ packet_bytes kind (end_bit true + mark_bit (before + full) mark) (before + full) (left_behind room bytes)

-- What is left goes out.
abbrev pub finished_of : ClientSession → Kind → List ℕ → ℕ → Effect (Unit {0})
finished_of s kind left packets = record { answer = tt; session = with_stage s Reading; bytes = ended_by (room s) kind s.heard.mark packets left }

abbrev pub finished_in : ClientSession → Stage → Result (Effect (Unit {0})) ClientRefusal
finished_in s Idle = Err refusals.NotSending
finished_in s (Sending kind left packets) = Ok (finished_of s kind left packets)
finished_in s Reading = Err refusals.NotSending
finished_in s Cancelling = Err refusals.NotSending
finished_in s (Broken fault) = Err refusals.Broken

-- Finishing the message, want of memory aside.
abbrev pub finished : ClientSession → Result (Effect (Unit {0})) ClientRefusal
finished s = finished_in s s.stage

-- ---- One of these calls

pub data Step : Type 0 where
  Open : (kind : MessageKind) → Step
  Put : (part : List ℕ) → Step
  Finish : Step
