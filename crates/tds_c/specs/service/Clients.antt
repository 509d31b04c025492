-- The client on a seat: as the core of clients has it, and what a call makes of it, part for part.
use Rattle.std.specs.Prelude.{◌≡◌, ℕ, ◌+◌, ◌==◌, Bool, true, false, List, [], ◌++◌, Option, Some, None, if◌then◌else◌}
use Rattle.tds_packet.specs.declared.kind.Kind.{Kind}
use Rattle.tds_packet.specs.Layout.{kind_byte}
use Rattle.tds_client.specs.declared.message.MessageKind.{MessageKind}
use Rattle.tds_client.specs.Packets.{stop_bytes, ignore}
use Rattle.tds_client.specs.Session as session
use Rattle.tds_client.specs.Session.{ClientSession}
use Rattle.tds_client.specs.Streams.{packets_are}
use Rattle.tds_service.specs.Line.{LineStage, Idle, Sending, Reading, Cancelling, Broken}
use Rattle.tds_c.specs.declared.service.plain.TdsClient.{TdsClient}
use Rattle.tds_c.specs.declared.service.plain.TdsSeat.{TdsSeat}
use Rattle.tds_c.specs.declared.service.seat.Stage as code
use Rattle.tds_c.specs.declared.service.seat.Stage.TheVariants as stages
use Rattle.tds_c.specs.service.Plain.{kind_at, line_of, stage_of}
use Rattle.tds_c.specs.service.Table.{seen}

-- ---- The client of `tds_client` that it is

abbrev pub stage_with : LineStage → Kind → (packets : ℕ) → (left : List ℕ) → session.Stage
stage_with Idle kind packets left = session.Idle
stage_with (Sending begun) kind packets left = session.Sending kind left packets
stage_with Reading kind packets left = session.Reading
stage_with Cancelling kind packets left = session.Cancelling
stage_with (Broken fault) kind packets left = session.Broken fault

abbrev pub columns_of : ℕ → Option ℕ
columns_of n = if n == 0 then None else Some n

-- With these bytes of its request's message waiting for a packet.
abbrev pub session_of : TdsSeat → List ℕ → ClientSession
session_of c left = record {
  size = c.client.size;
  stage = stage_with (stage_of c.client) (kind_at c.client.kind) c.client.packets left;
  heard = (line_of c).heard;
  columns = columns_of c.client.columns;
}

-- ---- What becomes of a seat: these parts change, and no others

abbrev pub asked_seat : MessageKind → TdsSeat → TdsSeat
asked_seat kind c = record c {
  client = record c.client { stage = 1; kind = kind_byte (packets_are kind); packets = 0; sent = 0 };
  asked = c.asked + 1;
}

-- A packet of its request went out, the last one or not.
abbrev pub sent_seat : Bool → TdsSeat → TdsSeat
sent_seat false c = record c { client = record c.client { packets = c.client.packets + 1 } }
sent_seat true c = record c { client = record c.client { stage = 2 } }

-- The number of the stage behind a cancel.
abbrev pub stage_cancelled : code.Stage → ℕ → ℕ
stage_cancelled stages.Idle n = n
stage_cancelled stages.Unsent n = 0
stage_cancelled stages.Sending n = 3
stage_cancelled stages.Reading n = 3
stage_cancelled stages.Cancelling n = n
stage_cancelled stages.Broken n = n

abbrev pub cancelled_seat : TdsSeat → TdsSeat
cancelled_seat c = record c { client = record c.client { stage = stage_cancelled (seen (stage_of c.client)) c.client.stage } }

-- What goes out for that.
abbrev pub cancel_bytes_at : code.Stage → Kind → (packets : ℕ) → List ℕ
cancel_bytes_at stages.Sending kind packets = ignore kind packets ++ stop_bytes
cancel_bytes_at stages.Reading kind packets = stop_bytes
cancel_bytes_at _ kind packets = []

abbrev pub cancel_bytes : TdsSeat → List ℕ
cancel_bytes c = cancel_bytes_at (seen (stage_of c.client)) (kind_at c.client.kind) c.client.packets

-- What a client has of its request and of a message's columns: nothing that comes changes these.
pub record Apart : Type 0 where
  pub sent : ℕ
  pub packets : ℕ
  pub size : ℕ
  pub kind : ℕ
  pub columns : ℕ

abbrev pub apart : TdsClient → Apart
apart c = record { sent = c.sent; packets = c.packets; size = c.size; kind = c.kind; columns = c.columns }
