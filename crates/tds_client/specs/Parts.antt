-- A client taken apart and put together again.
use Rattle.std.specs.Prelude.{ℕ, ◌+◌, ◌<◌, ◌^◌, List, [], length}
use Rattle.tds_client.specs.declared.client.parts.ClientParts.{ClientParts}
use Rattle.tds_client.specs.declared.client.parts.StageParts.{StageParts}
use Rattle.tds_client.specs.declared.client.parts.StageParts.TheVariants as parts
use Rattle.tds_client.specs.Session.{ClientSession, Stage, Idle, Sending, Reading, Cancelling, Broken}

-- The stage, but for the bytes that are left.
abbrev pub stage_parts : Stage → StageParts
stage_parts Idle = parts.Idle
stage_parts (Sending kind left packets) = parts.Sending kind packets
stage_parts Reading = parts.Reading
stage_parts Cancelling = parts.Cancelling
stage_parts (Broken fault) = parts.Broken fault

-- The bytes of the request that are still to go out.
abbrev pub left_of : Stage → List ℕ
left_of Idle = []
left_of (Sending kind left packets) = left
left_of Reading = []
left_of Cancelling = []
left_of (Broken fault) = []

abbrev pub parts_of : ClientSession → ClientParts
parts_of s = record { size = s.size; stage = stage_parts s.stage; heard = s.heard; columns = s.columns }

-- The same way back.
abbrev pub stage_from : StageParts → List ℕ → Stage
stage_from parts.Idle left = Idle
stage_from (parts.Sending kind packets) left = Sending kind left packets
stage_from parts.Reading left = Reading
stage_from parts.Cancelling left = Cancelling
stage_from (parts.Broken fault) left = Broken fault

-- What is kept of the bytes: all while a request is being sent, and else none.
abbrev pub left_by : StageParts → List ℕ → List ℕ
left_by parts.Idle left = []
left_by (parts.Sending kind packets) left = left
left_by parts.Reading left = []
left_by parts.Cancelling left = []
left_by (parts.Broken fault) left = []

abbrev pub session_from : ClientParts → List ℕ → ClientSession
session_from p left = record {
  size = p.size;
  stage = stage_from p.stage left;
  heard = p.heard;
  columns = p.columns;
}

-- Which parts are those of a client: what is out and what is left is no more than memory can have.
abbrev pub AreParts : StageParts → List ℕ → Type 0
AreParts parts.Idle left = Unit {0}
AreParts (parts.Sending kind packets) left = packets + length left < 2 ^ 63
AreParts parts.Reading left = Unit {0}
AreParts parts.Cancelling left = Unit {0}
AreParts (parts.Broken fault) left = Unit {0}
