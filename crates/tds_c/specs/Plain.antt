-- A client as a plain value: each part of it as a number, and back.
use Rattle.std.specs.Prelude.{ℕ, ◌+◌, ◌^◌, nat_lt, nat_le, ◌==◌, ◌&&◌, Bool, true, List, length, Option, Some, None, if◌then◌else◌}
use Rattle.tds_packet.specs.declared.status.Reset.{Reset}
use Rattle.tds_packet.specs.declared.status.Reset.TheVariants.{Full, KeepTransaction}
use Rattle.tds_packet.specs.declared.kind.Kind.{Kind}
use Rattle.tds_packet.specs.declared.kind.Kind.TheVariants as kinds
use Rattle.tds_packet.specs.Layout.{kind_byte}
use Rattle.tds_token.specs.declared.fault.TokenFault.{TokenFault}
use Rattle.tds_token.specs.declared.fault.TokenFault.TheVariants as tokens
use Rattle.tds_token.specs.Faults as token
use Rattle.tds_client.specs.declared.client.parts.ClientParts.{ClientParts}
use Rattle.tds_client.specs.declared.client.parts.StageParts.{StageParts}
use Rattle.tds_client.specs.declared.client.parts.StageParts.TheVariants as stages
use Rattle.tds_client.specs.declared.fault.ClientFault.{ClientFault}
use Rattle.tds_client.specs.declared.fault.ClientFault.TheVariants as faults
use Rattle.tds_client.specs.declared.heard.FinalDone.{FinalDone}
use Rattle.tds_client.specs.declared.heard.FinalDone.TheVariants.{Awaited, Answered, Acknowledged}
use Rattle.tds_client.specs.Faults.{fault_number}
use Rattle.tds_client.specs.Parts.{session_from}
use Rattle.tds_client.specs.Session.{ClientSession}
use Rattle.tds_walk.specs.Wire.{◌>>=◌}
use Rattle.tds_c.specs.declared.client.TdsClient.{TdsClient}

-- ---- A client's parts as numbers

abbrev pub mark_number : Option Reset → ℕ
mark_number None = 0
mark_number (Some Full) = 1
mark_number (Some KeepTransaction) = 2

abbrev pub done_number : FinalDone → ℕ
done_number Awaited = 0
done_number Answered = 1
done_number Acknowledged = 2

abbrev pub columns_number : Option ℕ → ℕ
columns_number None = 0
columns_number (Some count) = count

abbrev pub stage_number : StageParts → ℕ
stage_number stages.Idle = 0
stage_number (stages.Sending kind packets) = 1
stage_number stages.Reading = 2
stage_number stages.Cancelling = 3
stage_number (stages.Broken fault) = 4

-- The type of the request's packets, and how many are out: of a request that is being sent.
abbrev pub kind_number : StageParts → ℕ
kind_number (stages.Sending kind packets) = kind_byte kind
kind_number _ = 0

abbrev pub packets_number : StageParts → ℕ
packets_number (stages.Sending kind packets) = packets
packets_number _ = 0

-- The fault that broke it, and the token's fault in it.
abbrev pub token_fault_number : ClientFault → ℕ
token_fault_number (faults.Token fault) = token.fault_number fault
token_fault_number _ = 0

abbrev pub broken_number : (ClientFault → ℕ) → StageParts → ℕ
broken_number number (stages.Broken fault) = number fault
broken_number number _ = 0

-- The value of these parts, where so many bytes of the request's message are out.
unfoldable pub plain_of : ClientParts → ℕ → TdsClient
plain_of p sent = record {
  descriptor = p.heard.descriptor;
  sent = sent;
  packets = packets_number p.stage;
  size = p.size;
  stage = stage_number p.stage;
  kind = kind_number p.stage;
  fault = broken_number fault_number p.stage;
  token_fault = broken_number token_fault_number p.stage;
  mark = mark_number p.heard.mark;
  done = done_number p.heard.done;
  columns = columns_number p.columns;
}

-- The value of a client that reads, whatever stands in what it doesn't use.
abbrev pub while_reading : TdsClient → TdsClient
while_reading c = record c { sent = 0; packets = 0; kind = 0; fault = 0; token_fault = 0 }

-- ---- And back

unfoldable pub mark_from : ℕ → Option (Option Reset)
mark_from n =
    if n == 0 then Some None else if n == 1 then Some (Some Full) else if n == 2 then Some (Some KeepTransaction) else None

unfoldable pub done_from : ℕ → Option FinalDone
done_from n = if n == 0 then Some Awaited else if n == 1 then Some Answered else if n == 2 then Some Acknowledged else None

-- 1 to 16, or 0 for none.
unfoldable pub columns_from : ℕ → Option (Option ℕ)
columns_from n = if n == 0 then Some None else if nat_le n 16 then Some (Some n) else None

unfoldable pub token_fault_from : ℕ → Option TokenFault
token_fault_from n =
    if n == 1 then Some tokens.UnknownToken
    else if n == 2 then Some tokens.Cut
    else if n == 3 then Some tokens.WrongLength
    else if n == 4 then Some tokens.WrongEnvChange
    else if n == 5 then Some tokens.WrongStatus
    else if n == 6 then Some tokens.NoColumns
    else if n == 7 then Some tokens.WrongColumn
    else None

unfoldable pub fault_from : ℕ → ℕ → Option ClientFault
fault_from n token =
    if n == 1 then Some faults.AnswerInIdle
    else if n == 2 then Some faults.AnswerInSending
    else if n == 3 then Some faults.UnaskedAcknowledgement
    else if n == 4 then Some faults.WrongEnvChange
    else if n == 5 then Some faults.UnaskedReset
    else if n == 6 then Some faults.NoFinalDone
    else if n == 7 then Some faults.BehindFinalDone
    else if n == 8 then (token_fault_from token >>= λ fault. Some (faults.Token fault))
    else if n == 9 then Some faults.Lost
    else None

-- The type of a request's packets: of all six that are written (MS-TDS 2.2.3.1.1).
unfoldable pub kind_from : ℕ → Option Kind
kind_from n =
    if n == 0x01 then Some kinds.Batch
    else if n == 0x03 then Some kinds.Procedure
    else if n == 0x04 then Some kinds.Answer
    else if n == 0x06 then Some kinds.Attention
    else if n == 0x07 then Some kinds.BulkLoad
    else if n == 0x0E then Some kinds.Transaction
    else None

-- What a stage doesn't use isn't looked at.
unfoldable pub stage_from_number : TdsClient → Option StageParts
stage_from_number c =
    if c.stage == 0 then Some stages.Idle
    else if c.stage == 1 then (kind_from c.kind >>= λ kind. Some (stages.Sending kind c.packets))
    else if c.stage == 2 then Some stages.Reading
    else if c.stage == 3 then Some stages.Cancelling
    else if c.stage == 4 then (fault_from c.fault c.token_fault >>= λ fault. Some (stages.Broken fault))
    else None

unfoldable pub size_from : ℕ → Option ℕ
size_from n = if nat_le 512 n && nat_le n 32767 then Some n else None

unfoldable pub parts_from : TdsClient → Option ClientParts
parts_from c = do
  size ← size_from c.size
  stage ← stage_from_number c
  mark ← mark_from c.mark
  done ← done_from c.done
  columns ← columns_from c.columns
  Some (record { size = size; stage = stage; heard = record { descriptor = c.descriptor; mark = mark; done = done }; columns = columns })

-- What is out and what is left is no more than memory can have.
unfoldable pub have_room : StageParts → ℕ → Bool
have_room (stages.Sending kind packets) left = nat_lt (packets + left) (2 ^ 63)
have_room _ left = true

-- The client that a value is, with these bytes of the message left. None where it is no client's.
unfoldable pub client_of : TdsClient → List ℕ → Option ClientSession
client_of c left = do
  parts ← parts_from c
  if have_room parts.stage (length left) then Some (session_from parts left) else None
