-- What the values stand for that C keeps. No number is wrong: one without a name is what the last line says.
use Rattle.std.specs.Prelude.{ℕ, ◌==◌, List, [], ◌∷◌, Option, Some, None, length, take, if◌then◌else◌}
use Rattle.tds_packet.specs.declared.kind.Kind.{Kind}
use Rattle.tds_packet.specs.declared.kind.Kind.TheVariants as kinds
use Rattle.tds_packet.specs.declared.status.Reset.{Reset}
use Rattle.tds_packet.specs.declared.status.Reset.TheVariants.{Full, KeepTransaction}
use Rattle.tds_client.specs.declared.fault.ClientFault.{ClientFault}
use Rattle.tds_client.specs.declared.fault.ClientFault.TheVariants as faults
use Rattle.tds_client.specs.declared.heard.FinalDone.{FinalDone}
use Rattle.tds_client.specs.declared.heard.FinalDone.TheVariants as dones
use Rattle.tds_service.specs.Line.{Line, LineStage, Idle, Sending, Reading, Cancelling, Broken}
use Rattle.tds_service.specs.Service.{Place, Leased, Cleaning, Kept, Free, Draining, Seat, Service}
use Rattle.tds_service.specs.Ties.{begun_of}
use Rattle.tds_c.specs.declared.service.plain.TdsClient.{TdsClient}
use Rattle.tds_c.specs.declared.service.plain.TdsSeat.{TdsSeat}
use Rattle.tds_c.specs.declared.service.plain.TdsService.{TdsService}

-- ---- A connection

abbrev pub fault_of : ℕ → ClientFault
fault_of n =
    if n == 1 then faults.AnswerInIdle
    else if n == 2 then faults.AnswerInSending
    else if n == 3 then faults.UnaskedAcknowledgement
    else if n == 4 then faults.WrongEnvChange
    else if n == 5 then faults.UnaskedReset
    else if n == 6 then faults.NoFinalDone
    else if n == 7 then faults.BehindFinalDone
    else faults.Lost

unfoldable pub stage_at : (stage packets fault : ℕ) → LineStage
stage_at stage packets fault =
    if stage == 0 then Idle
    else if stage == 1 then Sending (begun_of packets)
    else if stage == 2 then Reading
    else if stage == 3 then Cancelling
    else Broken (fault_of fault)

abbrev pub stage_of : TdsClient → LineStage
stage_of c = stage_at c.stage c.packets c.fault

unfoldable pub mark_of : ℕ → Option Reset
mark_of n = if n == 1 then Some Full else if n == 2 then Some KeepTransaction else None

-- The type of a request's packets. A number that none has stands for a batch's.
unfoldable pub kind_at : ℕ → Kind
kind_at n = if n == 3 then kinds.Procedure else if n == 7 then kinds.BulkLoad else if n == 14 then kinds.Transaction else kinds.Batch

abbrev pub done_of : ℕ → FinalDone
done_of n = if n == 1 then dones.Answered else if n == 2 then dones.Acknowledged else dones.Awaited

abbrev pub line_of : TdsSeat → Line
line_of c = record {
  asked = c.asked;
  stage = stage_of c.client;
  heard = record { descriptor = c.client.descriptor; mark = mark_of c.client.mark; done = done_of c.client.done };
}

-- ---- Who holds it

unfoldable pub place_at : (place holder : ℕ) → Place
place_at place holder =
    if place == 1 then Leased holder
    else if place == 2 then Cleaning holder
    else if place == 3 then Kept holder
    else if place == 4 then Draining
    else Free

abbrev pub place_of : TdsSeat → Place
place_of c = place_at c.place c.holder

abbrev pub seat_of : TdsSeat → Seat
seat_of c = record { number = c.number; place = place_of c; line = line_of c }

abbrev pub seats_of : List TdsSeat → List Seat
seats_of [] = []
seats_of (c ∷ cs) = seat_of c ∷ seats_of cs

-- ---- The table

-- The connections in use stand at the array's front; it has room for the most that there may be.
abbrev pub used : TdsService → List TdsSeat → List TdsSeat
used s seats = take s.count seats

abbrev pub table_of : TdsService → List TdsSeat → Service
table_of s seats = record { max = length seats; last = s.last; given = s.given; seats = seats_of (used s seats) }
