-- The first run: one lease, and a begin that is answered.
use Rattle.std.specs.Prelude.{◌≡◌, refl, List, [], ◌∷◌, Some, None}
use Rattle.tds_packet.specs.declared.kind.Direction.TheVariants.{ToServer, ToClient}
use Rattle.tds_request.specs.declared.request.Request.TheVariants.{Begin}
use Rattle.tds_session.specs.Answer.{script_answers}
use Rattle.tds_world.specs.declared.event.Event.{Event}
use Rattle.tds_world.specs.declared.event.Event.TheVariants as event
use Rattle.tds_world.specs.declared.outcome.Opened.TheVariants.{New}
use Rattle.tds_world.specs.declared.outcome.Outcome.TheVariants as outcome
use Rattle.tds_world.specs.declared.outcome.SendOutcome.TheVariants as sent
use Rattle.tds_world.specs.declared.outcome.WorkOutcome.TheVariants as work
use Rattle.tds_world.specs.declared.report.ClientView.TheVariants.{Idle}
use Rattle.tds_world.specs.declared.report.Place.TheVariants.{Leased}
use Rattle.tds_world.specs.declared.report.Report.{Report}
use Rattle.tds_world.specs.declared.report.RequestStatus.TheVariants as status
use Rattle.tds_world.specs.Events.{world_after}
use Rattle.tds_world.specs.Observed.{observed, bytes_of}
use Rattle.tds_world.specs.World.{World, new_world}
use Rattle.tds_world.proofs.examples.Shown.{with_max, Shows, asked, seen, session, done}

abbrev events : List Event
events =
    event.Lease ∷ event.Ask 1 (Begin 0) ∷ event.Send 1 ∷ event.ToServer 1 34 ∷ event.Work 1 ∷
    event.ToClient 1 35 ∷ []

abbrev report : Report
report = observed (with_max 1) script_answers events

pub shown : Shows report
    (outcome.Leased 1 1 New ∷ outcome.Asked 1 ∷ outcome.Sent sent.Last ∷ outcome.ToServer 34 ∷
    outcome.Work work.Finished ∷ outcome.ToClient 35 ∷ [])
    (asked 1 1 status.Finished (Some (session 0 1)) (done 0 0 ∷ []) ∷ [])
    (seen 1 Idle (Leased 1) 1 None (session 1 2) 0 0 ∷ [])
shown = (refl, refl, refl)

abbrev world : World
world = world_after (with_max 1) script_answers events new_world

-- The request: begin, with isolation 0, outside a transaction.
pub request_bytes : bytes_of world 1 ToServer ≡
    0x0E ∷ 0x01 ∷ 0x00 ∷ 0x22 ∷ 0x00 ∷ 0x00 ∷ 0x01 ∷ 0x00 ∷ 0x16 ∷ 0x00 ∷ 0x00 ∷ 0x00 ∷ 0x12 ∷
    0x00 ∷ 0x00 ∷ 0x00 ∷ 0x02 ∷ 0x00 ∷ 0x00 ∷ 0x00 ∷ 0x00 ∷ 0x00 ∷ 0x00 ∷ 0x00 ∷ 0x00 ∷ 0x00 ∷
    0x01 ∷ 0x00 ∷ 0x00 ∷ 0x00 ∷ 0x05 ∷ 0x00 ∷ 0x00 ∷ 0x00 ∷ []
request_bytes = refl

-- Its answer: the transaction 1 began, and a final DONE.
pub answer_bytes : bytes_of world 1 ToClient ≡
    0x04 ∷ 0x01 ∷ 0x00 ∷ 0x23 ∷ 0x00 ∷ 0x00 ∷ 0x01 ∷ 0x00 ∷ 0xE3 ∷ 0x0B ∷ 0x00 ∷ 0x08 ∷ 0x08 ∷
    0x01 ∷ 0x00 ∷ 0x00 ∷ 0x00 ∷ 0x00 ∷ 0x00 ∷ 0x00 ∷ 0x00 ∷ 0x00 ∷ 0xFD ∷ 0x00 ∷ 0x00 ∷ 0x00 ∷
    0x00 ∷ 0x00 ∷ 0x00 ∷ 0x00 ∷ 0x00 ∷ 0x00 ∷ 0x00 ∷ 0x00 ∷ 0x00 ∷ []
answer_bytes = refl
