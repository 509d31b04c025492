-- A request that asks for a reset is cancelled after the reset is done. The mark is gone.
use Rattle.std.specs.Prelude.{◌≡◌, refl, List, [], ◌∷◌, Some, None, codes}
use Rattle.tds_packet.specs.declared.kind.Direction.TheVariants.{ToClient}
use Rattle.tds_request.specs.declared.request.Request.TheVariants.{Batch}
use Rattle.tds_session.specs.Answer.{script_answers}
use Rattle.tds_world.specs.declared.event.Event.{Event}
use Rattle.tds_world.specs.declared.event.Event.TheVariants as event
use Rattle.tds_world.specs.declared.outcome.CancelOutcome.TheVariants as cancel
use Rattle.tds_world.specs.declared.outcome.GiveBackOutcome.TheVariants as returned
use Rattle.tds_world.specs.declared.outcome.Opened.TheVariants.{New, Reused}
use Rattle.tds_world.specs.declared.outcome.Outcome.TheVariants as outcome
use Rattle.tds_world.specs.declared.outcome.SendOutcome.TheVariants as sent
use Rattle.tds_world.specs.declared.outcome.WorkOutcome.TheVariants as work
use Rattle.tds_world.specs.declared.report.ClientView.TheVariants.{Idle}
use Rattle.tds_world.specs.declared.report.Place.TheVariants.{Leased}
use Rattle.tds_world.specs.declared.report.Report.{Report}
use Rattle.tds_world.specs.declared.report.RequestStatus.TheVariants as status
use Rattle.tds_world.specs.Events.{world_after}
use Rattle.tds_world.specs.Observed.{observed, bytes_of}
use Rattle.tds_world.specs.World.{World, new_world}
use Rattle.tds_world.proofs.examples.Shown.{with_max, Shows, asked, seen, session}

abbrev events : List Event
events =
    event.Lease ∷ event.GiveBack 1 ∷ event.Lease ∷ event.Ask 2 (Batch (codes "set y 1")) ∷
    event.Send 2 ∷ event.ToServer 1 44 ∷ event.Work 1 ∷ event.Cancel 2 ∷ event.ToServer 1 8 ∷
    event.ToClient 1 35 ∷ []

abbrev report : Report
report = observed (with_max 1) script_answers events

pub shown : Shows report
    (outcome.Leased 1 1 New ∷ outcome.GivenBack returned.Free ∷ outcome.Leased 2 1 Reused ∷
    outcome.Asked 1 ∷ outcome.Sent sent.Last ∷ outcome.ToServer 44 ∷ outcome.Work work.Step ∷
    outcome.Cancel cancel.Asked ∷ outcome.ToServer 8 ∷ outcome.ToClient 35 ∷ [])
    (asked 2 1 status.Acknowledged (Some (session 0 1)) [] ∷ [])
    (seen 1 Idle (Leased 2) 0 None (session 0 1) 0 0 ∷ [])
shown = (refl, refl, refl)

abbrev world : World
world = world_after (with_max 1) script_answers events new_world

-- The reset, and the acknowledgement as the second packet of that message.
pub answer_bytes : bytes_of world 1 ToClient ≡
    0x04 ∷ 0x00 ∷ 0x00 ∷ 0x0E ∷ 0x00 ∷ 0x00 ∷ 0x01 ∷ 0x00 ∷ 0xE3 ∷ 0x03 ∷ 0x00 ∷ 0x12 ∷ 0x00 ∷
    0x00 ∷ 0x04 ∷ 0x01 ∷ 0x00 ∷ 0x15 ∷ 0x00 ∷ 0x00 ∷ 0x02 ∷ 0x00 ∷ 0xFD ∷ 0x20 ∷ 0x00 ∷ 0x00 ∷
    0x00 ∷ 0x00 ∷ 0x00 ∷ 0x00 ∷ 0x00 ∷ 0x00 ∷ 0x00 ∷ 0x00 ∷ 0x00 ∷ []
answer_bytes = refl
