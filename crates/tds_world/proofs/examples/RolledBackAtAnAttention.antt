-- An attention in the middle of an answer, to a server that rolls back: the transaction that the answer
-- began is gone, and the acknowledgement tells it, in its own packet. To one that keeps it, both ends
-- still hold it.
use Rattle.std.specs.Prelude.{◌≡◌, refl, List, [], ◌∷◌, ◌++◌, replicate, Some, None, codes}
use Rattle.tds_packet.specs.declared.kind.Direction.TheVariants.{ToClient}
use Rattle.tds_request.specs.declared.request.Request.TheVariants.{Batch}
use Rattle.tds_session.specs.Answer.{script_answers}
use Rattle.tds_world.specs.declared.event.Event.{Event}
use Rattle.tds_world.specs.declared.event.Event.TheVariants as event
use Rattle.tds_world.specs.declared.event.Setup.{Setup}
use Rattle.tds_world.specs.declared.outcome.CancelOutcome.TheVariants as cancel
use Rattle.tds_world.specs.declared.outcome.Opened.TheVariants.{New}
use Rattle.tds_world.specs.declared.outcome.Outcome.TheVariants as outcome
use Rattle.tds_world.specs.declared.outcome.SendOutcome.TheVariants as sent
use Rattle.tds_world.specs.declared.outcome.WorkOutcome.TheVariants as work
use Rattle.tds_world.specs.declared.report.ClientView.TheVariants.{Idle}
use Rattle.tds_world.specs.declared.report.Place.TheVariants.{Leased}
use Rattle.tds_world.specs.declared.report.Report.{Report}
use Rattle.tds_world.specs.declared.report.RequestStatus.TheVariants as status
use Rattle.tds_world.specs.Events.{world_after}
use Rattle.tds_world.specs.Observed.{observed, bytes_of}
use Rattle.tds_world.specs.World.{World, new_world}
use Rattle.tds_world.proofs.examples.Shown.{with_max, rolling_back, Shows, asked, seen, session}

abbrev events : List Event
events =
    event.Lease ∷ event.Ask 1 (Batch (codes "begin;say a")) ∷ event.Send 1 ∷
    event.ToServer 1 52 ∷ event.Work 1 ∷ event.Cancel 1 ∷
    event.ToServer 1 8 ∷ event.ToClient 1 1000 ∷ []

abbrev report : Setup → Report
report setup = observed setup script_answers events

pub rolled_back : Shows (report (rolling_back 1))
    (outcome.Leased 1 1 New ∷ outcome.Asked 1 ∷ outcome.Sent sent.Last ∷ outcome.ToServer 52 ∷
    outcome.Work work.Step ∷ outcome.Cancel cancel.Asked ∷
    outcome.ToServer 8 ∷ outcome.ToClient 70 ∷ [])
    (asked 1 1 status.Acknowledged (Some (session 0 1)) [] ∷ [])
    (seen 1 Idle (Leased 1) 0 None (session 0 2) 0 0 ∷ [])
rolled_back = (refl, refl, refl)

pub kept : Shows (report (with_max 1))
    (outcome.Leased 1 1 New ∷ outcome.Asked 1 ∷ outcome.Sent sent.Last ∷ outcome.ToServer 52 ∷
    outcome.Work work.Step ∷ outcome.Cancel cancel.Asked ∷
    outcome.ToServer 8 ∷ outcome.ToClient 56 ∷ [])
    (asked 1 1 status.Acknowledged (Some (session 0 1)) [] ∷ [])
    (seen 1 Idle (Leased 1) 1 None (session 1 2) 0 0 ∷ [])
kept = (refl, refl, refl)

abbrev world : Setup → World
world setup = world_after setup script_answers events new_world

-- The step of `begin`, and the acknowledgement as the second packet of that message.
pub rolled_back_bytes : bytes_of (world (rolling_back 1)) 1 ToClient ≡
    0x04 ∷ 0x00 ∷ 0x00 ∷ 0x23 ∷ 0x00 ∷ 0x00 ∷ 0x01 ∷ 0x00 ∷ 0xE3 ∷ 0x0B ∷ 0x00 ∷ 0x08 ∷ 0x08 ∷
    0x01 ∷ 0x00 ∷ 0x00 ∷ 0x00 ∷ 0x00 ∷ 0x00 ∷ 0x00 ∷ 0x00 ∷ 0x00 ∷ 0xFD ∷ 0x01 ∷ 0x00 ∷ 0x00 ∷
    0x00 ∷ (replicate 8 0x00 ++ (
    0x04 ∷ 0x01 ∷ 0x00 ∷ 0x23 ∷ 0x00 ∷ 0x00 ∷ 0x02 ∷ 0x00 ∷ 0xE3 ∷ 0x0B ∷ 0x00 ∷ 0x0A ∷ 0x00 ∷
    0x08 ∷ 0x01 ∷ 0x00 ∷ 0x00 ∷ 0x00 ∷ 0x00 ∷ 0x00 ∷ 0x00 ∷ 0x00 ∷ 0xFD ∷ 0x20 ∷ 0x00 ∷ 0x00 ∷
    0x00 ∷ replicate 8 0x00))
rolled_back_bytes = refl

pub kept_bytes : bytes_of (world (with_max 1)) 1 ToClient ≡
    0x04 ∷ 0x00 ∷ 0x00 ∷ 0x23 ∷ 0x00 ∷ 0x00 ∷ 0x01 ∷ 0x00 ∷ 0xE3 ∷ 0x0B ∷ 0x00 ∷ 0x08 ∷ 0x08 ∷
    0x01 ∷ 0x00 ∷ 0x00 ∷ 0x00 ∷ 0x00 ∷ 0x00 ∷ 0x00 ∷ 0x00 ∷ 0x00 ∷ 0xFD ∷ 0x01 ∷ 0x00 ∷ 0x00 ∷
    0x00 ∷ (replicate 8 0x00 ++ (
    0x04 ∷ 0x01 ∷ 0x00 ∷ 0x15 ∷ 0x00 ∷ 0x00 ∷ 0x02 ∷ 0x00 ∷ 0xFD ∷ 0x20 ∷ 0x00 ∷ 0x00 ∷
    0x00 ∷ replicate 8 0x00))
kept_bytes = refl
