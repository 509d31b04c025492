-- A begin is cancelled after its step. Nobody is told, but both ends hold the transaction, and the next request is asked in it.
use Rattle.std.specs.Prelude.{◌≡◌, refl, List, [], ◌∷◌, take, drop, Some, None, codes}
use Rattle.tds_packet.specs.declared.kind.Direction.TheVariants.{ToServer}
use Rattle.tds_request.specs.declared.request.Request.TheVariants.{Batch, Begin}
use Rattle.tds_session.specs.Answer.{script_answers}
use Rattle.tds_world.specs.declared.event.Event.{Event}
use Rattle.tds_world.specs.declared.event.Event.TheVariants as event
use Rattle.tds_world.specs.declared.outcome.CancelOutcome.TheVariants as cancel
use Rattle.tds_world.specs.declared.outcome.Opened.TheVariants.{New}
use Rattle.tds_world.specs.declared.outcome.Outcome.TheVariants as outcome
use Rattle.tds_world.specs.declared.outcome.SendOutcome.TheVariants as sent
use Rattle.tds_world.specs.declared.outcome.WorkOutcome.TheVariants as work
use Rattle.tds_world.specs.declared.report.ClientView.TheVariants.{Idle, Reading}
use Rattle.tds_world.specs.declared.report.Place.TheVariants.{Leased}
use Rattle.tds_world.specs.declared.report.Report.{Report}
use Rattle.tds_world.specs.declared.report.RequestStatus.TheVariants as status
use Rattle.tds_world.specs.Events.{world_after}
use Rattle.tds_world.specs.Observed.{observed, bytes_of}
use Rattle.tds_world.specs.World.{World, new_world}
use Rattle.tds_world.proofs.examples.Shown.{with_max, connections_after, Shows, asked, seen, session}

abbrev events : List Event
events =
    event.Lease ∷ event.Ask 1 (Begin 0) ∷ event.Send 1 ∷ event.ToServer 1 34 ∷ event.Work 1 ∷
    event.Cancel 1 ∷ event.ToServer 1 8 ∷ event.ToClient 1 56 ∷
    event.Ask 1 (Batch (codes "get x")) ∷ event.Send 1 ∷ []

abbrev report : Report
report = observed (with_max 1) script_answers events

pub shown : Shows report
    (outcome.Leased 1 1 New ∷ outcome.Asked 1 ∷ outcome.Sent sent.Last ∷ outcome.ToServer 34 ∷
    outcome.Work work.Finished ∷ outcome.Cancel cancel.Asked ∷ outcome.ToServer 8 ∷
    outcome.ToClient 56 ∷ outcome.Asked 2 ∷ outcome.Sent sent.Last ∷ [])
    (asked 1 1 status.Acknowledged (Some (session 0 1)) [] ∷ asked 1 1 status.Open None [] ∷ [])
    (seen 1 Reading (Leased 1) 1 None (session 1 2) 40 0 ∷ [])
shown = (refl, refl, refl)

-- Both ends hold descriptor 1 when the acknowledgement has come.
pub held : connections_after 8 report ≡ seen 1 Idle (Leased 1) 1 None (session 1 2) 0 0 ∷ []
held = refl

abbrev world : World
world = world_after (with_max 1) script_answers events new_world

-- The header of the next request names it.
pub next_request : take 34 (drop 42 (bytes_of world 1 ToServer)) ≡
    0x01 ∷ 0x01 ∷ 0x00 ∷ 0x28 ∷ 0x00 ∷ 0x00 ∷ 0x01 ∷ 0x00 ∷ 0x16 ∷ 0x00 ∷ 0x00 ∷ 0x00 ∷ 0x12 ∷
    0x00 ∷ 0x00 ∷ 0x00 ∷ 0x02 ∷ 0x00 ∷ 0x01 ∷ 0x00 ∷ 0x00 ∷ 0x00 ∷ 0x00 ∷ 0x00 ∷ 0x00 ∷ 0x00 ∷
    0x01 ∷ 0x00 ∷ 0x00 ∷ 0x00 ∷ 0x67 ∷ 0x00 ∷ 0x65 ∷ 0x00 ∷ []
next_request = refl
