-- A request that asks for a reset is cancelled before the reset is done. The mark stands, and the next request asks for it again.
use Rattle.std.specs.Prelude.{◌≡◌, refl, List, [], ◌∷◌, take, drop, Some, None, codes}
use Rattle.tds_packet.specs.declared.kind.Direction.TheVariants.{ToServer}
use Rattle.tds_packet.specs.declared.status.Reset.TheVariants.{Full}
use Rattle.tds_request.specs.declared.request.Request.TheVariants.{Batch}
use Rattle.tds_session.specs.Answer.{script_answers}
use Rattle.tds_world.specs.declared.event.Event.{Event}
use Rattle.tds_world.specs.declared.event.Event.TheVariants as event
use Rattle.tds_world.specs.declared.outcome.CancelOutcome.TheVariants as cancel
use Rattle.tds_world.specs.declared.outcome.GiveBackOutcome.TheVariants as returned
use Rattle.tds_world.specs.declared.outcome.Opened.TheVariants.{New, Reused}
use Rattle.tds_world.specs.declared.outcome.Outcome.TheVariants as outcome
use Rattle.tds_world.specs.declared.outcome.SendOutcome.TheVariants as sent
use Rattle.tds_world.specs.declared.outcome.WorkOutcome.TheVariants as work
use Rattle.tds_world.specs.declared.report.ClientView.TheVariants.{Idle}
use Rattle.tds_world.specs.declared.report.Place.TheVariants.{Leased}
use Rattle.tds_world.specs.declared.report.Report.{Report}
use Rattle.tds_world.specs.declared.report.RequestStatus.TheVariants as status
use Rattle.tds_world.specs.Events.{world_after}
use Rattle.tds_world.specs.Observed.{observed, bytes_of}
use Rattle.tds_world.specs.World.{World, new_world}
use Rattle.tds_world.proofs.examples.Shown.{with_max, connections_after, Shows, asked, seen, session, value, done}

abbrev events : List Event
events =
    event.Lease ∷ event.GiveBack 1 ∷ event.Lease ∷ event.Ask 2 (Batch (codes "set y 1")) ∷
    event.Send 2 ∷ event.Cancel 2 ∷ event.ToServer 1 1000 ∷ event.ToClient 1 1000 ∷
    event.Ask 2 (Batch (codes "get y")) ∷ event.Send 2 ∷ event.ToServer 1 1000 ∷ event.Work 1 ∷
    event.Work 1 ∷ event.Work 1 ∷ event.ToClient 1 1000 ∷ []

abbrev report : Report
report = observed (with_max 1) script_answers events

pub shown : Shows report
    (outcome.Leased 1 1 New ∷ outcome.GivenBack returned.Free ∷ outcome.Leased 2 1 Reused ∷
    outcome.Asked 1 ∷ outcome.Sent sent.Last ∷ outcome.Cancel cancel.Asked ∷
    outcome.ToServer 52 ∷ outcome.ToClient 21 ∷ outcome.Asked 2 ∷ outcome.Sent sent.Last ∷
    outcome.ToServer 40 ∷ outcome.Work work.Step ∷ outcome.Work work.Step ∷
    outcome.Work work.Finished ∷ outcome.ToClient 61 ∷ [])
    (asked 2 1 status.Acknowledged None [] ∷
    asked 2 1 status.Finished (Some (session 0 1)) (value 0 ∷ done 1 0 ∷ done 0 0 ∷ []) ∷ [])
    (seen 1 Idle (Leased 2) 0 None (session 0 1) 0 0 ∷ [])
shown = (refl, refl, refl)

-- The mark stands when the cancel is acknowledged.
pub mark_stands : connections_after 8 report ≡ seen 1 Idle (Leased 2) 0 (Some Full) (session 0 1) 0 0 ∷ []
mark_stands = refl

abbrev world : World
world = world_after (with_max 1) script_answers events new_world

-- Both requests ask for it: their first packets have status 09.
pub first_asks : take 2 (bytes_of world 1 ToServer) ≡ 0x01 ∷ 0x09 ∷ []
first_asks = refl

pub second_asks : take 2 (drop 52 (bytes_of world 1 ToServer)) ≡ 0x01 ∷ 0x09 ∷ []
second_asks = refl
