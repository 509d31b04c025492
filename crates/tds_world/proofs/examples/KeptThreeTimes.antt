-- A transaction is kept and resumed three times, the first time by a lease that asks nothing. Each
-- lease's first request that runs finds the transaction, and no settings.
use Rattle.std.specs.Prelude.{◌≡◌, refl, List, [], ◌∷◌, Some, None, codes}
use Rattle.tds_request.specs.declared.request.Request.TheVariants.{Batch}
use Rattle.tds_session.specs.Answer.{script_answers}
use Rattle.tds_world.specs.declared.event.Event.{Event}
use Rattle.tds_world.specs.declared.event.Event.TheVariants as event
use Rattle.tds_world.specs.declared.outcome.Opened.TheVariants.{New, Resumed}
use Rattle.tds_world.specs.declared.outcome.Outcome.TheVariants as outcome
use Rattle.tds_world.specs.declared.outcome.SendOutcome.TheVariants as sent
use Rattle.tds_world.specs.declared.outcome.WorkOutcome.TheVariants as work
use Rattle.tds_world.specs.declared.report.ClientView.TheVariants.{Idle}
use Rattle.tds_world.specs.declared.report.Place.TheVariants.{Leased}
use Rattle.tds_world.specs.declared.report.Report.{Report}
use Rattle.tds_world.specs.declared.report.RequestStatus.TheVariants as status
use Rattle.tds_world.specs.Events.{world_after}
use Rattle.tds_world.specs.Observed.{observed}
use Rattle.tds_world.specs.World.{World, new_world, numbered, holding, holding_ended}
use Rattle.tds_world.proofs.examples.Shown.{with_max, Shows, asked, seen, session, value, done}

abbrev events : List Event
events =
    event.Lease ∷ event.Ask 1 (Batch (codes "set x 7;begin")) ∷ event.Send 1 ∷
    event.ToServer 1 56 ∷ event.Work 1 ∷ event.Work 1 ∷ event.Work 1 ∷ event.ToClient 1 77 ∷
    event.Keep 1 ∷ event.Resume 1 ∷ event.Keep 2 ∷ event.Resume 2 ∷
    event.Ask 3 (Batch (codes "set y 3")) ∷ event.Send 3 ∷ event.ToServer 1 44 ∷ event.Work 1 ∷
    event.Work 1 ∷ event.Work 1 ∷ event.ToClient 1 56 ∷ event.Keep 3 ∷ event.Resume 3 ∷
    event.Ask 4 (Batch (codes "get y")) ∷ event.Send 4 ∷ event.ToServer 1 40 ∷ event.Work 1 ∷
    event.Work 1 ∷ event.Work 1 ∷ event.ToClient 1 61 ∷ []

abbrev report : Report
report = observed (with_max 1) script_answers events

pub shown : Shows report
    (outcome.Leased 1 1 New ∷ outcome.Asked 1 ∷ outcome.Sent sent.Last ∷ outcome.ToServer 56 ∷
    outcome.Work work.Step ∷ outcome.Work work.Step ∷ outcome.Work work.Finished ∷
    outcome.ToClient 77 ∷ outcome.Kept 1 ∷ outcome.Leased 2 1 Resumed ∷ outcome.Kept 2 ∷
    outcome.Leased 3 1 Resumed ∷ outcome.Asked 2 ∷ outcome.Sent sent.Last ∷
    outcome.ToServer 44 ∷ outcome.Work work.Step ∷ outcome.Work work.Step ∷
    outcome.Work work.Finished ∷ outcome.ToClient 56 ∷ outcome.Kept 3 ∷
    outcome.Leased 4 1 Resumed ∷ outcome.Asked 3 ∷ outcome.Sent sent.Last ∷
    outcome.ToServer 40 ∷ outcome.Work work.Step ∷ outcome.Work work.Step ∷
    outcome.Work work.Finished ∷ outcome.ToClient 61 ∷ [])
    (asked 1 1 status.Finished (Some (session 0 1)) (done 1 0 ∷ done 1 0 ∷ done 0 0 ∷ []) ∷
    asked 3 1 status.Finished (Some (session 1 2)) (done 1 0 ∷ done 0 0 ∷ []) ∷
    asked 4 1 status.Finished (Some (session 1 2)) (value 0 ∷ done 1 0 ∷ done 0 0 ∷ []) ∷ [])
    (seen 1 Idle (Leased 4) 1 None (session 1 2) 0 0 ∷ [])
shown = (refl, refl, refl)

abbrev world : World
world = world_after (with_max 1) script_answers events new_world

-- The last lease came from the third ticket, which kept transaction 1.
pub last_lease : numbered world.leases 4 ≡ Some (holding 1 1 (Some 3))
last_lease = refl

pub third_ticket : numbered world.tickets 3 ≡ Some (holding_ended (holding 1 1 None))
third_ticket = refl
