-- A commit ends the transaction; a rollback after it finds none.
use Rattle.std.specs.Prelude.{refl, List, [], ◌∷◌, Some, None, codes}
use Rattle.tds_request.specs.declared.request.Request.TheVariants.{Begin, Commit, Rollback}
use Rattle.tds_session.specs.Answer.{script_answers}
use Rattle.tds_world.specs.declared.event.Event.{Event}
use Rattle.tds_world.specs.declared.event.Event.TheVariants as event
use Rattle.tds_world.specs.declared.outcome.Opened.TheVariants.{New}
use Rattle.tds_world.specs.declared.outcome.Outcome.TheVariants as outcome
use Rattle.tds_world.specs.declared.outcome.SendOutcome.TheVariants as sent
use Rattle.tds_world.specs.declared.outcome.WorkOutcome.TheVariants as work
use Rattle.tds_world.specs.declared.report.ClientView.TheVariants.{Idle}
use Rattle.tds_world.specs.declared.report.Place.TheVariants.{Leased}
use Rattle.tds_world.specs.declared.report.Report.{Report}
use Rattle.tds_world.specs.declared.report.RequestStatus.TheVariants as status
use Rattle.tds_world.specs.Observed.{observed}
use Rattle.tds_world.proofs.examples.Shown.{with_max, Shows, asked, seen, session, error, done}

abbrev events : List Event
events =
    event.Lease ∷ event.Ask 1 (Begin 0) ∷ event.Send 1 ∷ event.ToServer 1 34 ∷ event.Work 1 ∷
    event.ToClient 1 35 ∷ event.Ask 1 (Commit None) ∷ event.Send 1 ∷ event.ToServer 1 34 ∷
    event.Work 1 ∷ event.ToClient 1 35 ∷ event.Ask 1 (Rollback None) ∷ event.Send 1 ∷
    event.ToServer 1 34 ∷ event.Work 1 ∷ event.ToClient 1 66 ∷ []

abbrev report : Report
report = observed (with_max 1) script_answers events

pub shown : Shows report
    (outcome.Leased 1 1 New ∷ outcome.Asked 1 ∷ outcome.Sent sent.Last ∷ outcome.ToServer 34 ∷
    outcome.Work work.Finished ∷ outcome.ToClient 35 ∷ outcome.Asked 2 ∷ outcome.Sent sent.Last ∷
    outcome.ToServer 34 ∷ outcome.Work work.Finished ∷ outcome.ToClient 35 ∷ outcome.Asked 3 ∷
    outcome.Sent sent.Last ∷ outcome.ToServer 34 ∷ outcome.Work work.Finished ∷
    outcome.ToClient 66 ∷ [])
    (asked 1 1 status.Finished (Some (session 0 1)) (done 0 0 ∷ []) ∷
    asked 1 1 status.Finished (Some (session 1 2)) (done 0 0 ∷ []) ∷
    asked 1 1 status.Finished (Some (session 0 2)) (error 50003 (codes "no transaction") ∷ done 2 0 ∷ []) ∷ [])
    (seen 1 Idle (Leased 1) 0 None (session 0 2) 0 0 ∷ [])
shown = (refl, refl, refl)
