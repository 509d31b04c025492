-- When the server restarts, a ticket is left whose connection is cut.
use Rattle.std.specs.Prelude.{refl, List, [], ◌∷◌, Some, None, codes}
use Rattle.tds_request.specs.declared.request.Request.TheVariants.{Batch}
use Rattle.tds_session.specs.Answer.{script_answers}
use Rattle.tds_world.specs.declared.event.Event.{Event}
use Rattle.tds_world.specs.declared.event.Event.TheVariants as event
use Rattle.tds_world.specs.declared.outcome.AbandonOutcome.TheVariants as abandoned
use Rattle.tds_world.specs.declared.outcome.Opened.TheVariants.{New}
use Rattle.tds_world.specs.declared.outcome.Outcome.TheVariants as outcome
use Rattle.tds_world.specs.declared.outcome.Refusal.TheVariants as refusal
use Rattle.tds_world.specs.declared.outcome.SendOutcome.TheVariants as sent
use Rattle.tds_world.specs.declared.outcome.WorkOutcome.TheVariants as work
use Rattle.tds_world.specs.declared.report.ClientView.TheVariants.{Idle}
use Rattle.tds_world.specs.declared.report.Place.TheVariants.{Leased}
use Rattle.tds_world.specs.declared.report.Report.{Report}
use Rattle.tds_world.specs.declared.report.RequestStatus.TheVariants as status
use Rattle.tds_world.specs.Observed.{observed}
use Rattle.tds_world.proofs.examples.Shown.{with_max, Shows, asked, seen, session, done}

abbrev events : List Event
events =
    event.Lease ∷ event.Ask 1 (Batch (codes "begin")) ∷ event.Send 1 ∷ event.ToServer 1 40 ∷
    event.Work 1 ∷ event.Work 1 ∷ event.ToClient 1 56 ∷ event.Keep 1 ∷ event.RestartServer ∷
    event.Resume 1 ∷ event.Lease ∷ event.Abandon 1 ∷ []

abbrev report : Report
report = observed (with_max 1) script_answers events

pub shown : Shows report
    (outcome.Leased 1 1 New ∷ outcome.Asked 1 ∷ outcome.Sent sent.Last ∷ outcome.ToServer 40 ∷
    outcome.Work work.Step ∷ outcome.Work work.Finished ∷ outcome.ToClient 56 ∷ outcome.Kept 1 ∷
    outcome.RestartedServer ∷ outcome.Refused refusal.ConnectionCut ∷ outcome.Leased 2 2 New ∷
    outcome.Abandoned abandoned.Closed ∷ [])
    (asked 1 1 status.Finished (Some (session 0 1)) (done 1 0 ∷ done 0 0 ∷ []) ∷ [])
    (seen 2 Idle (Leased 2) 0 None (session 0 1) 0 0 ∷ [])
shown = (refl, refl, refl)
