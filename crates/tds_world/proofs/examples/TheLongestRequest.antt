-- The longest request takes eight packets. Cancelled then, it has 4,094 bytes underway, the most there can be.
use Rattle.std.specs.Prelude.{refl, List, [], ◌∷◌, replicate, None}
use Rattle.tds_request.specs.declared.request.Request.TheVariants.{Batch}
use Rattle.tds_session.specs.Answer.{script_answers}
use Rattle.tds_world.specs.declared.event.Event.{Event}
use Rattle.tds_world.specs.declared.event.Event.TheVariants as event
use Rattle.tds_world.specs.declared.outcome.CancelOutcome.TheVariants as cancel
use Rattle.tds_world.specs.declared.outcome.Opened.TheVariants.{New}
use Rattle.tds_world.specs.declared.outcome.Outcome.TheVariants as outcome
use Rattle.tds_world.specs.declared.outcome.SendOutcome.TheVariants as sent
use Rattle.tds_world.specs.declared.report.ClientView.TheVariants.{Cancelling}
use Rattle.tds_world.specs.declared.report.Place.TheVariants.{Leased}
use Rattle.tds_world.specs.declared.report.Report.{Report}
use Rattle.tds_world.specs.declared.report.RequestStatus.TheVariants as status
use Rattle.tds_world.specs.Observed.{observed}
use Rattle.tds_world.proofs.examples.Shown.{with_max, Shows, asked, seen, session}

abbrev events : List Event
events =
    event.Lease ∷ event.Ask 1 (Batch (replicate 2000 97)) ∷ event.Send 1 ∷ event.Send 1 ∷
    event.Send 1 ∷ event.Send 1 ∷ event.Send 1 ∷ event.Send 1 ∷ event.Send 1 ∷ event.Send 1 ∷
    event.Cancel 1 ∷ []

abbrev report : Report
report = observed (with_max 1) script_answers events

pub shown : Shows report
    (outcome.Leased 1 1 New ∷ outcome.Asked 1 ∷ outcome.Sent sent.More ∷ outcome.Sent sent.More ∷
    outcome.Sent sent.More ∷ outcome.Sent sent.More ∷ outcome.Sent sent.More ∷
    outcome.Sent sent.More ∷ outcome.Sent sent.More ∷ outcome.Sent sent.Last ∷
    outcome.Cancel cancel.Asked ∷ [])
    (asked 1 1 status.Cancelling None [] ∷ [])
    (seen 1 Cancelling (Leased 1) 0 None (session 0 1) 4094 0 ∷ [])
shown = (refl, refl, refl)
