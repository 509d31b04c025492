-- Events that do not apply, each with its refusal.
use Rattle.std.specs.Prelude.{refl, List, [], ◌∷◌, None}
use Rattle.tds_session.specs.Answer.{script_answers}
use Rattle.tds_world.specs.declared.event.Event.{Event}
use Rattle.tds_world.specs.declared.event.Event.TheVariants as event
use Rattle.tds_world.specs.declared.outcome.Opened.TheVariants.{New}
use Rattle.tds_world.specs.declared.outcome.Outcome.TheVariants as outcome
use Rattle.tds_world.specs.declared.outcome.Refusal.TheVariants as refusal
use Rattle.tds_world.specs.declared.report.ClientView.TheVariants.{Idle}
use Rattle.tds_world.specs.declared.report.Place.TheVariants.{Leased}
use Rattle.tds_world.specs.declared.report.Report.{Report}
use Rattle.tds_world.specs.Observed.{observed}
use Rattle.tds_world.proofs.examples.Shown.{with_max, Shows, seen, session}

abbrev events : List Event
events =
    event.Lease ∷ event.Lease ∷ event.Send 2 ∷ event.Send 1 ∷ event.Work 2 ∷ []

abbrev report : Report
report = observed (with_max 1) script_answers events

pub shown : Shows report
    (outcome.Leased 1 1 New ∷ outcome.Refused refusal.AllInUse ∷
    outcome.Refused refusal.UnknownLease ∷ outcome.Refused refusal.NotSending ∷
    outcome.Refused refusal.UnknownConnection ∷ [])
    ([])
    (seen 1 Idle (Leased 1) 0 None (session 0 1) 0 0 ∷ [])
shown = (refl, refl, refl)
