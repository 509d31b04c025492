-- Of the free connections, the one with the lowest number is lent first.
use Rattle.std.specs.Prelude.{refl, List, [], ◌∷◌, Some, None}
use Rattle.tds_packet.specs.declared.status.Reset.TheVariants.{Full}
use Rattle.tds_session.specs.Answer.{script_answers}
use Rattle.tds_world.specs.declared.event.Event.{Event}
use Rattle.tds_world.specs.declared.event.Event.TheVariants as event
use Rattle.tds_world.specs.declared.outcome.GiveBackOutcome.TheVariants as returned
use Rattle.tds_world.specs.declared.outcome.Opened.TheVariants.{New, Reused}
use Rattle.tds_world.specs.declared.outcome.Outcome.TheVariants as outcome
use Rattle.tds_world.specs.declared.report.ClientView.TheVariants.{Idle}
use Rattle.tds_world.specs.declared.report.Place.TheVariants.{Leased, Free}
use Rattle.tds_world.specs.declared.report.Report.{Report}
use Rattle.tds_world.specs.Observed.{observed}
use Rattle.tds_world.proofs.examples.Shown.{with_max, Shows, seen, session}

abbrev events : List Event
events =
    event.Lease ∷ event.Lease ∷ event.GiveBack 2 ∷ event.GiveBack 1 ∷ event.Lease ∷ []

abbrev report : Report
report = observed (with_max 2) script_answers events

pub shown : Shows report
    (outcome.Leased 1 1 New ∷ outcome.Leased 2 2 New ∷ outcome.GivenBack returned.Free ∷
    outcome.GivenBack returned.Free ∷ outcome.Leased 3 1 Reused ∷ [])
    ([])
    (seen 1 Idle (Leased 3) 0 (Some Full) (session 0 1) 0 0 ∷
    seen 2 Idle Free 0 None (session 0 1) 0 0 ∷ [])
shown = (refl, refl, refl)
