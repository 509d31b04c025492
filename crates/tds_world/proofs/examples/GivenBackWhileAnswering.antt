-- A lease is given back while its answer is due. The connection drains, and is lent again when it is idle.
use Rattle.std.specs.Prelude.{refl, List, [], ◌∷◌, Some, None, codes}
use Rattle.tds_packet.specs.declared.status.Reset.TheVariants.{Full}
use Rattle.tds_request.specs.declared.request.Request.TheVariants.{Batch}
use Rattle.tds_session.specs.Answer.{script_answers}
use Rattle.tds_world.specs.declared.event.Event.{Event}
use Rattle.tds_world.specs.declared.event.Event.TheVariants as event
use Rattle.tds_world.specs.declared.outcome.GiveBackOutcome.TheVariants as returned
use Rattle.tds_world.specs.declared.outcome.Opened.TheVariants.{New, Reused}
use Rattle.tds_world.specs.declared.outcome.Outcome.TheVariants as outcome
use Rattle.tds_world.specs.declared.outcome.Refusal.TheVariants as refusal
use Rattle.tds_world.specs.declared.outcome.SendOutcome.TheVariants as sent
use Rattle.tds_world.specs.declared.report.ClientView.TheVariants.{Idle}
use Rattle.tds_world.specs.declared.report.Place.TheVariants.{Leased}
use Rattle.tds_world.specs.declared.report.Report.{Report}
use Rattle.tds_world.specs.declared.report.RequestStatus.TheVariants as status
use Rattle.tds_world.specs.Observed.{observed}
use Rattle.tds_world.proofs.examples.Shown.{with_max, Shows, asked, seen, session}

abbrev events : List Event
events =
    event.Lease ∷ event.Ask 1 (Batch (codes "say a;say b")) ∷ event.Send 1 ∷
    event.ToServer 1 52 ∷ event.GiveBack 1 ∷ event.Lease ∷ event.ToServer 1 8 ∷
    event.ToClient 1 21 ∷ event.Lease ∷ []

abbrev report : Report
report = observed (with_max 1) script_answers events

pub shown : Shows report
    (outcome.Leased 1 1 New ∷ outcome.Asked 1 ∷ outcome.Sent sent.Last ∷ outcome.ToServer 52 ∷
    outcome.GivenBack returned.Draining ∷ outcome.Refused refusal.AllInUse ∷ outcome.ToServer 8 ∷
    outcome.ToClient 21 ∷ outcome.Leased 2 1 Reused ∷ [])
    (asked 1 1 status.Acknowledged None [] ∷ [])
    (seen 1 Idle (Leased 2) 0 (Some Full) (session 0 1) 0 0 ∷ [])
shown = (refl, refl, refl)
