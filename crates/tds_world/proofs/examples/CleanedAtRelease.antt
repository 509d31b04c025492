-- A lease leaves a setting and an open transaction behind. The connection is cleaned before the next one.
use Rattle.std.specs.Prelude.{◌≡◌, refl, List, [], ◌∷◌, false, Some, None, codes}
use Rattle.tds_packet.specs.declared.status.Reset.TheVariants.{Full}
use Rattle.tds_request.specs.declared.request.Request.TheVariants.{Batch}
use Rattle.tds_session.specs.Answer.{script_answers}
use Rattle.tds_session.specs.Session.{IsFresh}
use Rattle.tds_world.specs.declared.event.Event.{Event}
use Rattle.tds_world.specs.declared.event.Event.TheVariants as event
use Rattle.tds_world.specs.declared.outcome.GiveBackOutcome.TheVariants as returned
use Rattle.tds_world.specs.declared.outcome.Opened.TheVariants.{New, Reused}
use Rattle.tds_world.specs.declared.outcome.Outcome.TheVariants as outcome
use Rattle.tds_world.specs.declared.outcome.Refusal.TheVariants as refusal
use Rattle.tds_world.specs.declared.outcome.SendOutcome.TheVariants as sent
use Rattle.tds_world.specs.declared.outcome.WorkOutcome.TheVariants as work
use Rattle.tds_world.specs.declared.report.ClientView.TheVariants.{Idle}
use Rattle.tds_world.specs.declared.report.Place.TheVariants.{Free, Leased}
use Rattle.tds_world.specs.declared.report.Report.{Report}
use Rattle.tds_world.specs.declared.report.RequestStatus.TheVariants as status
use Rattle.tds_world.specs.left_clean.LeftCleanShown.{ShowsLeftClean}
use Rattle.tds_world.specs.Observed.{observed}
use Rattle.tds_world.proofs.examples.Shown.{with_max, Shows, connections_after, asked, seen, session, info, done}

-- The second lease is refused while it is cleaned, and so are further cleanings.
abbrev events : List Event
events =
    event.Lease ∷ event.Clean 1 ∷ event.Ask 1 (Batch (codes "set x 7;begin")) ∷ event.Send 1 ∷
    event.ToServer 1 56 ∷ event.Work 1 ∷ event.Work 1 ∷ event.Work 1 ∷ event.ToClient 1 77 ∷
    event.GiveBack 1 ∷ event.Clean 1 ∷ event.Lease ∷ event.Clean 1 ∷ event.Cancel 2 ∷
    event.ToServer 1 48 ∷ event.Work 1 ∷ event.Work 1 ∷ event.Work 1 ∷ event.ToClient 1 83 ∷
    event.Lease ∷ []

abbrev report : Report
report = observed (with_max 1) script_answers events

pub shown : Shows report
    (outcome.Leased 1 1 New ∷ outcome.Refused refusal.NotFree ∷ outcome.Asked 1 ∷
    outcome.Sent sent.Last ∷ outcome.ToServer 56 ∷ outcome.Work work.Step ∷ outcome.Work work.Step ∷
    outcome.Work work.Finished ∷ outcome.ToClient 77 ∷ outcome.GivenBack returned.Free ∷
    outcome.Cleaning 2 2 ∷ outcome.Refused refusal.AllInUse ∷ outcome.Refused refusal.NotFree ∷
    outcome.Refused refusal.UnknownLease ∷ outcome.ToServer 48 ∷ outcome.Work work.Step ∷
    outcome.Work work.Step ∷ outcome.Work work.Finished ∷ outcome.ToClient 83 ∷
    outcome.Leased 3 1 Reused ∷ [])
    (asked 1 1 status.Finished (Some (session 0 1)) (done 1 0 ∷ done 1 0 ∷ done 0 0 ∷ []) ∷
    asked 2 1 status.Finished (Some (session 0 2)) (info 50000 (codes "clean") ∷ done 1 0 ∷ done 0 0 ∷ []) ∷ [])
    (seen 1 Idle (Leased 3) 0 (Some Full) (session 0 2) 0 0 ∷ [])
shown = (refl, refl, refl)

-- Once its answer has come it is free, and its server has neither.
pub free_again : connections_after 19 report ≡ seen 1 Idle Free 0 None (session 0 2) 0 0 ∷ []
free_again = refl

-- A cleaning that sends nothing is none: its client is idle at once, and the transaction is open still.
pub sends_something : ShowsLeftClean (event.Clean 1 ∷ []) (record {
  events = record {
    outcome = outcome.Cleaning 2 2;
    lost = false;
    snapshots = seen 1 Idle Free 1 None (session 1 2) 0 0 ∷ [];
  } ∷ [];
  requests = [];
}) → ⊥
sends_something h =
    let fresh : IsFresh (session 1 2) = h.0.0.0 refl refl in
    let none : (session 1 2).descriptor ≡ 0 = fresh.1 in absurd (cc)
