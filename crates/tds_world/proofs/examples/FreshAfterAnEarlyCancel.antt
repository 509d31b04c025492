-- A lease leaves a setting and a transaction behind. The next lease cancels its first request before
-- the reset is done, so that one doesn't run. Its second request is the first that runs, and finds
-- neither.
use Rattle.std.specs.Prelude.{◌≡◌, refl, pos, List, [], ◌∷◌, ◌++◌, replicate, Some, None, codes}
use Rattle.tds_packet.specs.declared.status.Reset.TheVariants.{Full}
use Rattle.tds_request.specs.declared.request.Request.TheVariants.{Batch}
use Rattle.tds_session.specs.Answer.{script_answers}
use Rattle.tds_world.specs.declared.event.Event.{Event}
use Rattle.tds_world.specs.declared.event.Event.TheVariants as event
use Rattle.tds_world.specs.declared.outcome.CancelOutcome.TheVariants as cancel
use Rattle.tds_world.specs.declared.outcome.GiveBackOutcome.TheVariants as returned
use Rattle.tds_world.specs.declared.outcome.Opened.TheVariants.{New, Reused}
use Rattle.tds_world.specs.declared.outcome.Outcome.TheVariants as outcome
use Rattle.tds_world.specs.declared.outcome.SendOutcome.TheVariants as sent
use Rattle.tds_world.specs.declared.outcome.WorkOutcome.TheVariants as work
use Rattle.tds_world.specs.declared.report.ClientView.TheVariants.{Idle}
use Rattle.tds_world.specs.declared.report.Place.TheVariants.{Leased}
use Rattle.tds_world.specs.declared.report.Report.{Report}
use Rattle.tds_world.specs.declared.report.RequestStatus.TheVariants as status
use Rattle.tds_world.specs.Observed.{observed}
use Rattle.tds_world.proofs.examples.Shown.{with_max, connections_after, Shows, asked, seen, session, value, done}

abbrev events : List Event
events =
    event.Lease ∷ event.Ask 1 (Batch (codes "set x 7;begin")) ∷ event.Send 1 ∷
    event.ToServer 1 56 ∷ event.Work 1 ∷ event.Work 1 ∷ event.Work 1 ∷ event.ToClient 1 77 ∷
    event.GiveBack 1 ∷ event.Lease ∷ event.Ask 2 (Batch (codes "get x")) ∷ event.Send 2 ∷
    event.Cancel 2 ∷ event.ToServer 1 48 ∷ event.ToClient 1 21 ∷
    event.Ask 2 (Batch (codes "get x")) ∷ event.Send 2 ∷ event.ToServer 1 40 ∷ event.Work 1 ∷
    event.Work 1 ∷ event.Work 1 ∷ event.ToClient 1 61 ∷ []

abbrev report : Report
report = observed (with_max 1) script_answers events

pub shown : Shows report
    (outcome.Leased 1 1 New ∷ outcome.Asked 1 ∷ outcome.Sent sent.Last ∷ outcome.ToServer 56 ∷
    outcome.Work work.Step ∷ outcome.Work work.Step ∷ outcome.Work work.Finished ∷
    outcome.ToClient 77 ∷ outcome.GivenBack returned.Free ∷ outcome.Leased 2 1 Reused ∷
    outcome.Asked 2 ∷ outcome.Sent sent.Last ∷ outcome.Cancel cancel.Asked ∷
    outcome.ToServer 48 ∷ outcome.ToClient 21 ∷ outcome.Asked 3 ∷ outcome.Sent sent.Last ∷
    outcome.ToServer 40 ∷ outcome.Work work.Step ∷ outcome.Work work.Step ∷
    outcome.Work work.Finished ∷ outcome.ToClient 61 ∷ [])
    (asked 1 1 status.Finished (Some (session 0 1)) (done 1 0 ∷ done 1 0 ∷ done 0 0 ∷ []) ∷
    asked 2 1 status.Acknowledged None [] ∷
    asked 2 1 status.Finished (Some (session 0 2)) (value 0 ∷ done 1 0 ∷ done 0 0 ∷ []) ∷ [])
    (seen 1 Idle (Leased 2) 0 None (session 0 2) 0 0 ∷ [])
shown = (refl, refl, refl)

-- When the cancel is acknowledged, the server has both still, and the mark stands.
pub still_there : connections_after 15 report ≡
    seen 1 Idle (Leased 2) 1 (Some Full)
    (record (session 1 2) { settings = replicate 23 None ++ Some (pos 7) ∷ None ∷ None ∷ [] }) 0 0 ∷ []
still_there = refl
