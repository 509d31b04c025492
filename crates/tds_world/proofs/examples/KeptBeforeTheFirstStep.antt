-- A kept transaction, to a server that rolls back at an attention. A request that is cancelled before a
-- step of it was done leaves the transaction to the next one. One whose reset was done does not.
use Rattle.std.specs.Prelude.{refl, List, [], ◌∷◌, ◌++◌, Some, None, codes}
use Rattle.tds_request.specs.declared.request.Request.TheVariants.{Batch}
use Rattle.tds_session.specs.Answer.{script_answers}
use Rattle.tds_world.specs.declared.event.Event.{Event}
use Rattle.tds_world.specs.declared.event.Event.TheVariants as event
use Rattle.tds_world.specs.declared.outcome.CancelOutcome.TheVariants as cancel
use Rattle.tds_world.specs.declared.outcome.Opened.TheVariants.{New, Resumed}
use Rattle.tds_world.specs.declared.outcome.Outcome.{Outcome}
use Rattle.tds_world.specs.declared.outcome.Outcome.TheVariants as outcome
use Rattle.tds_world.specs.declared.outcome.SendOutcome.TheVariants as sent
use Rattle.tds_world.specs.declared.outcome.WorkOutcome.TheVariants as work
use Rattle.tds_world.specs.declared.report.ClientView.TheVariants.{Idle}
use Rattle.tds_world.specs.declared.report.Place.TheVariants.{Leased}
use Rattle.tds_world.specs.declared.report.RequestReport.{RequestReport}
use Rattle.tds_world.specs.declared.report.RequestStatus.TheVariants as status
use Rattle.tds_world.specs.Observed.{observed}
use Rattle.tds_world.proofs.examples.Shown.{with_max, rolling_back, Shows, asked, seen, session, value, done}

-- Lease 2 has the transaction that lease 1 began.
abbrev resumed : List Event
resumed =
    event.Lease ∷ event.Ask 1 (Batch (codes "set x 7;begin")) ∷ event.Send 1 ∷
    event.ToServer 1 56 ∷ event.Work 1 ∷ event.Work 1 ∷ event.Work 1 ∷ event.ToClient 1 77 ∷
    event.Keep 1 ∷ event.Resume 1 ∷ []

abbrev resumes : List Outcome
resumes =
    outcome.Leased 1 1 New ∷ outcome.Asked 1 ∷ outcome.Sent sent.Last ∷ outcome.ToServer 56 ∷
    outcome.Work work.Step ∷ outcome.Work work.Step ∷ outcome.Work work.Finished ∷
    outcome.ToClient 77 ∷ outcome.Kept 1 ∷ outcome.Leased 2 1 Resumed ∷ []

abbrev first : RequestReport
first = asked 1 1 status.Finished (Some (session 0 1)) (done 1 0 ∷ done 1 0 ∷ done 0 0 ∷ [])

-- ---- Before its first step

abbrev before : List Event
before =
    resumed ++
    event.Ask 2 (Batch (codes "get x")) ∷ event.Send 2 ∷ event.ToServer 1 40 ∷ event.Cancel 2 ∷
    event.ToServer 1 8 ∷ event.ToClient 1 21 ∷ event.Ask 2 (Batch (codes "get x;commit")) ∷
    event.Send 2 ∷ event.ToServer 1 54 ∷ event.Work 1 ∷ event.Work 1 ∷ event.Work 1 ∷ event.Work 1 ∷
    event.ToClient 1 96 ∷ []

pub still_kept : Shows (observed (rolling_back 1) script_answers before)
    (resumes ++ outcome.Asked 2 ∷ outcome.Sent sent.Last ∷ outcome.ToServer 40 ∷
    outcome.Cancel cancel.Asked ∷ outcome.ToServer 8 ∷ outcome.ToClient 21 ∷ outcome.Asked 3 ∷
    outcome.Sent sent.Last ∷ outcome.ToServer 54 ∷ outcome.Work work.Step ∷ outcome.Work work.Step ∷
    outcome.Work work.Step ∷ outcome.Work work.Finished ∷ outcome.ToClient 96 ∷ [])
    (first ∷ asked 2 1 status.Acknowledged None [] ∷
    asked 2 1 status.Finished (Some (session 1 2)) (value 0 ∷ done 1 0 ∷ done 1 0 ∷ done 0 0 ∷ []) ∷ [])
    (seen 1 Idle (Leased 2) 0 None (session 0 2) 0 0 ∷ [])
still_kept = (refl, refl, refl)

-- ---- Behind its reset

abbrev behind : List Event
behind =
    resumed ++
    event.Ask 2 (Batch (codes "get x")) ∷ event.Send 2 ∷ event.ToServer 1 40 ∷ event.Work 1 ∷
    event.Cancel 2 ∷ event.ToServer 1 8 ∷ event.ToClient 1 49 ∷ []

pub rolled_back : Shows (observed (rolling_back 1) script_answers behind)
    (resumes ++ outcome.Asked 2 ∷ outcome.Sent sent.Last ∷ outcome.ToServer 40 ∷
    outcome.Work work.Step ∷ outcome.Cancel cancel.Asked ∷ outcome.ToServer 8 ∷ outcome.ToClient 49 ∷ [])
    (first ∷ asked 2 1 status.Acknowledged (Some (session 1 2)) [] ∷ [])
    (seen 1 Idle (Leased 2) 0 None (session 0 2) 0 0 ∷ [])
rolled_back = (refl, refl, refl)

-- A server that keeps transactions keeps this one.
pub kept : Shows (observed (with_max 1) script_answers behind)
    (resumes ++ outcome.Asked 2 ∷ outcome.Sent sent.Last ∷ outcome.ToServer 40 ∷
    outcome.Work work.Step ∷ outcome.Cancel cancel.Asked ∷ outcome.ToServer 8 ∷ outcome.ToClient 35 ∷ [])
    (first ∷ asked 2 1 status.Acknowledged (Some (session 1 2)) [] ∷ [])
    (seen 1 Idle (Leased 2) 1 None (session 1 2) 0 0 ∷ [])
kept = (refl, refl, refl)
