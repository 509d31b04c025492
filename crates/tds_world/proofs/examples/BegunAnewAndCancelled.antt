-- A commit that begins anew is cancelled: after its step, before it, under each reset, and cut in the middle of its answer.
use Rattle.std.specs.Prelude.{◌≡◌, refl, List, [], ◌∷◌, ◌++◌, length, Some, None, codes}
use Rattle.tds_packet.specs.declared.status.Reset.TheVariants.{Full, KeepTransaction}
use Rattle.tds_request.specs.declared.request.Request.TheVariants.{Batch, Begin, Commit}
use Rattle.tds_session.specs.Answer.{script_answers}
use Rattle.tds_world.specs.declared.event.Event.{Event}
use Rattle.tds_world.specs.declared.event.Event.TheVariants as event
use Rattle.tds_world.specs.declared.report.ClientView.TheVariants.{Idle}
use Rattle.tds_world.specs.declared.report.Place.TheVariants.{Leased}
use Rattle.tds_world.specs.declared.report.Report.{Report}
use Rattle.tds_world.specs.declared.report.RequestReport.{RequestReport}
use Rattle.tds_world.specs.declared.report.RequestStatus.TheVariants as status
use Rattle.tds_world.specs.declared.report.Snapshot.{Snapshot}
use Rattle.tds_world.specs.Observed.{observed}
use Rattle.tds_world.proofs.examples.Shown.{with_max, connections_after, asked, seen, session, error, value, done}

-- The records, and the connections at the end.
abbrev Ends : List Event → List RequestReport → List Snapshot → Type 0
Ends events requests connections =
    let r : Report = observed (with_max 1) script_answers events in
    (r.requests ≡ requests) × (connections_after (length r.events) r ≡ connections)

-- In transaction 1, the commit is asked and has come to the server.
abbrev asked_anew : List Event
asked_anew =
    event.Lease ∷ event.Ask 1 (Begin 0) ∷ event.Send 1 ∷ event.ToServer 1 34 ∷ event.Work 1 ∷
    event.ToClient 1 35 ∷ event.Ask 1 (Commit (Some 2)) ∷ event.Send 1 ∷ event.ToServer 1 36 ∷ []

abbrev begun : RequestReport
begun = asked 1 1 status.Finished (Some (session 0 1)) (done 0 0 ∷ [])

-- After its step: nobody is told, but both ends hold transaction 2.
pub after_its_step : Ends
    (asked_anew ++ event.Work 1 ∷ event.Cancel 1 ∷ event.ToServer 1 8 ∷ event.ToClient 1 70 ∷ [])
    (begun ∷ asked 1 1 status.Acknowledged (Some (session 1 2)) [] ∷ [])
    (seen 1 Idle (Leased 1) 2 None (session 2 3) 0 0 ∷ [])
after_its_step = (refl, refl)

-- Before it: nothing ends and nothing begins.
pub before_its_step : Ends
    (asked_anew ++ event.Cancel 1 ∷ event.ToServer 1 8 ∷ event.Work 1 ∷ event.ToClient 1 21 ∷ [])
    (begun ∷ asked 1 1 status.Acknowledged None [] ∷ [])
    (seen 1 Idle (Leased 1) 1 None (session 1 2) 0 0 ∷ [])
before_its_step = (refl, refl)

-- The connection is cut in the middle of its answer: the server has begun transaction 2.
pub cut_in_the_middle : Ends
    (asked_anew ++ event.Work 1 ∷ event.ToClient 1 30 ∷ event.Cut 1 ∷ [])
    (begun ∷ asked 1 1 status.Lost (Some (session 1 2)) [] ∷ [])
    []
cut_in_the_middle = (refl, refl)

-- A later lease of the connection asks for the commit: it asks for a full reset, which ends
-- transaction 1 first.
abbrev under_full_reset : List Event
under_full_reset =
    event.Lease ∷ event.Ask 1 (Begin 0) ∷ event.Send 1 ∷ event.ToServer 1 34 ∷ event.Work 1 ∷
    event.ToClient 1 35 ∷ event.GiveBack 1 ∷ event.Lease ∷ event.Ask 2 (Commit (Some 2)) ∷
    event.Send 2 ∷ event.ToServer 1 36 ∷ []

pub reset_fully : Ends
    (under_full_reset ++ event.Work 1 ∷ event.Work 1 ∷ event.ToClient 1 80 ∷ [])
    (begun ∷ asked 2 1 status.Finished (Some (session 0 2)) (error 50003 (codes "no transaction") ∷ done 2 0 ∷ []) ∷ [])
    (seen 1 Idle (Leased 2) 0 None (session 0 2) 0 0 ∷ [])
reset_fully = (refl, refl)

pub cancelled_before_a_full_reset : Ends
    (under_full_reset ++ event.Cancel 2 ∷ event.ToServer 1 8 ∷ event.ToClient 1 21 ∷ [])
    (begun ∷ asked 2 1 status.Acknowledged None [] ∷ [])
    (seen 1 Idle (Leased 2) 1 (Some Full) (session 1 2) 0 0 ∷ [])
cancelled_before_a_full_reset = (refl, refl)

pub cancelled_after_a_full_reset : Ends
    (under_full_reset ++ event.Work 1 ∷ event.Cancel 2 ∷ event.ToServer 1 8 ∷ event.ToClient 1 35 ∷ [])
    (begun ∷ asked 2 1 status.Acknowledged (Some (session 0 2)) [] ∷ [])
    (seen 1 Idle (Leased 2) 0 None (session 0 2) 0 0 ∷ [])
cancelled_after_a_full_reset = (refl, refl)

-- A lease that resumes transaction 1 asks for the commit: the reset keeps the transaction.
abbrev under_keeping_reset : List Event
under_keeping_reset =
    event.Lease ∷ event.Ask 1 (Begin 0) ∷ event.Send 1 ∷ event.ToServer 1 34 ∷ event.Work 1 ∷
    event.ToClient 1 35 ∷ event.Keep 1 ∷ event.Resume 1 ∷ event.Ask 2 (Commit (Some 2)) ∷
    event.Send 2 ∷ event.ToServer 1 36 ∷ []

pub cancelled_before_a_keeping_reset : Ends
    (under_keeping_reset ++ event.Cancel 2 ∷ event.ToServer 1 8 ∷ event.ToClient 1 21 ∷ [])
    (begun ∷ asked 2 1 status.Acknowledged None [] ∷ [])
    (seen 1 Idle (Leased 2) 1 (Some KeepTransaction) (session 1 2) 0 0 ∷ [])
cancelled_before_a_keeping_reset = (refl, refl)

pub cancelled_between_a_keeping_reset_and_its_step : Ends
    (under_keeping_reset ++ event.Work 1 ∷ event.Cancel 2 ∷ event.ToServer 1 8 ∷ event.ToClient 1 35 ∷ [])
    (begun ∷ asked 2 1 status.Acknowledged (Some (session 1 2)) [] ∷ [])
    (seen 1 Idle (Leased 2) 1 None (session 1 2) 0 0 ∷ [])
cancelled_between_a_keeping_reset_and_its_step = (refl, refl)

pub cancelled_after_a_keeping_reset : Ends
    (under_keeping_reset ++ event.Work 1 ∷ event.Work 1 ∷ event.Cancel 2 ∷ event.ToServer 1 8 ∷ event.ToClient 1 84 ∷ [])
    (begun ∷ asked 2 1 status.Acknowledged (Some (session 1 2)) [] ∷ [])
    (seen 1 Idle (Leased 2) 2 None (session 2 3) 0 0 ∷ [])
cancelled_after_a_keeping_reset = (refl, refl)

-- A ticket keeps the transaction that was begun anew, and the next lease finds it.
pub kept_afterwards : Ends
    (asked_anew ++ event.Work 1 ∷ event.Cancel 1 ∷ event.ToServer 1 8 ∷ event.ToClient 1 70 ∷
    event.Keep 1 ∷ event.Resume 1 ∷ event.Ask 2 (Batch (codes "get x")) ∷ event.Send 2 ∷
    event.ToServer 1 40 ∷ event.Work 1 ∷ event.Work 1 ∷ event.Work 1 ∷ event.ToClient 1 61 ∷ [])
    (begun ∷ asked 1 1 status.Acknowledged (Some (session 1 2)) [] ∷
    asked 2 1 status.Finished (Some (session 2 3)) (value 0 ∷ done 1 0 ∷ done 0 0 ∷ []) ∷ [])
    (seen 1 Idle (Leased 2) 2 None (session 2 3) 0 0 ∷ [])
kept_afterwards = (refl, refl)
