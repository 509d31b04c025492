-- A commit that begins anew takes the last descriptor but one. Behind it no transaction begins: the next one is refused, and its transaction stays.
use Rattle.std.specs.Prelude.{◌≡◌, ℕ, refl, List, [], ◌∷◌, ◌++◌, map, Some, None, codes}
use Rattle.tds_request.specs.declared.request.Request.TheVariants.{Begin, Commit, Rollback}
use Rattle.tds_session.specs.Answer.{script_answers}
use Rattle.tds_session.specs.Session.{last_descriptor}
use Rattle.tds_world.specs.declared.event.Event.{Event}
use Rattle.tds_world.specs.declared.event.Event.TheVariants as event
use Rattle.tds_world.specs.declared.report.ClientView.TheVariants.{Idle}
use Rattle.tds_world.specs.declared.report.Place.TheVariants.{Leased}
use Rattle.tds_world.specs.declared.report.RequestReport.{RequestReport}
use Rattle.tds_world.specs.declared.report.RequestStatus.TheVariants as status
use Rattle.tds_world.specs.declared.report.Snapshot.{Snapshot}
use Rattle.tds_world.specs.Connection.{Connection}
use Rattle.tds_world.specs.Events.{world_after}
use Rattle.tds_world.specs.Observed.{snapshots, request_reports}
use Rattle.tds_world.specs.World.{World, new_world}
use Rattle.tds_world.proofs.examples.Shown.{with_max, asked, seen, session, error, done}

-- the last descriptor that is begun
abbrev last_begun : ℕ
last_begun = 18446744073709551614

abbrev in_one : World
in_one = world_after (with_max 1) script_answers (event.Lease ∷ event.Ask 1 (Begin 0) ∷ event.Send 1 ∷ event.ToServer 1 34 ∷ event.Work 1 ∷ event.ToClient 1 35 ∷ []) new_world

-- A server in transaction 1 that has this one descriptor left.
abbrev late : World
late = record in_one { connections = map (λ (c : Connection). record c { session = session 1 last_begun }) in_one.connections }

-- The records and the connections after these events there.
abbrev Ends : List Event → List RequestReport → List Snapshot → Type 0
Ends events requests connections =
    let w : World = world_after (with_max 1) script_answers events late in
    (request_reports w 1 w.asked_on ≡ requests) × (snapshots w ≡ connections)

abbrev begun : RequestReport
begun = asked 1 1 status.Finished (Some (session 0 1)) (done 0 0 ∷ [])

abbrev commit : List Event
commit = event.Ask 1 (Commit (Some 2)) ∷ event.Send 1 ∷ event.ToServer 1 36 ∷ event.Work 1 ∷ []

pub last_but_one : Ends
    (commit ++ event.ToClient 1 49 ∷ [])
    (begun ∷ asked 1 1 status.Finished (Some (session 1 last_begun)) (done 0 0 ∷ []) ∷ [])
    (seen 1 Idle (Leased 1) last_begun None (session last_begun last_descriptor) 0 0 ∷ [])
last_but_one = (refl, refl)

pub last_but_one_cancelled : Ends
    (commit ++ event.Cancel 1 ∷ event.ToServer 1 8 ∷ event.ToClient 1 70 ∷ [])
    (begun ∷ asked 1 1 status.Acknowledged (Some (session 1 last_begun)) [] ∷ [])
    (seen 1 Idle (Leased 1) last_begun None (session last_begun last_descriptor) 0 0 ∷ [])
last_but_one_cancelled = (refl, refl)

-- Behind it, a rollback that would begin anew.
abbrev rollback : List Event
rollback = commit ++ event.ToClient 1 49 ∷ event.Ask 1 (Rollback (Some 0)) ∷ event.Send 1 ∷ event.ToServer 1 36 ∷ []

abbrev committed : RequestReport
committed = asked 1 1 status.Finished (Some (session 1 last_begun)) (done 0 0 ∷ [])

pub used_up : Ends
    (rollback ++ event.Work 1 ∷ event.ToClient 1 64 ∷ [])
    (begun ∷ committed ∷
    asked 1 1 status.Finished (Some (session last_begun last_descriptor)) (error 50004 (codes "no descriptor") ∷ done 2 0 ∷ []) ∷ [])
    (seen 1 Idle (Leased 1) last_begun None (session last_begun last_descriptor) 0 0 ∷ [])
used_up = (refl, refl)

pub used_up_cancelled : Ends
    (rollback ++ event.Work 1 ∷ event.Cancel 1 ∷ event.ToServer 1 8 ∷ event.ToClient 1 85 ∷ [])
    (begun ∷ committed ∷ asked 1 1 status.Acknowledged (Some (session last_begun last_descriptor)) [] ∷ [])
    (seen 1 Idle (Leased 1) last_begun None (session last_begun last_descriptor) 0 0 ∷ [])
used_up_cancelled = (refl, refl)

pub used_up_cancelled_before_its_step : Ends
    (rollback ++ event.Cancel 1 ∷ event.ToServer 1 8 ∷ event.ToClient 1 21 ∷ [])
    (begun ∷ committed ∷ asked 1 1 status.Acknowledged None [] ∷ [])
    (seen 1 Idle (Leased 1) last_begun None (session last_begun last_descriptor) 0 0 ∷ [])
used_up_cancelled_before_its_step = (refl, refl)
