-- A lease keeps its transaction. The lease that resumes it finds the transaction, and no settings.
use Rattle.std.specs.Prelude.{◌≡◌, refl, List, [], ◌∷◌, take, drop, Some, None, codes}
use Rattle.tds_packet.specs.declared.kind.Direction.TheVariants.{ToServer, ToClient}
use Rattle.tds_request.specs.declared.request.Request.TheVariants.{Batch}
use Rattle.tds_session.specs.Answer.{script_answers}
use Rattle.tds_world.specs.declared.event.Event.{Event}
use Rattle.tds_world.specs.declared.event.Event.TheVariants as event
use Rattle.tds_world.specs.declared.outcome.Opened.TheVariants.{New, Resumed}
use Rattle.tds_world.specs.declared.outcome.Outcome.TheVariants as outcome
use Rattle.tds_world.specs.declared.outcome.SendOutcome.TheVariants as sent
use Rattle.tds_world.specs.declared.outcome.WorkOutcome.TheVariants as work
use Rattle.tds_world.specs.declared.report.ClientView.TheVariants.{Idle}
use Rattle.tds_world.specs.declared.report.Place.TheVariants.{Leased}
use Rattle.tds_world.specs.declared.report.Report.{Report}
use Rattle.tds_world.specs.declared.report.RequestStatus.TheVariants as status
use Rattle.tds_world.specs.Events.{world_after}
use Rattle.tds_world.specs.Observed.{observed, bytes_of}
use Rattle.tds_world.specs.World.{World, new_world}
use Rattle.tds_world.proofs.examples.Shown.{with_max, Shows, asked, seen, session, value, done}

abbrev events : List Event
events =
    event.Lease ∷ event.Ask 1 (Batch (codes "set x 7;begin")) ∷ event.Send 1 ∷
    event.ToServer 1 56 ∷ event.Work 1 ∷ event.Work 1 ∷ event.Work 1 ∷ event.ToClient 1 77 ∷
    event.Keep 1 ∷ event.Resume 1 ∷ event.Ask 2 (Batch (codes "get x;commit")) ∷ event.Send 2 ∷
    event.ToServer 1 54 ∷ event.Work 1 ∷ event.Work 1 ∷ event.Work 1 ∷ event.Work 1 ∷
    event.ToClient 1 96 ∷ []

abbrev report : Report
report = observed (with_max 1) script_answers events

pub shown : Shows report
    (outcome.Leased 1 1 New ∷ outcome.Asked 1 ∷ outcome.Sent sent.Last ∷ outcome.ToServer 56 ∷
    outcome.Work work.Step ∷ outcome.Work work.Step ∷ outcome.Work work.Finished ∷
    outcome.ToClient 77 ∷ outcome.Kept 1 ∷ outcome.Leased 2 1 Resumed ∷ outcome.Asked 2 ∷
    outcome.Sent sent.Last ∷ outcome.ToServer 54 ∷ outcome.Work work.Step ∷
    outcome.Work work.Step ∷ outcome.Work work.Step ∷ outcome.Work work.Finished ∷
    outcome.ToClient 96 ∷ [])
    (asked 1 1 status.Finished (Some (session 0 1)) (done 1 0 ∷ done 1 0 ∷ done 0 0 ∷ []) ∷
    asked 2 1 status.Finished (Some (session 1 2)) (value 0 ∷ done 1 0 ∷ done 1 0 ∷ done 0 0 ∷ []) ∷ [])
    (seen 1 Idle (Leased 2) 0 None (session 0 2) 0 0 ∷ [])
shown = (refl, refl, refl)

abbrev world : World
world = world_after (with_max 1) script_answers events new_world

-- The second request asks for a reset that keeps the transaction, and its header names it.
pub second_request : take 30 (drop 56 (bytes_of world 1 ToServer)) ≡
    0x01 ∷ 0x11 ∷ 0x00 ∷ 0x36 ∷ 0x00 ∷ 0x00 ∷ 0x01 ∷ 0x00 ∷ 0x16 ∷ 0x00 ∷ 0x00 ∷ 0x00 ∷ 0x12 ∷
    0x00 ∷ 0x00 ∷ 0x00 ∷ 0x02 ∷ 0x00 ∷ 0x01 ∷ 0x00 ∷ 0x00 ∷ 0x00 ∷ 0x00 ∷ 0x00 ∷ 0x00 ∷ 0x00 ∷
    0x01 ∷ 0x00 ∷ 0x00 ∷ 0x00 ∷ []
second_request = refl

-- The commit is the third packet of its answer, behind the reset and the value.
pub commit_packet : take 35 (drop 117 (bytes_of world 1 ToClient)) ≡
    0x04 ∷ 0x00 ∷ 0x00 ∷ 0x23 ∷ 0x00 ∷ 0x00 ∷ 0x03 ∷ 0x00 ∷ 0xE3 ∷ 0x0B ∷ 0x00 ∷ 0x09 ∷ 0x00 ∷
    0x08 ∷ 0x01 ∷ 0x00 ∷ 0x00 ∷ 0x00 ∷ 0x00 ∷ 0x00 ∷ 0x00 ∷ 0x00 ∷ 0xFD ∷ 0x01 ∷ 0x00 ∷ 0x00 ∷
    0x00 ∷ 0x00 ∷ 0x00 ∷ 0x00 ∷ 0x00 ∷ 0x00 ∷ 0x00 ∷ 0x00 ∷ 0x00 ∷ []
commit_packet = refl
