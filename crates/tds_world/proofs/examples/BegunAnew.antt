-- A commit ends the transaction and begins the next one in the same step; so does a rollback. Each has a descriptor of its own, and both ends come to the last one.
use Rattle.std.specs.Prelude.{◌≡◌, refl, List, [], ◌∷◌, map, drop, Some, None, codes}
use Rattle.tds_packet.specs.declared.kind.Direction.TheVariants.{ToServer, ToClient}
use Rattle.tds_request.specs.declared.request.Request.TheVariants.{Begin, Commit, Rollback}
use Rattle.tds_session.specs.Answer.{script_answers}
use Rattle.tds_world.specs.declared.event.Event.{Event}
use Rattle.tds_world.specs.declared.event.Event.TheVariants as event
use Rattle.tds_world.specs.declared.outcome.Opened.TheVariants.{New}
use Rattle.tds_world.specs.declared.outcome.Outcome.TheVariants as outcome
use Rattle.tds_world.specs.declared.outcome.SendOutcome.TheVariants as sent
use Rattle.tds_world.specs.declared.outcome.WorkOutcome.TheVariants as work
use Rattle.tds_world.specs.declared.report.ClientView.TheVariants.{Idle}
use Rattle.tds_world.specs.declared.report.Place.TheVariants.{Leased}
use Rattle.tds_world.specs.declared.report.RequestStatus.TheVariants as status
use Rattle.tds_world.specs.Bounds.{begun_on}
use Rattle.tds_world.specs.Events.{world_after}
use Rattle.tds_world.specs.Observed.{observed, bytes_of}
use Rattle.tds_world.specs.World.{World, new_world}
use Rattle.tds_world.proofs.examples.Shown.{with_max, Shows, asked, seen, session, error, done}

abbrev begun_first : List Event
begun_first =
    event.Lease ∷ event.Ask 1 (Begin 0) ∷ event.Send 1 ∷ event.ToServer 1 34 ∷ event.Work 1 ∷
    event.ToClient 1 35 ∷ event.Ask 1 (Commit (Some 2)) ∷ event.Send 1 ∷ event.ToServer 1 36 ∷
    event.Work 1 ∷ event.ToClient 1 49 ∷ []

pub shown : Shows (observed (with_max 1) script_answers begun_first)
    (outcome.Leased 1 1 New ∷ outcome.Asked 1 ∷ outcome.Sent sent.Last ∷ outcome.ToServer 34 ∷
    outcome.Work work.Finished ∷ outcome.ToClient 35 ∷ outcome.Asked 2 ∷ outcome.Sent sent.Last ∷
    outcome.ToServer 36 ∷ outcome.Work work.Finished ∷ outcome.ToClient 49 ∷ [])
    (asked 1 1 status.Finished (Some (session 0 1)) (done 0 0 ∷ []) ∷
    asked 1 1 status.Finished (Some (session 1 2)) (done 0 0 ∷ []) ∷ [])
    (seen 1 Idle (Leased 1) 2 None (session 2 3) 0 0 ∷ [])
shown = (refl, refl, refl)

abbrev world : World
world = world_after (with_max 1) script_answers begun_first new_world

-- The request: flags 1, the isolation level 2, and an empty name.
pub request : drop 34 (bytes_of world 1 ToServer) ≡
    0x0E ∷ 0x01 ∷ 0x00 ∷ 0x24 ∷ 0x00 ∷ 0x00 ∷ 0x01 ∷ 0x00 ∷ 0x16 ∷ 0x00 ∷ 0x00 ∷ 0x00 ∷ 0x12 ∷
    0x00 ∷ 0x00 ∷ 0x00 ∷ 0x02 ∷ 0x00 ∷ 0x01 ∷ 0x00 ∷ 0x00 ∷ 0x00 ∷ 0x00 ∷ 0x00 ∷ 0x00 ∷ 0x00 ∷
    0x01 ∷ 0x00 ∷ 0x00 ∷ 0x00 ∷ 0x07 ∷ 0x00 ∷ 0x00 ∷ 0x01 ∷ 0x02 ∷ 0x00 ∷ []
request = refl

-- The answer: ENVCHANGE 9 with the old descriptor, 8 with the new one, and the final DONE.
pub answer : drop 35 (bytes_of world 1 ToClient) ≡
    0x04 ∷ 0x01 ∷ 0x00 ∷ 0x31 ∷ 0x00 ∷ 0x00 ∷ 0x01 ∷ 0x00 ∷ 0xE3 ∷ 0x0B ∷ 0x00 ∷ 0x09 ∷ 0x00 ∷
    0x08 ∷ 0x01 ∷ 0x00 ∷ 0x00 ∷ 0x00 ∷ 0x00 ∷ 0x00 ∷ 0x00 ∷ 0x00 ∷ 0xE3 ∷ 0x0B ∷ 0x00 ∷ 0x08 ∷
    0x08 ∷ 0x02 ∷ 0x00 ∷ 0x00 ∷ 0x00 ∷ 0x00 ∷ 0x00 ∷ 0x00 ∷ 0x00 ∷ 0x00 ∷ 0xFD ∷ 0x00 ∷ 0x00 ∷
    0x00 ∷ 0x00 ∷ 0x00 ∷ 0x00 ∷ 0x00 ∷ 0x00 ∷ 0x00 ∷ 0x00 ∷ 0x00 ∷ 0x00 ∷ []
answer = refl

-- A rollback begins transaction 3; a plain commit ends it, and then there is none to end.
abbrev ended_last : List Event
ended_last =
    event.Lease ∷ event.Ask 1 (Begin 0) ∷ event.Send 1 ∷ event.ToServer 1 34 ∷ event.Work 1 ∷
    event.ToClient 1 35 ∷ event.Ask 1 (Commit (Some 2)) ∷ event.Send 1 ∷ event.ToServer 1 36 ∷
    event.Work 1 ∷ event.ToClient 1 49 ∷ event.Ask 1 (Rollback (Some 0)) ∷ event.Send 1 ∷
    event.ToServer 1 36 ∷ event.Work 1 ∷ event.ToClient 1 49 ∷ event.Ask 1 (Commit None) ∷
    event.Send 1 ∷ event.ToServer 1 34 ∷ event.Work 1 ∷ event.ToClient 1 35 ∷
    event.Ask 1 (Commit (Some 2)) ∷ event.Send 1 ∷ event.ToServer 1 36 ∷ event.Work 1 ∷
    event.ToClient 1 66 ∷ []

pub shown_at_the_end : Shows (observed (with_max 1) script_answers ended_last)
    (outcome.Leased 1 1 New ∷ outcome.Asked 1 ∷ outcome.Sent sent.Last ∷ outcome.ToServer 34 ∷
    outcome.Work work.Finished ∷ outcome.ToClient 35 ∷ outcome.Asked 2 ∷ outcome.Sent sent.Last ∷
    outcome.ToServer 36 ∷ outcome.Work work.Finished ∷ outcome.ToClient 49 ∷ outcome.Asked 3 ∷
    outcome.Sent sent.Last ∷ outcome.ToServer 36 ∷ outcome.Work work.Finished ∷
    outcome.ToClient 49 ∷ outcome.Asked 4 ∷ outcome.Sent sent.Last ∷ outcome.ToServer 34 ∷
    outcome.Work work.Finished ∷ outcome.ToClient 35 ∷ outcome.Asked 5 ∷ outcome.Sent sent.Last ∷
    outcome.ToServer 36 ∷ outcome.Work work.Finished ∷ outcome.ToClient 66 ∷ [])
    (asked 1 1 status.Finished (Some (session 0 1)) (done 0 0 ∷ []) ∷
    asked 1 1 status.Finished (Some (session 1 2)) (done 0 0 ∷ []) ∷
    asked 1 1 status.Finished (Some (session 2 3)) (done 0 0 ∷ []) ∷
    asked 1 1 status.Finished (Some (session 3 4)) (done 0 0 ∷ []) ∷
    asked 1 1 status.Finished (Some (session 0 4)) (error 50003 (codes "no transaction") ∷ done 2 0 ∷ []) ∷ [])
    (seen 1 Idle (Leased 1) 0 None (session 0 4) 0 0 ∷ [])
shown_at_the_end = (refl, refl, refl)

-- The transactions that the connection's steps tell to have begun: each comes once.
pub begun : map begun_on (world_after (with_max 1) script_answers ended_last new_world).connections ≡
    (1 ∷ 2 ∷ 3 ∷ []) ∷ []
begun = refl
