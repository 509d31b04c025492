-- A connection is cut in the middle of an answer; then the server restarts.
use Rattle.std.specs.Prelude.{◌≡◌, refl, pos, List, [], ◌∷◌, Some, codes}
use Rattle.tds_packet.specs.declared.kind.Direction.TheVariants.{ToClient}
use Rattle.tds_request.specs.declared.request.Request.TheVariants.{Batch}
use Rattle.tds_session.specs.Answer.{script_answers}
use Rattle.tds_token.specs.declared.token.Token.TheVariants as token
use Rattle.tds_world.specs.declared.event.Event.{Event}
use Rattle.tds_world.specs.declared.event.Event.TheVariants as event
use Rattle.tds_world.specs.declared.outcome.Opened.TheVariants.{New}
use Rattle.tds_world.specs.declared.outcome.Outcome.TheVariants as outcome
use Rattle.tds_world.specs.declared.outcome.SendOutcome.TheVariants as sent
use Rattle.tds_world.specs.declared.outcome.WorkOutcome.TheVariants as work
use Rattle.tds_world.specs.declared.report.Report.{Report}
use Rattle.tds_world.specs.declared.report.RequestStatus.TheVariants as status
use Rattle.tds_world.specs.Events.{world_after}
use Rattle.tds_world.specs.Observed.{observed, bytes_of}
use Rattle.tds_world.specs.World.{World, new_world}
use Rattle.tds_world.proofs.examples.Shown.{with_max, Shows, asked, session, done}

abbrev events : List Event
events =
    event.Lease ∷ event.Ask 1 (Batch (codes "rows 5 2")) ∷ event.Send 1 ∷ event.ToServer 1 46 ∷
    event.Work 1 ∷ event.ToClient 1 44 ∷ event.Cut 1 ∷ event.Lease ∷ event.RestartServer ∷ []

abbrev report : Report
report = observed (with_max 1) script_answers events

pub shown : Shows report
    (outcome.Leased 1 1 New ∷ outcome.Asked 1 ∷ outcome.Sent sent.Last ∷ outcome.ToServer 46 ∷
    outcome.Work work.Step ∷ outcome.ToClient 44 ∷ outcome.Cut ∷ outcome.Leased 2 2 New ∷
    outcome.RestartedServer ∷ [])
    (
    asked 1 1 status.Lost (Some (session 0 1)) (token.Columns (record { user_type = 0; flags = 0; name = codes "n" } ∷ []) ∷ token.Row (pos 5 ∷ []) ∷ token.Row (pos 6 ∷ []) ∷ done 0x11 2 ∷ []) ∷ [])
    ([])
shown = (refl, refl, refl)

abbrev world : World
world = world_after (with_max 1) script_answers events new_world

-- The step of `rows 5 2`.
pub answer_bytes : bytes_of world 1 ToClient ≡
    0x04 ∷ 0x00 ∷ 0x00 ∷ 0x2C ∷ 0x00 ∷ 0x00 ∷ 0x01 ∷ 0x00 ∷ 0x81 ∷ 0x01 ∷ 0x00 ∷ 0x00 ∷ 0x00 ∷
    0x00 ∷ 0x00 ∷ 0x00 ∷ 0x00 ∷ 0x38 ∷ 0x01 ∷ 0x6E ∷ 0x00 ∷ 0xD1 ∷ 0x05 ∷ 0x00 ∷ 0x00 ∷ 0x00 ∷
    0xD1 ∷ 0x06 ∷ 0x00 ∷ 0x00 ∷ 0x00 ∷ 0xFD ∷ 0x11 ∷ 0x00 ∷ 0x00 ∷ 0x00 ∷ 0x02 ∷ 0x00 ∷ 0x00 ∷
    0x00 ∷ 0x00 ∷ 0x00 ∷ 0x00 ∷ 0x00 ∷ []
answer_bytes = refl
