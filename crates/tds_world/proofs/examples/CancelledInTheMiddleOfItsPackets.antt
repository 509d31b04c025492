-- A request that is cancelled when some of its packets are out is dropped, and its attention acknowledged. The server runs nothing.
use Rattle.std.specs.Prelude.{◌≡◌, refl, List, [], ◌∷◌, take, drop, replicate, None}
use Rattle.tds_packet.specs.declared.kind.Direction.TheVariants.{ToServer, ToClient}
use Rattle.tds_request.specs.declared.request.Request.TheVariants.{Batch}
use Rattle.tds_session.specs.Answer.{script_answers}
use Rattle.tds_world.specs.declared.event.Event.{Event}
use Rattle.tds_world.specs.declared.event.Event.TheVariants as event
use Rattle.tds_world.specs.declared.outcome.CancelOutcome.TheVariants as cancel
use Rattle.tds_world.specs.declared.outcome.Opened.TheVariants.{New}
use Rattle.tds_world.specs.declared.outcome.Outcome.TheVariants as outcome
use Rattle.tds_world.specs.declared.outcome.SendOutcome.TheVariants as sent
use Rattle.tds_world.specs.declared.report.ClientView.TheVariants.{Idle}
use Rattle.tds_world.specs.declared.report.Place.TheVariants.{Leased}
use Rattle.tds_world.specs.declared.report.Report.{Report}
use Rattle.tds_world.specs.declared.report.RequestStatus.TheVariants as status
use Rattle.tds_world.specs.Events.{world_after}
use Rattle.tds_world.specs.Observed.{observed, bytes_of}
use Rattle.tds_world.specs.World.{World, new_world}
use Rattle.tds_world.proofs.examples.Shown.{with_max, Shows, asked, seen, session}

abbrev events : List Event
events =
    event.Lease ∷ event.Ask 1 (Batch (replicate 242 97)) ∷ event.Send 1 ∷ event.Cancel 1 ∷
    event.ToServer 1 1000 ∷ event.ToClient 1 1000 ∷ []

abbrev report : Report
report = observed (with_max 1) script_answers events

pub shown : Shows report
    (outcome.Leased 1 1 New ∷ outcome.Asked 1 ∷ outcome.Sent sent.More ∷
    outcome.Cancel cancel.Asked ∷ outcome.ToServer 528 ∷ outcome.ToClient 21 ∷ [])
    (asked 1 1 status.Acknowledged None [] ∷ [])
    (seen 1 Idle (Leased 1) 0 None (session 0 1) 0 0 ∷ [])
shown = (refl, refl, refl)

abbrev world : World
world = world_after (with_max 1) script_answers events new_world

-- A full packet that does not end the message.
pub first_packet : take 8 (bytes_of world 1 ToServer) ≡ 0x01 ∷ 0x00 ∷ 0x02 ∷ 0x00 ∷ 0x00 ∷ 0x00 ∷ 0x01 ∷ 0x00 ∷ []
first_packet = refl

-- Behind it the word to ignore the message, and the attention.
pub then : drop 512 (bytes_of world 1 ToServer) ≡
    0x01 ∷ 0x03 ∷ 0x00 ∷ 0x08 ∷ 0x00 ∷ 0x00 ∷ 0x02 ∷ 0x00 ∷ 0x06 ∷ 0x01 ∷ 0x00 ∷ 0x08 ∷ 0x00 ∷
    0x00 ∷ 0x01 ∷ 0x00 ∷ []
then = refl

-- The server answers the acknowledgement alone.
pub answer_bytes : bytes_of world 1 ToClient ≡
    0x04 ∷ 0x01 ∷ 0x00 ∷ 0x15 ∷ 0x00 ∷ 0x00 ∷ 0x01 ∷ 0x00 ∷ 0xFD ∷ 0x20 ∷ 0x00 ∷ 0x00 ∷ 0x00 ∷
    0x00 ∷ 0x00 ∷ 0x00 ∷ 0x00 ∷ 0x00 ∷ 0x00 ∷ 0x00 ∷ 0x00 ∷ []
answer_bytes = refl
