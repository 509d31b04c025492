-- The fields of a client.
use Rattle.std.specs.Prelude.{ℕ, ◌+◌, ◌≤◌, ◌<◌, ◌^◌, List, length, drop}
use Rattle.tds_client.specs.declared.client.Stage.{Stage}
use Rattle.tds_client.specs.declared.client.Stage.TheVariants as stages
use Rattle.tds_client.specs.declared.client.Client.TheInside.{Inside}
use Rattle.tds_client.specs.Session as session

-- what the stage stands for, with this message
abbrev pub stage_of : Stage → List ℕ → session.Stage
stage_of stages.Idle message = session.Idle
stage_of (stages.Sending outgoing) message = session.Sending outgoing.kind (drop outgoing.sent message) outgoing.packets
stage_of stages.Reading message = session.Reading
stage_of stages.Cancelling message = session.Cancelling
stage_of (stages.Broken fault) message = session.Broken fault

-- what the fields stand for
abbrev pub session_of : Inside → session.ClientSession
session_of a = record { size = a.size; stage = stage_of a.stage a.message.items; heard = a.heard; columns = a.columns }

-- what is out is a part of the message, and the packets that are out can be counted, with one for each byte that is left
abbrev pub HoldsIn : Stage → List ℕ → Type 0
HoldsIn stages.Idle message = Unit {0}
HoldsIn (stages.Sending outgoing) message = (outgoing.sent ≤ length message) × (outgoing.packets + length message < 2 ^ 63 + outgoing.sent)
HoldsIn stages.Reading message = Unit {0}
HoldsIn stages.Cancelling message = Unit {0}
HoldsIn (stages.Broken fault) message = Unit {0}

abbrev pub IsClient : Inside → Type 0
IsClient a = HoldsIn a.stage a.message.items
