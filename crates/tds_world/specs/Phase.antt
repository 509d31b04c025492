-- Where a request is, and what a report shows of it.
use Rattle.std.specs.Prelude.{Bool, true, false, Option, Some, None}
use Rattle.tds_world.specs.declared.report.ClientView.{ClientView}
use Rattle.tds_world.specs.declared.report.ClientView.TheVariants as view
use Rattle.tds_world.specs.declared.report.RequestStatus.{RequestStatus}
use Rattle.tds_world.specs.declared.report.RequestStatus.TheVariants as status
use Rattle.tds_world.specs.Record.{Record, Fate, Open, Finished, Cancelled, Acknowledged, Out, NotBegun, Begun, Whole}

-- A request is settled when nobody waits for its answer any more. Before that, none of its packets
-- is out, some are, all are, or it was cancelled after its first packet.
pub data Phase : Type 0 where
  Settled : Phase
  Asked : Phase
  Sending : Phase
  Reading : Phase
  Cancelling : Phase

-- By what became of it, and how much of it is out. A finished, an acknowledged and a never sent
-- cancelled request are settled.
abbrev pub phase_by : Fate → Out → Phase
phase_by Open NotBegun = Asked
phase_by Open (Begun n) = Sending
phase_by Open (Whole n) = Reading
phase_by Cancelled (Begun n) = Cancelling
phase_by Cancelled (Whole n) = Cancelling
phase_by _ _ = Settled

abbrev pub phase_of : Record → Phase
phase_of q = phase_by q.fate q.out

-- The phase of a connection's newest request; settled, if there is none.
abbrev pub phase_in : Option Record → Phase
phase_in None = Settled
phase_in (Some q) = phase_of q

abbrev pub is_settled : Phase → Bool
is_settled Settled = true
is_settled _ = false

-- The state of a connection's client, by the phase of the newest request.
abbrev pub state_of : Phase → ClientView
state_of Settled = view.Idle
state_of Reading = view.Reading
state_of Cancelling = view.Cancelling
state_of _ = view.Sending

-- What a report says of a request: finished and acknowledged, and then whether its connection was
-- cut and its phase.
abbrev pub status_by : Fate → Bool → Phase → RequestStatus
status_by Finished cut phase = status.Finished
status_by Acknowledged cut phase = status.Acknowledged
status_by fate cut Settled = status.Unsent
status_by fate true phase = status.Lost
status_by fate false Cancelling = status.Cancelling
status_by fate false phase = status.Open

-- The status of a request on a connection that is cut, or isn't.
abbrev pub request_status : Bool → Record → RequestStatus
request_status cut q = status_by q.fate cut (phase_of q)
