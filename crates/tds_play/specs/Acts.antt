-- What an end of a connection of a play does there, before its bytes are handed over.
use Rattle.std.specs.Prelude.{Bool, true, false, Option, option_map}
use Rattle.tds_client.specs.declared.state.Cancelled.{Cancelled}
use Rattle.tds_client.specs.declared.state.Cancelled.TheVariants as client
use Rattle.tds_server.specs.declared.outcome.Worked.{Worked}
use Rattle.tds_server.specs.declared.outcome.Worked.TheVariants as server
use Rattle.tds_server.specs.State.{ServerState}
use Rattle.tds_server.specs.Working.{Work}
use Rattle.tds_session.specs.Session.{SessionState}
use Rattle.tds_world.specs.declared.report.RequestStatus.{RequestStatus}
use Rattle.tds_world.specs.declared.report.RequestStatus.TheVariants as status
use Rattle.tds_play.specs.declared.link.Link.{Link}
use Rattle.tds_play.specs.declared.request.Record.{Record}
use Rattle.tds_play.specs.Links.{cut_of, stepped}

-- The connection, cut where the carrier failed.
abbrev pub unless_lost : {E S : Type 0} → Bool → Link E S → Link E S
unless_lost true link = cut_of link
unless_lost false link = link

abbrev pub with_status : RequestStatus → Record → Record
with_status s r = record r { status = s }

-- ---- Cancelling

-- A request that is cancelled: an attention is out for it, or none of it was sent and none will be.
abbrev pub cancel_status : Bool → RequestStatus
cancel_status true = status.Cancelling
cancel_status false = status.Unsent

-- The newest request is never sent, or its attention is out.
abbrev pub cancelled_as : {E S : Type 0} → Cancelled → Link E S → Link E S
cancelled_as client.Nothing link = link
cancelled_as client.Already link = link
cancelled_as client.Unsent link =
    record link { current = option_map (with_status status.Unsent) link.current }
cancelled_as client.Asked link =
    record link { current = option_map (with_status status.Cancelling) link.current }

-- ---- Working

-- The newest request after a step from the one session to the other, if one was done.
abbrev pub current_behind : Worked → SessionState → SessionState → Option Record → Option Record
current_behind server.Idle before after r = r
current_behind server.Step before after r = option_map (stepped before after) r
current_behind server.Finished before after r = option_map (stepped before after) r

-- A step was done, or none was due.
abbrev pub worked_by : {E S : Type 0} → Worked → ServerState E → Link E S → Link E S
worked_by server.Idle state link = link
worked_by server.Step state link = record link {
  server = state;
  current = option_map (stepped link.server.session state.session) link.current;
}
worked_by server.Finished state link = record link {
  server = state;
  current = option_map (stepped link.server.session state.session) link.current;
}

abbrev pub worked_as : {E S : Type 0} → Work E → Link E S → Link E S
worked_as w link = worked_by w.answer w.state link
