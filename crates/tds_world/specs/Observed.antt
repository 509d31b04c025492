-- What is seen of a play: outcomes, snapshots, records, and the bytes of each connection.
use Rattle.std.specs.Prelude.{ℕ, suc, List, [], ◌∷◌, ◌++◌, Bool, false, ◌==◌, Option, Some, None, find}
use Rattle.tds_packet.specs.declared.kind.Direction.{Direction}
use Rattle.tds_packet.specs.declared.kind.Direction.TheVariants.{ToServer, ToClient}
use Rattle.tds_session.specs.Answer.{Answers}
use Rattle.tds_world.specs.declared.event.Event.{Event}
use Rattle.tds_world.specs.declared.event.Setup.{Setup}
use Rattle.tds_world.specs.declared.outcome.Outcome.{Outcome}
use Rattle.tds_world.specs.declared.report.EventReport.{EventReport}
use Rattle.tds_world.specs.declared.report.Place.{Place}
use Rattle.tds_world.specs.declared.report.Report.{Report}
use Rattle.tds_world.specs.declared.report.RequestReport.{RequestReport}
use Rattle.tds_world.specs.declared.report.Snapshot.{Snapshot}
use Rattle.tds_world.specs.Connection.{Connection, records, phase, Standing, In, Cut, is_cut, up_underway, down_underway}
use Rattle.tds_world.specs.Entries.{up_bytes, down_bytes}
use Rattle.tds_world.specs.Events.{happens, world_after}
use Rattle.tds_world.specs.Lane.{sent_bytes}
use Rattle.tds_world.specs.Phase.{state_of, request_status}
use Rattle.tds_world.specs.Record.{Record}
use Rattle.tds_world.specs.World.{World, new_world, numbered}

-- What is seen of connection n, at its place of the pool.
abbrev pub snapshot_of : ℕ → Connection → Place → Snapshot
snapshot_of n c p = record {
  conn = n;
  client = state_of (phase c);
  place = p;
  descriptor = c.heard;
  mark = c.mark;
  server = c.session;
  to_server = up_underway c;
  to_client = down_underway c;
}

-- A cut connection isn't seen.
abbrev pub seen : ℕ → Connection → Standing → List Snapshot
seen n c (In p) = snapshot_of n c p ∷ []
seen n c Cut = []

-- The snapshots of a list of connections, whose first has number n.
abbrev pub snapshots_from : ℕ → List Connection → List Snapshot
snapshots_from n [] = []
snapshots_from n (c ∷ cs) = seen n c c.standing ++ snapshots_from (suc n) cs

abbrev pub snapshots : World → List Snapshot
snapshots w = snapshots_from 1 w.connections

-- What is told of an event, of its outcome and the world after it.
abbrev pub event_report : Outcome × World → EventReport
event_report p = record { outcome = p.0; lost = false; snapshots = snapshots p.1 }

-- What is told of the events, one after the other.
abbrev pub event_reports : Setup → Answers → List Event → World → List EventReport
event_reports setup answers [] w = []
event_reports setup answers (e ∷ es) w =
    event_report (happens setup answers e w)
    ∷ event_reports setup answers es (happens setup answers e w).1

-- What is told of a request on a connection that is cut, or isn't.
abbrev pub request_report : Bool → Record → RequestReport
request_report cut q = record {
  lease = q.lease;
  conn = q.conn;
  status = request_status cut q;
  ran = q.ran;
  tokens = q.given;
}

-- The record of this number among those of a connection.
abbrev pub record_on : ℕ → Connection → Option Record
record_on number c = find (λ q. q.number == number) (records c)

abbrev pub report_if : Bool → Option Record → List RequestReport
report_if cut None = []
report_if cut (Some q) = request_report cut q ∷ []

abbrev pub report_on : ℕ → Option Connection → List RequestReport
report_on number None = []
report_on number (Some c) = report_if (is_cut c.standing) (record_on number c)

-- What is told of the requests that were asked on these connections. The first has this number.
abbrev pub request_reports : World → ℕ → List ℕ → List RequestReport
request_reports w number [] = []
request_reports w number (n ∷ ns) =
    report_on number (numbered w.connections n) ++ request_reports w (suc number) ns

-- The report of a play: what is told of each event, and of each request at the end.
abbrev pub report_of : World → List EventReport → Report
report_of w events = record { events = events; requests = request_reports w 1 w.asked_on }

abbrev pub observed : Setup → Answers → List Event → Report
observed setup answers events =
    report_of
    (world_after setup answers events new_world)
    (event_reports setup answers events new_world)

-- All bytes that were sent on a connection, one way.
abbrev pub bytes_on : Direction → Connection → List ℕ
bytes_on ToServer c = sent_bytes up_bytes c.to_server
bytes_on ToClient c = sent_bytes down_bytes c.to_client

abbrev pub bytes_in : Direction → Option Connection → List ℕ
bytes_in direction None = []
bytes_in direction (Some c) = bytes_on direction c

-- All bytes that were sent on connection n, one way.
abbrev pub bytes_of : World → ℕ → Direction → List ℕ
bytes_of w n direction = bytes_in direction (numbered w.connections n)
