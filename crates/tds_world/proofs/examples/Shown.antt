-- What an example shows of a play, and short words for it.
use Rattle.std.specs.Prelude.{ℕ, ◌≡◌, pos, List, [], map, length, Bool, Option, Some, None}
use Rattle.tds_packet.specs.declared.status.Reset.{Reset}
use Rattle.tds_session.specs.declared.attention.OnAttention.TheVariants.{Keep, RollBack}
use Rattle.tds_session.specs.Session.{SessionState, no_settings}
use Rattle.tds_token.specs.declared.message.Message.{Message}
use Rattle.tds_token.specs.declared.token.Token.{Token}
use Rattle.tds_token.specs.declared.token.Token.TheVariants as token
use Rattle.tds_world.specs.declared.event.Event.{Event}
use Rattle.tds_world.specs.declared.event.Setup.{Setup}
use Rattle.tds_world.specs.declared.outcome.Outcome.{Outcome}
use Rattle.tds_world.specs.declared.report.ClientView.{ClientView}
use Rattle.tds_world.specs.declared.report.EventReport.{EventReport}
use Rattle.tds_world.specs.declared.report.Place.{Place}
use Rattle.tds_world.specs.declared.report.Report.{Report}
use Rattle.tds_world.specs.declared.report.RequestReport.{RequestReport}
use Rattle.tds_world.specs.declared.report.RequestStatus.{RequestStatus}
use Rattle.tds_world.specs.declared.report.Snapshot.{Snapshot}
use Rattle.tds_world.specs.Losses.{Nothing, Failed, Played, marked}
use Rattle.tds_world.specs.WithLosses.{events_of}
use Rattle.tds_world.specs.World.{numbered}

-- Packets of 512 bytes, and so many connections. A transaction is kept at an attention, or rolled back.
abbrev pub with_max : ℕ → Setup
with_max most = record { packet_size = 512; max = most; on_attention = Keep }

abbrev pub rolling_back : ℕ → Setup
rolling_back most = record { packet_size = 512; max = most; on_attention = RollBack }

-- The connections after the event of this number.
abbrev pub connections_in : Option EventReport → List Snapshot
connections_in None = []
connections_in (Some e) = e.snapshots

abbrev pub connections_after : ℕ → Report → List Snapshot
connections_after number r = connections_in (numbered r.events number)

-- The outcomes, the records, and the connections at the end.
abbrev pub Shows : Report → List Outcome → List RequestReport → List Snapshot → Type 0
Shows r outcomes requests connections =
    (map (λ e. e.outcome) r.events ≡ outcomes) × (r.requests ≡ requests) × (connections_after (length r.events) r ≡ connections)

-- An event that loses nothing, and one whose link fails when so many bytes have come.
abbrev pub whole : Event → Played
whole e = record { event = e; loss = Nothing }

abbrev pub failed : ℕ → Event → Played
failed came e = record { event = e; loss = Failed came }

-- Of a play over links that fail: the outcomes, which events are lost, how many connections are shown
-- after each, and the records. Its report marks just what the play lost.
pub record ShowsLosses (ps : List Played) (r : Report) (outcomes : List Outcome) (lost : List Bool)
    (shown : List ℕ) (requests : List RequestReport) : Type 0 where
  pub outcomes_are : map (λ e. e.outcome) r.events ≡ outcomes
  pub lost_are : map (λ e. e.lost) r.events ≡ lost
  pub shown_are : map (λ e. length e.snapshots) r.events ≡ shown
  pub requests_are : r.requests ≡ requests
  pub marks : marked (events_of ps) r.events ≡ ps

-- A request of a lease on a connection: its status, the session that it ran in, and its tokens.
abbrev pub asked : ℕ → ℕ → RequestStatus → Option SessionState → List Token → RequestReport
asked lease conn status ran tokens = record {
  lease = lease;
  conn = conn;
  status = status;
  ran = ran;
  tokens = tokens;
}

-- A connection: its client, its place, the descriptor heard and the mark, the server's session, and
-- the bytes underway.
abbrev pub seen : ℕ → ClientView → Place → ℕ → Option Reset → SessionState → ℕ → ℕ → Snapshot
seen conn client place descriptor mark server to_server to_client = record {
  conn = conn;
  client = client;
  place = place;
  descriptor = descriptor;
  mark = mark;
  server = server;
  to_server = to_server;
  to_client = to_client;
}

-- A session without settings, of this descriptor and this next one.
abbrev pub session : ℕ → ℕ → SessionState
session descriptor next = record {
  settings = no_settings;
  descriptor = descriptor;
  next_descriptor = next;
}

-- Tokens.
abbrev pub message : ℕ → ℕ → List ℕ → Message
message number class text = record {
  number = pos number;
  state = 1;
  class = class;
  text = text;
  server = [];
  procedure = [];
  line = pos 0;
}

abbrev pub info : ℕ → List ℕ → Token
info number text = token.Info (message number 0 text)

abbrev pub error : ℕ → List ℕ → Token
error number text = token.Error (message number 16 text)

abbrev pub value : ℕ → Token
value n = token.ReturnStatus (pos n)

abbrev pub done : ℕ → ℕ → Token
done status rows = token.Done status 0 rows
