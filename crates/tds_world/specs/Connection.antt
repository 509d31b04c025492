-- A connection: two lanes, a server, a client, its requests and where it stands in the pool.
use Rattle.std.specs.Prelude.{ℕ, List, [], ◌∷◌, ◌++◌, map, Bool, true, false, Option, Some, None, option_map}
use Rattle.tds_packet.specs.declared.status.Reset.{Reset}
use Rattle.tds_session.specs.declared.attention.OnAttention.{OnAttention}
use Rattle.tds_session.specs.Answer as answer
use Rattle.tds_session.specs.Session.{SessionState, new_session}
use Rattle.tds_world.specs.declared.report.Place.{Place}
use Rattle.tds_world.specs.Entries.{Up, Down, up_bytes, down_bytes}
use Rattle.tds_world.specs.Lane.{Lane, empty_lane, underway}
use Rattle.tds_world.specs.Phase.{Phase, phase_in, is_settled}
use Rattle.tds_world.specs.Record.{Record, if_numbered}

-- Where a connection stands: at a place of the pool, or cut and out of it.
pub data Standing : Type 0 where
  In : (place : Place) → Standing
  Cut : Standing

abbrev pub is_cut : Standing → Bool
is_cut (In p) = false
is_cut Cut = true

-- A connection, both its ends and what lies between them.
pub record Connection : Type 0 where
  pub to_server : Lane Up
  pub to_client : Lane Down
  pub on_attention : OnAttention  -- what its server does with a transaction at an attention
  pub session : SessionState  -- of the server
  pub parts : List ℕ  -- data that arrived of a request whose end has not
  pub answering : ℕ  -- the request whose answer is due
  pub due : List answer.Step  -- that answer, less the steps taken
  pub taken : ℕ  -- how many of its steps were taken
  pub heard : ℕ  -- the transaction descriptor that the client heard last
  pub mark : Option Reset  -- the reset that the next request asks for
  pub past : List Record  -- the older requests
  pub current : Option Record  -- the newest request
  pub standing : Standing

-- A connection that is opened, at this place, to a server that does this at an attention. Nothing
-- was sent on it.
abbrev pub new_connection : OnAttention → Place → Connection
new_connection on_attention p = record {
  to_server = empty_lane;
  to_client = empty_lane;
  on_attention = on_attention;
  session = new_session;
  parts = [];
  answering = 0;
  due = [];
  taken = 0;
  heard = 0;
  mark = None;
  past = [];
  current = None;
  standing = In p;
}

-- The requests of a connection, in the order in which they were asked.
abbrev pub joined : List Record → Option Record → List Record
joined past None = past
joined past (Some q) = past ++ q ∷ []

abbrev pub records : Connection → List Record
records c = joined c.past c.current

-- The phase of the newest request. Older ones are settled, since a request is asked only where
-- nobody waits for another.
abbrev pub phase : Connection → Phase
phase c = phase_in c.current

-- Nobody waits for an answer on the connection.
abbrev pub is_idle : Connection → Bool
is_idle c = is_settled (phase c)

-- The connection with a change of the record of this number.
abbrev pub with_record : ℕ → (Record → Record) → Connection → Connection
with_record number change c = record c {
  past = map (if_numbered number change) c.past;
  current = option_map (if_numbered number change) c.current;
}

-- How many bytes are underway, each way.
abbrev pub up_underway : Connection → ℕ
up_underway c = underway up_bytes c.to_server

abbrev pub down_underway : Connection → ℕ
down_underway c = underway down_bytes c.to_client

-- The connection is cut. Nothing moves on it any more.
abbrev pub cut : Connection → Connection
cut c = record c { standing = Cut }
