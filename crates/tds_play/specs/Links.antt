-- What the functions on a connection of a play make of it, and what is seen of it.
use Rattle.std.specs.Prelude.{ℕ, ◌≡◌, List, [], ◌∷◌, ◌++◌, reverse, true, false, Option, Some, None, option_map}
use Rattle.tds_ends.specs.AllBytes.{new_reader}
use Rattle.tds_packet.specs.declared.kind.Direction.TheVariants.{ToServer, ToClient}
use Rattle.tds_packet.specs.declared.status.Reset.{Reset}
use Rattle.tds_server.specs.State.{server_with, lost_of}
use Rattle.tds_session.specs.declared.attention.OnAttention.{OnAttention}
use Rattle.tds_session.specs.Session.{SessionState}
use Rattle.tds_world.specs.declared.report.RequestReport.{RequestReport}
use Rattle.tds_world.specs.declared.report.RequestStatus.{RequestStatus}
use Rattle.tds_world.specs.declared.report.RequestStatus.TheVariants as status
use Rattle.tds_world.specs.Record.{ran_in}
use Rattle.tds_play.specs.declared.link.Link.{Link}
use Rattle.tds_play.specs.declared.request.Record.{Record}
use Rattle.tds_play.specs.declared.seat.Held.{Held}
use Rattle.tds_play.specs.Seats.{Seated}

-- ---- Requests

-- A request that is asked now, under this lease and mark.
pub record IsAsked (lease : ℕ) (mark : Option Reset) (r : Record) : Type 0 where
  pub under : r.lease ≡ lease
  pub marked : r.mark ≡ mark
  pub unsettled : r.status ≡ status.Open
  pub unran : r.ran ≡ None
  pub untold : r.tokens.items ≡ []

-- A step of its answer was done, from the one session to the other.
abbrev pub stepped : SessionState → SessionState → Record → Record
stepped before after r = record r { ran = Some (ran_in r.ran r.mark before after) }

-- What is told of it in the end.
abbrev pub report_of : ℕ → Record → RequestReport
report_of conn r = record {
  lease = r.lease;
  conn = conn;
  status = r.status;
  ran = r.ran;
  tokens = r.tokens.items;
}

-- One that isn't settled is lost with its connection.
abbrev pub lost_status : RequestStatus → RequestStatus
lost_status status.Open = status.Lost
lost_status status.Cancelling = status.Lost
lost_status status.Finished = status.Finished
lost_status status.Acknowledged = status.Acknowledged
lost_status status.Unsent = status.Unsent
lost_status status.Lost = status.Lost

abbrev pub lost_record : Record → Record
lost_record r = record r { status = lost_status r.status }

-- ---- Connections

-- A connection as it begins.
pub record IsNewLink {E S : Type 0} (number size : ℕ) (engine : E) (on_attention : OnAttention)
    (link : Link E S) : Type 0 where
  pub numbered : link.number ≡ number
  pub uncut : link.is_cut ≡ false
  pub server : link.server ≡ server_with on_attention engine
  pub client_reader : link.client_reader ≡ new_reader ToClient size
  pub server_reader : link.server_reader ≡ new_reader ToServer size
  pub to_server : link.to_server ≡ 0
  pub to_client : link.to_client ≡ 0
  pub current : link.current ≡ None
  pub past : link.past.items ≡ []

-- It is cut.
abbrev pub cut_of : {E S : Type 0} → Link E S → Link E S
cut_of link = record link {
  is_cut = true;
  server = lost_of link.server;
  current = option_map lost_record link.current;
}

-- Other counts of what is underway.
abbrev pub recounted : {E S : Type 0} → ℕ → ℕ → Link E S → Link E S
recounted up down link = record link { to_server = up; to_client = down }

-- The requests before the newest one, with it after them.
abbrev pub behind : List Record → Option Record → List Record
behind past None = past
behind past (Some r) = past ++ r ∷ []

-- All requests of a connection, the newest first.
abbrev pub newest_first : {E S : Type 0} → Link E S → List Record
newest_first link = reverse (behind link.past.items link.current)

-- The same of one that has its seat beside it.
abbrev pub newest_there : {E S : Type 0} → Seated E S → List Record
newest_there x = newest_first x.link

abbrev pub newest_held : {E S : Type 0} → Held E S → List Record
newest_held h = newest_first h.link

-- The newest request is asked now.
abbrev pub IsNewest : ℕ → Option Reset → Option Record → Type 0
IsNewest lease mark None = ⊥
IsNewest lease mark (Some r) = IsAsked lease mark r

-- The newest request stands with those before it, and the next one may come.
abbrev pub IsRetired : {E S : Type 0} → Link E S → Link E S → Type 0
IsRetired old new =
    (new.past.items ≡ behind old.past.items old.current)
    × (new ≡ record old { current = None; past = new.past })

-- A request was asked on it, under this lease and mark.
pub record IsAskedOn {E S : Type 0} (lease : ℕ) (mark : Option Reset) (old new : Link E S) : Type 0 where
  pub current : IsNewest lease mark new.current
  pub past : new.past.items ≡ behind old.past.items old.current
  pub rest : new ≡ record old { current = new.current; past = new.past }
