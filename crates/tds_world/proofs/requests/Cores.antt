-- What of a request changes only when it is asked and when it first runs: its number, its lease, its
-- connection, what it asks and the session that it ran in.
use Rattle.std.proofs.Common.{◌≡◌, ℕ, List, [], ◌∷◌, ◌++◌, map, Bool, true, false, refl, sym, ap, ◌∙◌, Option, Some, None, option_map}
use Rattle.tds_session.specs.Answer as answer
use Rattle.tds_session.specs.Answer.{Answers}
use Rattle.tds_session.specs.Session.{SessionState}
use Rattle.tds_world.specs.Arrivals.{server_acts, client_acts}
use Rattle.tds_world.specs.Caller.{cancels_by, sends_by}
use Rattle.tds_world.specs.Connection.{Connection, joined}
use Rattle.tds_world.specs.Entries.{Asking, Up, Part, Down, Step, Acknowledgement}
use Rattle.tds_world.specs.Lane.{passed}
use Rattle.tds_world.specs.Phase.{Phase, Settled, Asked, Sending, Reading, Cancelling}
use Rattle.tds_world.specs.Record.{Record, gives, acknowledges, when, if_numbered}

pub record Core : Type 0 where
  pub number : ℕ
  pub lease : ℕ
  pub conn : ℕ
  pub asking : Asking
  pub ran : Option SessionState

abbrev pub core_of : Record → Core
core_of q = record { number = q.number; lease = q.lease; conn = q.conn; asking = q.asking; ran = q.ran }

abbrev pub past_of : Connection → List Core
past_of c = map core_of c.past

abbrev pub newest_of : Connection → Option Core
newest_of c = option_map core_of c.current

-- The requests of d have the cores of those of c.
abbrev pub SameCores : Connection → Connection → Type 0
SameCores c d = (past_of d ≡ past_of c) × (newest_of d ≡ newest_of c)

then_same : (b c d : Connection) → SameCores b c → SameCores c d → SameCores b d
then_same b c d f g = (g.0 ∙ f.0, g.1 ∙ f.1)

-- A change of the record of a number that leaves its core.
core_when : (b : Bool) (f : Record → Record) (q : Record) → core_of (f q) ≡ core_of q → core_of (when b f q) ≡ core_of q
core_when true f q e = e
core_when false f q e = refl

pub map_cores : (f : Record → Record) (qs : List Record) → ((q : Record) → core_of (f q) ≡ core_of q) → map core_of (map f qs) ≡ map core_of qs
map_cores f [] k = refl
map_cores f (q ∷ qs) k = ap (λ x. x ∷ map core_of (map f qs)) (k q) ∙ ap (λ xs. core_of q ∷ xs) (map_cores f qs k)

pub option_cores : (f : Record → Record) (o : Option Record) → ((q : Record) → core_of (f q) ≡ core_of q) → option_map core_of (option_map f o) ≡ option_map core_of o
option_cores f None k = refl
option_cores f (Some q) k = ap (λ x. Some x) (k q)

pub gives_core : (r : ℕ) (s : answer.Step) (q : Record) → core_of (if_numbered r (gives s) q) ≡ core_of q
gives_core r s q = core_when _ (gives s) q refl

acknowledges_core : (r : ℕ) (q : Record) → core_of (if_numbered r acknowledges q) ≡ core_of q
acknowledges_core r q = core_when _ acknowledges q refl

pub client_same : (c : Connection) (e : Down) → SameCores c (client_acts (record c { to_client = passed e c.to_client }) e)
client_same c (Step r place s) = (map_cores (if_numbered r (gives s)) c.past (gives_core r s), option_cores (if_numbered r (gives s)) c.current (gives_core r s))
client_same c (Acknowledgement r place changes) = (map_cores (if_numbered r acknowledges) c.past (acknowledges_core r), option_cores (if_numbered r acknowledges) c.current (acknowledges_core r))

pub server_same : (answers : Answers) (c : Connection) (e : Up) → SameCores c (server_acts answers (record c { to_server = passed e c.to_server }) e)
server_same answers c (Part r p) = (refl, refl)
server_same answers c e = (refl, refl)

newest_same : (q : Record) (o : Option Record) → o ≡ Some q → option_map core_of (Some q) ≡ option_map core_of o
newest_same q o e = sym (ap (option_map core_of) e)

pub cancels_same_by : (p : Phase) (q : Record) (c : Connection) → c.current ≡ Some q → SameCores c (cancels_by p q c)
cancels_same_by Settled q c e = (refl, refl)
cancels_same_by Cancelling q c e = (refl, refl)
cancels_same_by Asked q c e = (refl, newest_same q c.current e)
cancels_same_by Sending q c e = (refl, newest_same q c.current e)
cancels_same_by Reading q c e = (refl, newest_same q c.current e)

pub sends_same : (b : Bool) (room : ℕ) (q : Record) (c : Connection) → c.current ≡ Some q → SameCores c (sends_by b room q c)
sends_same true room q c e = (refl, newest_same q c.current e)
sends_same false room q c e = (refl, newest_same q c.current e)

-- All cores of a connection, in the order in which the requests were asked.
abbrev pub all_of : List Core → Option Core → List Core
all_of past None = past
all_of past (Some x) = past ++ x ∷ []

map_more : (qs : List Record) (q : Record) → map core_of (qs ++ q ∷ []) ≡ map core_of qs ++ core_of q ∷ []
map_more [] q = refl
map_more (p ∷ ps) q = ap (λ xs. core_of p ∷ xs) (map_more ps q)

pub joined_cores : (past : List Record) (current : Option Record) → map core_of (joined past current) ≡ all_of (map core_of past) (option_map core_of current)
joined_cores past None = refl
joined_cores past (Some q) = map_more past q
