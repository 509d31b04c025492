-- A delivery to the client of a connection that stands for one of the model.
use Rattle.std.proofs.Common.{◌≡◌, ◌∙◌, ◌+◌, ◌-◌, ℕ, min, Bool, true, false, cond, ltb, refl, sym, ap, subst, Option, Some, None, option_map, List, [], ◌∷◌, ◌++◌, length, take, flat_map}
use Rattle.std.specs.Prelude.{is_none}
use Rattle.tds_client.specs.Session.{ClientSession, unless_idle}
use Rattle.tds_packet.specs.declared.kind.Direction.TheVariants.{ToServer, ToClient}
use Rattle.tds_packet.specs.Reading.{Reading}
use Rattle.tds_token.specs.declared.token.Token.{Token}
use Rattle.tds_world.specs.Arrivals.{client_acts, reach_client, to_client, drains, drained}
use Rattle.tds_world.specs.Connection.{Connection, In, down_underway, is_idle}
use Rattle.tds_world.specs.Deliveries.{IsDelivered}
use Rattle.tds_world.specs.declared.report.Place.{Place}
use Rattle.tds_world.specs.declared.report.Place.TheVariants as place
use Rattle.tds_world.specs.declared.report.RequestStatus.{RequestStatus}
use Rattle.tds_world.specs.Entries.{Up, Down, Step, Acknowledgement, up_bytes, down_bytes}
use Rattle.tds_world.specs.Lane.{Lane, passed, with_waiting}
use Rattle.tds_world.specs.Record.{Record, Open, gives, acknowledges, when, if_numbered}
use Rattle.tds_play.specs.Between.{IsLane, RepresentsEnds}
use Rattle.tds_ends.specs.Deliveries.{AllHeard, RefinesListens}
use Rattle.tds_play.specs.declared.link.Link.{Link}
use Rattle.tds_play.specs.Seats.{Seat, drained_at}
use Rattle.tds_play.specs.Listening.{told_in}
use Rattle.tds_play.specs.Pipe.{Pipe, traffic, carried, next_of}
use Rattle.tds_ends.specs.Stands.{MatchesClient}
use Rattle.tds_ends.specs.Stays.{RefinesIdle, PoolIsUnseen, ServerStays}
use Rattle.tds_play.proofs.Between.{offered_front, lane_delivered, lane_stuck}

-- ---- What comes is heard

-- A client that is fed the bytes of entries hears those that come whole as the model does.
abbrev pub ListensAll : Type 0
ListensAll = (r : Reading) (c : Connection) (es : List Down) (k : ℕ) (s : ClientSession) (settled : Option RequestStatus) (told : List Token) → AllHeard r c es → MatchesClient s c → RefinesListens r (take k (flat_map down_bytes es)) c (reach_client c es k) s settled told

pub come_heard : {E S : Type 0} → ListensAll → (link : Link E S) (seat : Seat) (pipe : Option Pipe) (c : Connection) (most n : ℕ) → RepresentsEnds link seat pipe c → n ≡ min most link.to_client → AllHeard link.client_reader c c.to_client.waiting → RefinesListens link.client_reader (link.client_reader.taken ++ next_of (traffic pipe ToClient) n) c (reach_client c c.to_client.waiting (c.to_client.part + min most (down_underway c))) seat.client None (told_in link.current)
come_heard listens link seat pipe c most n s count all =
    let k : ℕ = c.to_client.part + min most (down_underway c) in
    let same : c.to_client.part + n ≡ k = ap (λ (x : ℕ). c.to_client.part + x) (count ∙ ap (min most) s.down.counts) in
    let bytes : link.client_reader.taken ++ next_of (traffic pipe ToClient) n ≡ take k (flat_map down_bytes c.to_client.waiting) =
    offered_front down_bytes (traffic pipe ToClient) c.to_client link.client_reader.taken link.to_client n s.down
    ∙ ap (λ (x : ℕ). take x (flat_map down_bytes c.to_client.waiting)) same in
    subst (λ (bs : List ℕ). RefinesListens link.client_reader bs c (reach_client c c.to_client.waiting k) seat.client None (told_in link.current)) (sym bytes)
    (listens link.client_reader c c.to_client.waiting k seat.client None (told_in link.current) all s.client)

-- ---- The requests

-- What of a request no answer changes.
abbrev pub bare : Record → Record
bare q = record q { given = []; fate = Open }

-- What of a connection no answer changes.
pub record HearsBeside (c d : Connection) : Type 0 where
  pub to_server : d.to_server ≡ c.to_server
  pub current : option_map bare d.current ≡ option_map bare c.current
  pub standing : d.standing ≡ c.standing

beside_then : (b c d : Connection) → HearsBeside b c → HearsBeside c d → HearsBeside b d
beside_then b c d f g = record { to_server = g.to_server ∙ f.to_server; current = g.current ∙ f.current; standing = g.standing ∙ f.standing }

beside_either : (b : Bool) (c x y : Connection) → HearsBeside c x → HearsBeside c y → HearsBeside c (cond b x y)
beside_either true c x y f g = f
beside_either false c x y f g = g

bare_when : (b : Bool) (f : Record → Record) (q : Record) → bare (f q) ≡ bare q → bare (when b f q) ≡ bare q
bare_when true f q e = e
bare_when false f q e = refl

bare_in : (r : ℕ) (f : Record → Record) (o : Option Record) → ((q : Record) → bare (f q) ≡ bare q) → option_map bare (option_map (if_numbered r f) o) ≡ option_map bare o
bare_in r f None all = refl
bare_in r f (Some q) all = ap (λ x. Some x) (bare_when _ f q (all q))

acts_beside : (c : Connection) (e : Down) → HearsBeside c (client_acts (record c { to_client = passed e c.to_client }) e)
acts_beside c (Step r place s) = record { to_server = refl; current = bare_in r (gives s) c.current (λ q. refl); standing = refl }
acts_beside c (Acknowledgement r place changes) = record { to_server = refl; current = bare_in r acknowledges c.current (λ q. refl); standing = refl }

pub reach_beside : (c : Connection) (es : List Down) (k : ℕ) → HearsBeside c (reach_client c es k)
reach_beside c [] k = record { to_server = refl; current = refl; standing = refl }
reach_beside c (e ∷ es) k =
    let d : Connection = client_acts (record c { to_client = passed e c.to_client }) e in
    beside_either (ltb k (length (down_bytes e))) c (record c { to_client = with_waiting (e ∷ es) k c.to_client }) (reach_client d es (k - length (down_bytes e)))
    (record { to_server = refl; current = refl; standing = refl })
    (beside_then c d (reach_client d es (k - length (down_bytes e))) (acts_beside c e) (reach_beside d es (k - length (down_bytes e))))

-- ---- Where it stands

drained_by : (idle : Bool) (p : Place) → In (drained_at idle p) ≡ drained idle (In p)
drained_by true (place.Leased lease) = refl
drained_by true (place.Kept ticket) = refl
drained_by true place.Free = refl
drained_by true place.Draining = refl
drained_by false p = refl

-- A connection that is drained stands where the model's does.
pub stands_drained : RefinesIdle → (s : ClientSession) (d : Connection) (p : Place) → MatchesClient s d → d.standing ≡ In p → In (drained_at (is_none (unless_idle s.stage)) p) ≡ (drains d).standing
stands_drained waits s d p m is =
    drained_by (is_none (unless_idle s.stage)) p
    ∙ ap (λ b. drained b (In p)) (waits s d m)
    ∙ ap (drained (is_idle d)) (sym is)

-- ---- The connection then

-- What the player's connection is behind the delivery, field by field.
pub record Heard {E S : Type 0} (old new : Link E S) (pipe after : Option Pipe) (n : ℕ) (left : List ℕ) : Type 0 where
  pub server : new.server ≡ old.server
  pub client_reader : new.client_reader.taken ≡ left
  pub server_reader : new.server_reader ≡ old.server_reader
  pub to_server : new.to_server ≡ old.to_server
  pub to_client : new.to_client ≡ old.to_client - n
  pub stuck : ℕ
  pub up : traffic after ToServer ≡ traffic pipe ToServer
  pub down : traffic after ToClient ≡ record (carried (traffic pipe ToClient) (next_of (traffic pipe ToClient) n)) { carry_failures = stuck }

pub heard_alike : {E S : Type 0} → PoolIsUnseen E → ((most : ℕ) → ServerStays E (to_client most)) → (old new : Link E S) (seat next : Seat) (pipe after : Option Pipe) (c : Connection) (most n : ℕ) (session : ClientSession) (left : List ℕ)
    → RepresentsEnds old seat pipe c → n ≡ min most old.to_client
    → IsDelivered down_bytes most c.to_client (to_client most c).to_client
    → MatchesClient session (reach_client c c.to_client.waiting (c.to_client.part + min most (down_underway c)))
    → left ≡ take (to_client most c).to_client.part (flat_map down_bytes (to_client most c).to_client.waiting)
    → Heard old new pipe after n left → next.client ≡ session
    → RepresentsEnds new next after (to_client most c)
heard_alike unseen stays old new seat next pipe after c most n session left s count lanes m rest h is =
    let k : ℕ = c.to_client.part + min most (down_underway c) in
    let d : Connection = reach_client c c.to_client.waiting k in
    let w : Connection = to_client most c in
    let beside = reach_beside c c.to_client.waiting k in
    let drained_too : MatchesClient session w = unseen.client w.standing session d m in
    let up : IsLane up_bytes (traffic pipe ToServer) w.to_server old.server_reader.taken old.to_server = subst (λ (l : Lane Up). IsLane up_bytes (traffic pipe ToServer) l old.server_reader.taken old.to_server) (sym beside.to_server) s.up in
    let down : IsLane down_bytes (record (carried (traffic pipe ToClient) (next_of (traffic pipe ToClient) (min most old.to_client))) { carry_failures = h.stuck }) w.to_client left (old.to_client - min most old.to_client) =
    lane_stuck down_bytes (carried (traffic pipe ToClient) (next_of (traffic pipe ToClient) (min most old.to_client))) h.stuck w.to_client left (old.to_client - min most old.to_client) (lane_delivered down_bytes most (traffic pipe ToClient) c.to_client w.to_client old.client_reader.taken left old.to_client s.down lanes rest) in
    record {
      client = rw is drained_too;
      server = rw h.server (stays most old.server c s.server);
      up = rw (h.up, h.server_reader, h.to_server) up;
      down = rw (h.down, h.client_reader, h.to_client, count) down;
    }
