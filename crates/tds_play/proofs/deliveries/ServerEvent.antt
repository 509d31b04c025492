-- A delivery to the server of a connection that stands for one of the model.
use Rattle.std.specs.Prelude.{◌||◌}
use Rattle.std.proofs.Common.{◌≡◌, ◌≢◌, ◌≤◌, ◌∙◌, ◌+◌, ◌-◌, ℕ, min, Bool, true, false, refl, sym, ap, subst, Option, Some, None, Result, Ok, List, [], ◌∷◌, ◌++◌, length, take, flat_map, append-nil, arith}
use Rattle.tds_packet.specs.declared.kind.Direction.TheVariants.{ToServer, ToClient}
use Rattle.tds_packet.specs.Reading.{Reading}
use Rattle.tds_server.specs.State.{ServerState}
use Rattle.tds_session.specs.Answer.{Answers}
use Rattle.tds_world.specs.Arrivals.{reach_server, to_server}
use Rattle.tds_world.specs.Connection.{Connection, up_underway, down_underway}
use Rattle.tds_world.specs.Deliveries.{IsDelivered}
use Rattle.tds_world.specs.Entries.{Up, up_bytes, down_bytes}
use Rattle.tds_world.specs.Lane.{underway}
use Rattle.tds_play.specs.Between.{IsLane, RepresentsEnds}
use Rattle.tds_ends.specs.Deliveries.{AllArrive, RefinesServes}
use Rattle.tds_play.specs.Pipe.{Pipe, Traffic, traffic, brought_on, carried, next_of, sent, sent_on, IsOpen}
use Rattle.tds_ends.specs.Stands.{MatchesServer}
use Rattle.tds_ends.specs.Stays.{ClientStays}
use Rattle.tds_play.specs.Ties.{saturated, counted, with_counted}
use Rattle.tds_play.specs.declared.link.Link.{Link}
use Rattle.tds_play.specs.Seats.{Seat}
use Rattle.tds_play.proofs.Between.{offered_front, lane_delivered, lane_sent, lane_stuck}

-- ---- What comes is served

-- A server that is fed the bytes of entries takes those that come whole as the model does.
abbrev pub ServesAll : Type 0 → Type 0
ServesAll E = (answers : Answers) (r : Reading) (c : Connection) (es : List Up) (k : ℕ) (s : ServerState E) (reply : List ℕ) → AllArrive E answers r c es → MatchesServer s c → RefinesServes E answers r (take k (flat_map up_bytes es)) c (reach_server answers c es k) s reply

pub come_served : {E S : Type 0} → ServesAll E → (answers : Answers) (link : Link E S) (seat : Seat) (pipe : Option Pipe) (c : Connection) (most n : ℕ) → RepresentsEnds link seat pipe c → n ≡ min most link.to_server → AllArrive E answers link.server_reader c c.to_server.waiting → RefinesServes E answers link.server_reader (link.server_reader.taken ++ next_of (traffic pipe ToServer) n) c (to_server answers most c) link.server []
come_served {E} serves answers link seat pipe c most n s count all =
    let k : ℕ = c.to_server.part + min most (up_underway c) in
    let same : c.to_server.part + n ≡ k = ap (λ (x : ℕ). c.to_server.part + x) (count ∙ ap (min most) s.up.counts) in
    let bytes : link.server_reader.taken ++ next_of (traffic pipe ToServer) n ≡ take k (flat_map up_bytes c.to_server.waiting) =
    offered_front up_bytes (traffic pipe ToServer) c.to_server link.server_reader.taken link.to_server n s.up
    ∙ ap (λ (x : ℕ). take x (flat_map up_bytes c.to_server.waiting)) same in
    subst (λ (bs : List ℕ). RefinesServes E answers link.server_reader bs c (to_server answers most c) link.server []) (sym bytes)
    (serves answers link.server_reader c c.to_server.waiting k link.server [] all s.server)

-- ---- What the carrier did

-- Nothing that is sent is no change.
pub sent_none : (t : Traffic) → t ≡ sent t [] 0
sent_none t =
    ap (λ (bs : List ℕ). record { handed = bs; came = t.came; send_failures = t.send_failures; carry_failures = t.carry_failures }) (sym (append-nil t.handed))
    ∙ ap (λ (n : ℕ). record { handed = t.handed ++ []; came = t.came; send_failures = n; carry_failures = t.carry_failures }) (omega (arith))

-- A carrier's connection when this came and that was handed over the other way, each of which may have
-- failed.
pub record Moved (pipe after : Option Pipe) (came reply : List ℕ) : Type 0 where
  pub stuck : ℕ
  pub failures : ℕ
  pub up : traffic after ToServer ≡ record (carried (traffic pipe ToServer) came) { carry_failures = stuck }
  pub down : traffic after ToClient ≡ sent (traffic pipe ToClient) reply failures

moved_by : (p : Pipe) (after : Option Pipe) (came reply : List ℕ) (lost : Bool) (k : ℕ) → (reply ≡ [] → after ≡ brought_on (Some p) ToServer came lost) → (reply ≢ [] → after ≡ sent_on (brought_on (Some p) ToServer came lost) ToClient reply k) → Moved (Some p) after came reply
moved_by p after came [] false k none some = record {
  stuck = p.to_server.carry_failures;
  failures = 0;
  up = ap (λ (o : Option Pipe). traffic o ToServer) (none refl);
  down = ap (λ (o : Option Pipe). traffic o ToClient) (none refl) ∙ sent_none p.to_client;
}
moved_by p after came [] true k none some = record {
  stuck = p.to_server.carry_failures + 1;
  failures = 0;
  up = ap (λ (o : Option Pipe). traffic o ToServer) (none refl);
  down = ap (λ (o : Option Pipe). traffic o ToClient) (none refl) ∙ sent_none p.to_client;
}
moved_by p after came (b ∷ bs) false k none some =
    let e = some (λ e. absurd (cc)) in
    record {
      stuck = p.to_server.carry_failures;
      failures = k;
      up = ap (λ (o : Option Pipe). traffic o ToServer) e;
      down = ap (λ (o : Option Pipe). traffic o ToClient) e;
    }
moved_by p after came (b ∷ bs) true k none some =
    let e = some (λ e. absurd (cc)) in
    record {
      stuck = p.to_server.carry_failures + 1;
      failures = k;
      up = ap (λ (o : Option Pipe). traffic o ToServer) e;
      down = ap (λ (o : Option Pipe). traffic o ToClient) e;
    }

moved : (pipe mid after : Option Pipe) (came reply : List ℕ) (lost : Bool) (k : ℕ) → IsOpen pipe → mid ≡ brought_on pipe ToServer came lost → (reply ≡ [] → after ≡ mid) → (reply ≢ [] → after ≡ sent_on mid ToClient reply k) → Moved pipe after came reply
moved None mid after came reply lost k open_ is none some = absurd open_
moved (Some p) mid after came reply lost k open_ is none some =
    moved_by p after came reply lost k (λ empty. none empty ∙ is) (λ full. some full ∙ ap (λ (o : Option Pipe). sent_on o ToClient reply k) is)

-- ---- The connection then

-- What the player's connection is behind the delivery, field by field; the carrier may have failed.
pub record Delivered {E S : Type 0} (old new : Link E S) (pipe after : Option Pipe) (n : ℕ) (server : ServerState E) (rest reply : List ℕ) : Type 0 where
  server_is : new.server ≡ server
  client_reader : new.client_reader ≡ old.client_reader
  server_reader : new.server_reader.taken ≡ rest
  to_server : new.to_server ≡ old.to_server - n
  to_client : (reply ≡ [] → new.to_client ≡ old.to_client) × (reply ≢ [] → new.to_client ≡ saturated (old.to_client + length reply))
  moved : Moved pipe after (next_of (traffic pipe ToServer) n) reply

pub count_by : (old new : ℕ) (reply : List ℕ) → (reply ≡ [] → new ≡ old) → (reply ≢ [] → new ≡ saturated (old + length reply)) → old + length reply ≤ 18446744073709551615 → new ≡ old + length reply
count_by old new [] none some few = none refl ∙ omega (arith)
count_by old new (b ∷ bs) none some few =
    let e : new ≡ saturated (old + length (b ∷ bs)) = some (λ e. absurd (cc)) in
    e ∙ omega (arith, few)

pub delivered_alike : {E S : Type 0} (answers : Answers) → ((most : ℕ) → ClientStays (to_server answers most)) → (old new : Link E S) (seat : Seat) (pipe after : Option Pipe) (c : Connection) (most n : ℕ) (bytes reply : List ℕ)
    → RepresentsEnds old seat pipe c → n ≡ min most old.to_server
    → IsDelivered up_bytes most c.to_server (to_server answers most c).to_server
    → down_underway (to_server answers most c) ≤ 18446744073709551615
    → (a : RefinesServes E answers old.server_reader bytes c (to_server answers most c) old.server [])
    → reply ≡ a.then.reply
    → Delivered old new pipe after n a.then.state a.rest reply
    → RepresentsEnds new seat after (to_server answers most c)
delivered_alike {E} answers stays old new seat pipe after c most n bytes reply s count lanes few a told d =
    let w : Connection = to_server answers most c in
    let more : List ℕ = a.sends.0 in
    let m = d.moved in
    let same : reply ≡ more = told ∙ a.sends.1 in
    let down : IsLane down_bytes (sent (traffic pipe ToClient) more m.failures) w.to_client old.client_reader.taken (old.to_client + length more) = lane_sent down_bytes more m.failures (traffic pipe ToClient) c.to_client w.to_client old.client_reader.taken old.to_client (old.to_client + length more) s.down a.sends.2 refl in
    let now : underway down_bytes w.to_client ≡ old.to_client + length more = sym down.counts in
    let long : length reply ≡ length more = ap length same in
    let up : IsLane up_bytes (record (carried (traffic pipe ToServer) (next_of (traffic pipe ToServer) (min most old.to_server))) { carry_failures = m.stuck }) w.to_server a.rest (old.to_server - min most old.to_server) =
    lane_stuck up_bytes (carried (traffic pipe ToServer) (next_of (traffic pipe ToServer) (min most old.to_server))) m.stuck w.to_server a.rest (old.to_server - min most old.to_server)
    (lane_delivered up_bytes most (traffic pipe ToServer) c.to_server w.to_server old.server_reader.taken a.rest old.to_server s.up lanes a.left) in
    let counts : new.to_client ≡ old.to_client + length more = count_by old.to_client new.to_client reply d.to_client.0 d.to_client.1 (omega (arith, few, now, long)) ∙ ap (λ (k : ℕ). old.to_client + k) long in
    let below : traffic after ToClient ≡ sent (traffic pipe ToClient) more m.failures = m.down ∙ ap (λ (bs : List ℕ). sent (traffic pipe ToClient) bs m.failures) same in
    record {
      client = stays most seat.client c s.client;
      server = rw d.server_is a.matches;
      up = rw (m.up, d.server_reader, d.to_server, count) up;
      down = rw (below, d.client_reader, counts) down;
    }

-- No fault was told where none was found.
pub none_told : {A B : Type 0} (fault : A) (found : Option A) (r : Result (Option A) B) → found ≡ Some fault → r ≡ Ok found → r ≡ Ok None → ⊥
none_told fault found r e f h = absurd (cc)

pub both_false : (a b : Bool) → a || b ≡ false → (a ≡ false) × (b ≡ false)
both_false true b e = absurd (cc)
both_false false b e = (refl, e)

-- The connection behind the carrier's first call, behind the server's turn, and behind the second call.
pub delivered_by : {E S : Type 0} (old one two new : Link E S) (pipe mid after : Option Pipe) (n : ℕ) (rest reply : List ℕ) (lost : Bool) (failures : ℕ)
    → IsOpen pipe
    → one ≡ with_counted old ToServer (old.to_server - n)
    → two ≡ record one { server = two.server; server_reader = two.server_reader }
    → two.server_reader.taken ≡ rest
    → mid ≡ brought_on pipe ToServer (next_of (traffic pipe ToServer) n) lost
    → (reply ≡ [] → (new ≡ two) × (after ≡ mid))
    → (reply ≢ [] → (new ≡ with_counted two ToClient (saturated (counted two ToClient + length reply))) × (after ≡ sent_on mid ToClient reply failures))
    → Delivered old new pipe after n two.server rest reply
delivered_by old one two new pipe mid after n rest [] lost failures open_ first second taken came none some =
    let e : new ≡ two = (none refl).0 in
    record {
      server_is = ap (λ l. l.server) e;
      client_reader = ap (λ l. l.client_reader) (e ∙ second) ∙ ap (λ l. l.client_reader) first;
      server_reader = ap (λ l. l.server_reader.taken) e ∙ taken;
      to_server = ap (λ l. l.to_server) (e ∙ second) ∙ ap (λ l. l.to_server) first;
      to_client = (λ x. ap (λ l. l.to_client) (e ∙ second) ∙ ap (λ l. l.to_client) first, λ x. absurd (x refl));
      moved = moved pipe mid after (next_of (traffic pipe ToServer) n) [] lost failures open_ came (λ x. (none x).1) (λ x. (some x).1);
    }
delivered_by old one two new pipe mid after n rest (b ∷ bs) lost failures open_ first second taken came none some =
    let full : b ∷ bs ≢ [] = λ e. absurd (cc) in
    let e = (some full).0 in
    let count : two.to_client ≡ old.to_client = ap (λ l. l.to_client) second ∙ ap (λ l. l.to_client) first in
    record {
      server_is = ap (λ l. l.server) e;
      client_reader = ap (λ l. l.client_reader) e ∙ ap (λ l. l.client_reader) second ∙ ap (λ l. l.client_reader) first;
      server_reader = ap (λ l. l.server_reader.taken) e ∙ taken;
      to_server = ap (λ l. l.to_server) e ∙ ap (λ l. l.to_server) second ∙ ap (λ l. l.to_server) first;
      to_client = (λ x. absurd (full x), λ x. ap (λ l. l.to_client) e ∙ ap (λ (k : ℕ). saturated (k + length (b ∷ bs))) count);
      moved = moved pipe mid after (next_of (traffic pipe ToServer) n) (b ∷ bs) lost failures open_ came (λ x. (none x).1) (λ x. (some x).1);
    }
