-- What a delivery makes arrive is the longest front that has come.
use Rattle.std.proofs.Common.{◌≡◌, ℕ, List, [], ◌∷◌, ◌++◌, ◌+◌, ◌-◌, ◌≤◌, ◌<◌, Bool, true, false, cond, ltb, min, refl, sym, ap, subst, ◌∙◌, length, arith, flat_map}
use Rattle.std.proofs.lemmas.Bool.Decides.{nat_tests}
use Rattle.std.proofs.lemmas.Grind.{flat_map-append}
use Rattle.std.proofs.lemmas.List.{append-nil, append_assoc, length-append}
use Rattle.tds_session.specs.Answer.{Answers}
use Rattle.tds_world.specs.declared.event.Setup.{Setup}
use Rattle.tds_world.specs.Arrivals.{server_acts, client_acts, reach_server, reach_client, to_server, to_client}
use Rattle.tds_world.specs.Caller.{cancels_by, sends_by}
use Rattle.tds_world.specs.Connection.{Connection, up_underway, down_underway}
use Rattle.tds_world.specs.Deliveries.{IsDelivered, DeliversOn, DeliversExactly}
use Rattle.tds_world.specs.Entries.{Up, Part, End, Drop, Attention, Down, Step, Acknowledgement, up_bytes, down_bytes}
use Rattle.tds_world.specs.Events.{world_after}
use Rattle.tds_world.specs.Lane.{Lane, append, passed, IsLongestFront, underway}
use Rattle.tds_world.specs.Laws.{Always}
use Rattle.tds_world.specs.Phase.{Phase, Settled, Asked, Sending, Reading, Cancelling}
use Rattle.tds_world.specs.Record.{Record}
use Rattle.tds_world.specs.World.{new_world}
use Rattle.tds_world.proofs.events.Moves.{KeptByMoves, by_moves}
use Rattle.tds_world.proofs.events.Words.{by_test}
use Rattle.tds_world.proofs.events.Worlds.{Any, Kept, always, each_follows}

-- No more bytes have come of what waits than there are.
abbrev pub Within : {Entry : Type 0} → (Entry → List ℕ) → Lane Entry → Type 0
Within bytes lane = lane.part ≤ length (flat_map bytes lane.waiting)

-- Of these entries k bytes have come, and the lane became this one.
pub record Reached {Entry : Type 0} (bytes : Entry → List ℕ) (entries : List Entry) (k : ℕ) (arrived : List Entry) (new : Lane Entry) : Type 0 where
  pub front : List Entry
  pub longest : IsLongestFront bytes entries k front new.waiting
  pub came : new.arrived ≡ arrived ++ front
  pub part : length (flat_map bytes front) + new.part ≡ k

less_of : (b : Bool) (k n : ℕ) → ltb k n ≡ b → cond b (k < n) (n ≤ k)
less_of true k n e = grind (arith, nat_tests)
less_of false k n e = grind (arith, nat_tests)

none_reached : {Entry : Type 0} (bytes : Entry → List ℕ) (k : ℕ) (arrived : List Entry) → k ≤ 0 → Reached bytes [] k arrived (record { arrived = arrived; waiting = []; part = 0 })
none_reached bytes k arrived h = record {
  front = [];
  longest = record { split = refl; fits = omega arith; longest = λ e es z. absurd (cc) };
  came = sym (append-nil arrived);
  part = omega arith;
}

part_reached : {Entry : Type 0} (bytes : Entry → List ℕ) (e : Entry) (es : List Entry) (k : ℕ) (arrived : List Entry) → k < length (bytes e) → Reached bytes (e ∷ es) k arrived (record { arrived = arrived; waiting = e ∷ es; part = k })
part_reached bytes e es k arrived h = record {
  front = [];
  longest = record {
    split = refl;
    fits = omega arith;
    longest = λ d ds z. let same : e ≡ d = cc in subst (λ x. k < 0 + length (bytes x)) same (omega arith);
  };
  came = sym (append-nil arrived);
  part = omega arith;
}

more_reached : {Entry : Type 0} (bytes : Entry → List ℕ) (e : Entry) (es : List Entry) (k : ℕ) (arrived : List Entry) (new : Lane Entry) → length (bytes e) ≤ k → Reached bytes es (k - length (bytes e)) (arrived ++ e ∷ []) new → Reached bytes (e ∷ es) k arrived new
more_reached bytes e es k arrived new h r =
    let size : length (flat_map bytes (e ∷ r.front)) ≡ length (bytes e) + length (flat_map bytes r.front) = length-append (bytes e) (flat_map bytes r.front) in
    let fits : length (flat_map bytes r.front) ≤ k - length (bytes e) = r.longest.fits in
    let part : length (flat_map bytes r.front) + new.part ≡ k - length (bytes e) = r.part in
    record {
      front = e ∷ r.front;
      longest = record {
        split = ap (λ xs. e ∷ xs) r.longest.split;
        fits = rw size (omega arith);
        longest = λ d ds z. let below : k - length (bytes e) < length (flat_map bytes r.front) + length (bytes d) = r.longest.longest d ds z in rw size (omega arith);
      };
      came = r.came ∙ append_assoc arrived (e ∷ []) r.front;
      part = rw size (omega arith);
    }

-- What is within stays so.
rest_within : {Entry : Type 0} (bytes : Entry → List ℕ) (entries : List Entry) (k : ℕ) (arrived : List Entry) (new : Lane Entry) → k ≤ length (flat_map bytes entries) → Reached bytes entries k arrived new → Within bytes new
rest_within bytes entries k arrived new h r =
    let split : entries ≡ r.front ++ new.waiting = r.longest.split in
    let whole : length (flat_map bytes entries) ≡ length (flat_map bytes r.front) + length (flat_map bytes new.waiting) =
    ap (λ es. length (flat_map bytes es)) split
    ∙ (ap (λ bs. length bs) (flat_map-append bytes r.front new.waiting) ∙ length-append (flat_map bytes r.front) (flat_map bytes new.waiting)) in
    let part : length (flat_map bytes r.front) + new.part ≡ k = r.part in
    let most : k ≤ length (flat_map bytes r.front) + length (flat_map bytes new.waiting) = subst (λ n. k ≤ n) whole h in
    omega arith

pub append_within : {Entry : Type 0} (bytes : Entry → List ℕ) (e : Entry) (lane : Lane Entry) → Within bytes lane → Within bytes (append e lane)
append_within bytes e lane h =
    let size : length (flat_map bytes (lane.waiting ++ e ∷ [])) ≡ length (flat_map bytes lane.waiting) + length (flat_map bytes (e ∷ [])) =
    ap (λ bs. length bs) (flat_map-append bytes lane.waiting (e ∷ [])) ∙ length-append (flat_map bytes lane.waiting) (flat_map bytes (e ∷ [])) in
    let whole : lane.part ≤ length (flat_map bytes lane.waiting) = h in
    rw size (omega arith)

-- Both lanes.
abbrev pub LanesWithin : Connection → Type 0
LanesWithin c = Within up_bytes c.to_server × Within down_bytes c.to_client

-- ---- Deliveries

come_less : {Entry : Type 0} (bytes : Entry → List ℕ) (e : Entry) (es : List Entry) (k : ℕ) → k ≤ length (flat_map bytes (e ∷ es)) → k - length (bytes e) ≤ length (flat_map bytes es)
come_less bytes e es k h =
    let size : length (flat_map bytes (e ∷ es)) ≡ length (bytes e) + length (flat_map bytes es) = length-append (bytes e) (flat_map bytes es) in
    let most : k ≤ length (bytes e) + length (flat_map bytes es) = subst (λ n. k ≤ n) size h in
    omega arith

come_none : {Entry : Type 0} (bytes : Entry → List ℕ) (k : ℕ) → k ≤ length (flat_map bytes []) → k ≤ 0
come_none bytes k h = h

-- An entry that arrives at the server leaves the lane to it as it is, and one at the client the lane
-- to that.
server_leaves : (answers : Answers) (c : Connection) (e : Up) → (server_acts answers c e).to_server ≡ c.to_server
server_leaves answers c (Part r p) = refl
server_leaves answers c e = refl

client_leaves : (c : Connection) (e : Down) → (client_acts c e).to_client ≡ c.to_client
client_leaves c (Step r place s) = refl
client_leaves c (Acknowledgement r place changes) = refl

client_leaves_other : (c : Connection) (e : Down) → (client_acts c e).to_server ≡ c.to_server
client_leaves_other c (Step r place s) = refl
client_leaves_other c (Acknowledgement r place changes) = refl

server_within : (answers : Answers) (c : Connection) (e : Up) → Within down_bytes c.to_client → Within down_bytes (server_acts answers c e).to_client
server_within answers c (Part r p) h = h
server_within answers c (End r a p) h = h
server_within answers c (Drop r p) h = h
server_within answers c (Attention r) h = append_within down_bytes _ c.to_client h

-- What a delivery to the server does to both lanes.
abbrev ServerReached : Connection → List Up → ℕ → Connection → Type 0
ServerReached c entries k d = Reached up_bytes entries k c.to_server.arrived d.to_server × Within down_bytes d.to_client

server_reached : (answers : Answers) (c : Connection) (es : List Up) (k : ℕ) → k ≤ length (flat_map up_bytes es) → Within down_bytes c.to_client → ServerReached c es k (reach_server answers c es k)
server_reached answers c [] k h w = (none_reached up_bytes k c.to_server.arrived (come_none up_bytes k h), w)
server_reached answers c (e ∷ es) k h w =
    let p : Connection = record c { to_server = passed e c.to_server } in
    let ih : ServerReached (server_acts answers p e) es (k - length (up_bytes e)) (reach_server answers (server_acts answers p e) es (k - length (up_bytes e))) =
    server_reached answers (server_acts answers p e) es (k - length (up_bytes e)) (come_less up_bytes e es k h) (server_within answers p e w) in
    let lane : (server_acts answers p e).to_server.arrived ≡ c.to_server.arrived ++ e ∷ [] = ap (λ l. l.arrived) (server_leaves answers p e) in
    by_test (ServerReached c (e ∷ es) k) (ltb k (length (up_bytes e)))
    (record c { to_server = record c.to_server { waiting = e ∷ es; part = k } })
    (reach_server answers (server_acts answers p e) es (k - length (up_bytes e)))
    (λ t. (part_reached up_bytes e es k c.to_server.arrived (less_of true k (length (up_bytes e)) t), w))
    (λ t. (
      more_reached up_bytes e es k c.to_server.arrived (reach_server answers (server_acts answers p e) es (k - length (up_bytes e))).to_server
          (less_of false k (length (up_bytes e)) t)
          (subst (λ xs. Reached up_bytes es (k - length (up_bytes e)) xs (reach_server answers (server_acts answers p e) es (k - length (up_bytes e))).to_server) lane ih.0),
      ih.1,
    ))

-- What one to the client does.
abbrev ClientReached : Connection → List Down → ℕ → Connection → Type 0
ClientReached c entries k d = Reached down_bytes entries k c.to_client.arrived d.to_client × (d.to_server ≡ c.to_server)

client_reached : (c : Connection) (es : List Down) (k : ℕ) → k ≤ length (flat_map down_bytes es) → ClientReached c es k (reach_client c es k)
client_reached c [] k h = (none_reached down_bytes k c.to_client.arrived (come_none down_bytes k h), refl)
client_reached c (e ∷ es) k h =
    let p : Connection = record c { to_client = passed e c.to_client } in
    let ih : ClientReached (client_acts p e) es (k - length (down_bytes e)) (reach_client (client_acts p e) es (k - length (down_bytes e))) =
    client_reached (client_acts p e) es (k - length (down_bytes e)) (come_less down_bytes e es k h) in
    let lane : (client_acts p e).to_client.arrived ≡ c.to_client.arrived ++ e ∷ [] = ap (λ l. l.arrived) (client_leaves p e) in
    by_test (ClientReached c (e ∷ es) k) (ltb k (length (down_bytes e)))
    (record c { to_client = record c.to_client { waiting = e ∷ es; part = k } })
    (reach_client (client_acts p e) es (k - length (down_bytes e)))
    (λ t. (part_reached down_bytes e es k c.to_client.arrived (less_of true k (length (down_bytes e)) t), refl))
    (λ t. (
      more_reached down_bytes e es k c.to_client.arrived (reach_client (client_acts p e) es (k - length (down_bytes e))).to_client
          (less_of false k (length (down_bytes e)) t)
          (subst (λ xs. Reached down_bytes es (k - length (down_bytes e)) xs (reach_client (client_acts p e) es (k - length (down_bytes e))).to_client) lane ih.0),
      ih.1 ∙ client_leaves_other p e,
    ))

-- No more bytes come than there are.
come_within : {Entry : Type 0} (bytes : Entry → List ℕ) (lane : Lane Entry) (n : ℕ) → Within bytes lane → lane.part + min n (underway bytes lane) ≤ length (flat_map bytes lane.waiting)
come_within bytes lane n h =
    let whole : lane.part ≤ length (flat_map bytes lane.waiting) = h in omega arith

delivered_of : {Entry : Type 0} (bytes : Entry → List ℕ) (n : ℕ) (old new : Lane Entry) → Reached bytes old.waiting (old.part + min n (underway bytes old)) old.arrived new → IsDelivered bytes n old new
delivered_of bytes n old new r = record { front = r.front; longest = r.longest; arrived = r.came; part = r.part }

pub to_server_reached : (answers : Answers) (n : ℕ) (c : Connection) → LanesWithin c → ServerReached c c.to_server.waiting (c.to_server.part + min n (up_underway c)) (to_server answers n c)
to_server_reached answers n c w =
    server_reached answers c c.to_server.waiting (c.to_server.part + min n (up_underway c)) (come_within up_bytes c.to_server n w.0) w.1

pub to_client_reached : (n : ℕ) (c : Connection) → LanesWithin c → ClientReached c c.to_client.waiting (c.to_client.part + min n (down_underway c)) (to_client n c)
to_client_reached n c w =
    client_reached c c.to_client.waiting (c.to_client.part + min n (down_underway c)) (come_within down_bytes c.to_client n w.1)

delivers : (answers : Answers) (c : Connection) → LanesWithin c → DeliversOn answers c
delivers answers c w n = (
  delivered_of up_bytes n c.to_server (to_server answers n c).to_server (to_server_reached answers n c w).0,
  delivered_of down_bytes n c.to_client (to_client n c).to_client (to_client_reached n c w).0,
)

-- ---- Each move keeps both lanes within

server_keeps : (answers : Answers) (c : Connection) (e : Up) → LanesWithin c → LanesWithin (server_acts answers (record c { to_server = passed e c.to_server }) e)
server_keeps answers c (Part r p) w = w
server_keeps answers c (End r a p) w = w
server_keeps answers c (Drop r p) w = w
server_keeps answers c (Attention r) w = (w.0, append_within down_bytes _ c.to_client w.1)

client_keeps : (c : Connection) (e : Down) → LanesWithin c → LanesWithin (client_acts (record c { to_client = passed e c.to_client }) e)
client_keeps c (Step r place s) w = w
client_keeps c (Acknowledgement r place changes) w = w

cancels_within : (p : Phase) (q : Record) (c : Connection) → LanesWithin c → LanesWithin (cancels_by p q c)
cancels_within Settled q c w = w
cancels_within Asked q c w = w
cancels_within Sending q c w = (append_within up_bytes _ (append _ c.to_server) (append_within up_bytes _ c.to_server w.0), w.1)
cancels_within Reading q c w = (append_within up_bytes _ c.to_server w.0, w.1)
cancels_within Cancelling q c w = w

pub sends_within : (b : Bool) (room : ℕ) (q : Record) (c : Connection) → LanesWithin c → LanesWithin (sends_by b room q c)
sends_within true room q c w = (append_within up_bytes _ c.to_server w.0, w.1)
sends_within false room q c w = (append_within up_bytes _ c.to_server w.0, w.1)

nothing_within : 0 ≤ 0
nothing_within = omega arith

-- What waits is less only where a delivery ends, and then no more has come than there is.
pub within_moves : (setup : Setup) (answers : Answers) → KeptByMoves setup answers (λ c ups downs. LanesWithin c)
within_moves setup answers = record {
  opened = λ lease. (nothing_within, nothing_within);
  stands = λ c m s h. h;
  asked = λ number lease n q c x is f h. h;
  sent = λ last q c is at b f h. sends_within last (setup.packet_size - 8) q c h;
  cancelled = λ p q c is at f h. cancels_within p q c h;
  worked = λ c s ss is f h. (h.0, append_within down_bytes _ c.to_client h.1);
  at_server = λ c e es f h. server_keeps answers c e h;
  at_client = λ c e es f h. client_keeps c e h;
  server_waits = λ c es k m h. (m, h.1);
  client_waits = λ c es k m h. (h.0, m);
}

pub within_kept : (setup : Setup) (answers : Answers) → Kept setup answers Any LanesWithin
within_kept setup answers = by_moves setup answers (λ c ups downs. LanesWithin c) (within_moves setup answers)

pub delivers_exactly : (setup : Setup) (answers : Answers) → Always setup answers (DeliversExactly answers)
delivers_exactly setup answers events =
    each_follows LanesWithin (DeliversOn answers)
    (world_after setup answers events new_world).connections (delivers answers)
    (always LanesWithin setup answers events (within_kept setup answers))
