-- What an event sends, from either end: the connection then, in a play and in the model.
use Rattle.std.proofs.Common.{◌≡◌, ◌≢◌, ◌≤◌, ◌∙◌, ◌+◌, ℕ, Bool, true, false, cond, refl, sym, ap, subst, Option, Some, None, List, [], ◌∷◌, ◌++◌, length, arith}
use Rattle.tds_client.specs.Session.{ClientSession}
use Rattle.tds_packet.specs.declared.kind.Direction.{Direction}
use Rattle.tds_packet.specs.declared.kind.Direction.TheVariants.{ToServer, ToClient}
use Rattle.tds_packet.specs.Reading.{Reading}
use Rattle.tds_server.specs.State.{ServerState}
use Rattle.tds_world.specs.declared.report.Place.{Place}
use Rattle.tds_world.specs.Connection.{Connection, In, up_underway, down_underway}
use Rattle.tds_world.specs.Entries.{Up, Down, up_bytes, down_bytes}
use Rattle.tds_world.specs.Lane.{Lane, sent_bytes, come_bytes}
use Rattle.tds_world.specs.Record as world
use Rattle.tds_play.specs.Between.{IsLane}
use Rattle.tds_play.specs.Lending.{standing_by}
use Rattle.tds_play.specs.Seats.{Seat, seated}
use Rattle.tds_play.specs.Pipe.{Pipe, Traffic, traffic, sent, sent_on, IsOpen}
use Rattle.tds_play.specs.Plays.{RepresentsConnection}
use Rattle.tds_play.specs.Requests.{AreOlder, IsNewest}
use Rattle.tds_ends.specs.Stands.{MatchesClient, MatchesServer, Sends}
use Rattle.tds_play.specs.Ties.{counted, saturated, with_counted}
use Rattle.tds_play.specs.declared.link.Link.{Link}
use Rattle.tds_play.specs.declared.request.Record.{Record}
use Rattle.tds_play.proofs.Between.{lane_came, lane_sent}
use Rattle.tds_play.proofs.deliveries.ServerEvent.{sent_none, count_by}

-- ---- Handing over

-- The traffic each way, where these bytes are handed over in this direction.
abbrev pub with_sent : Direction → Direction → Traffic → List ℕ → ℕ → Traffic
with_sent ToServer ToServer t bytes failures = sent t bytes failures
with_sent ToClient ToClient t bytes failures = sent t bytes failures
with_sent d way t bytes failures = t

-- These bytes were handed over, and counted; that may have failed.
pub record Handed {E S : Type 0} (d : Direction) (mid new : Link E S) (pipe after : Option Pipe) (bytes : List ℕ) : Type 0 where
  pub link : new ≡ with_counted mid d (counted new d)
  pub counts : counted mid d + length bytes ≤ 18446744073709551615 → counted new d ≡ counted mid d + length bytes
  pub failures : ℕ
  pub each : (way : Direction) → traffic after way ≡ with_sent d way (traffic pipe way) bytes failures

as_counted : {E S : Type 0} (d : Direction) (link : Link E S) → link ≡ with_counted link d (counted link d)
as_counted ToServer link = refl
as_counted ToClient link = refl

count_is : {E S : Type 0} (d : Direction) (link : Link E S) (n : ℕ) → counted (with_counted link d n) d ≡ n
count_is ToServer link n = refl
count_is ToClient link n = refl

nothing_sent : (d way : Direction) (p : Pipe) → traffic (Some p) way ≡ with_sent d way (traffic (Some p) way) [] 0
nothing_sent ToServer ToServer p = sent_none p.to_server
nothing_sent ToClient ToClient p = sent_none p.to_client
nothing_sent d way p = refl

bytes_sent : (d way : Direction) (p : Pipe) (bytes : List ℕ) (failures : ℕ) → traffic (sent_on (Some p) d bytes failures) way ≡ with_sent d way (traffic (Some p) way) bytes failures
bytes_sent ToServer ToServer p bytes failures = refl
bytes_sent ToClient ToClient p bytes failures = refl
bytes_sent d way p bytes failures = refl

handed : {E S : Type 0} (d : Direction) (mid new : Link E S) (pipe after : Option Pipe) (bytes : List ℕ) (failures : ℕ) → IsOpen pipe
    → (bytes ≡ [] → (new ≡ mid) × (after ≡ pipe))
    → (bytes ≢ [] → (new ≡ with_counted mid d (saturated (counted mid d + length bytes))) × (after ≡ sent_on pipe d bytes failures))
    → Handed d mid new pipe after bytes
handed d mid new None after bytes failures open_ none some = absurd open_
handed {E} {S} d mid new (Some p) after [] failures open_ none some =
    let h = none refl in
    record {
      link = h.0 ∙ as_counted d mid ∙ ap (λ (l : Link E S). with_counted mid d (counted l d)) (sym h.0);
      counts = count_by (counted mid d) (counted new d) [] (λ e. ap (λ (l : Link E S). counted l d) h.0) (λ full. absurd (full refl));
      failures = 0;
      each = λ way. ap (λ o. traffic o way) h.1 ∙ nothing_sent d way p;
    }
handed {E} {S} d mid new (Some p) after (b ∷ bs) failures open_ none some =
    let h = some (λ e. absurd (cc)) in
    let count : counted new d ≡ saturated (counted mid d + length (b ∷ bs)) = ap (λ (l : Link E S). counted l d) h.0 ∙ count_is d mid (saturated (counted mid d + length (b ∷ bs))) in
    record {
      link = h.0 ∙ ap (with_counted mid d) (sym count);
      counts = count_by (counted mid d) (counted new d) (b ∷ bs) (λ e. absurd (cc)) (λ full. count);
      failures = failures;
      each = λ way. ap (λ o. traffic o way) h.1 ∙ bytes_sent d way p (b ∷ bs) failures;
    }

-- What was handed over on the connection of this number.
pub given : {E S : Type 0} (d : Direction) (n : ℕ) (mid out : Link E S) (before after : ℕ → Option Pipe) (bytes : List ℕ) (lost : Bool)
    → mid.number ≡ n → IsOpen (before n)
    → (bytes ≡ [] → (out ≡ mid) × (after ≡ before))
    → (bytes ≢ [] → after mid.number ≡ sent_on (before mid.number) d bytes (cond lost 1 0))
    → (bytes ≢ [] → out ≡ with_counted mid d (saturated (counted mid d + length bytes)))
    → Handed d mid out (before n) (after n) bytes
given d n mid out before after bytes lost at open_ none hands counts =
    handed d mid out (before n) (after n) bytes (cond lost 1 0) open_
    (λ e. ((none e).0, ap (λ f. f n) (none e).1))
    (λ full. (counts full, subst (λ (k : ℕ). after k ≡ sent_on (before k) d bytes (cond lost 1 0)) at (hands full)))

-- ---- The connection then

-- What is sent is appended to all that was sent on a lane.
abbrev pub SentMore : {Entry : Type 0} → (Entry → List ℕ) → Type 0
SentMore {Entry} bytes = (more : List ℕ) (old new : Lane Entry) → Sends bytes more old new → sent_bytes bytes new ≡ sent_bytes bytes old ++ more

-- The client did it: it sent these bytes, and the connection's newest request and place may have changed.
pub sent_played : {E S : Type 0} → SentMore up_bytes → (number size : ℕ) (engine : E) (link new : Link E S) (seat : Seat) (s : ClientSession) (q : Option Record) (p : Place) (pipe after : Option Pipe) (c d : Connection) (bytes : List ℕ)
    → RepresentsConnection number size engine link seat pipe c → link.is_cut ≡ false
    → Handed ToServer (record link { current = q }) new pipe after bytes
    → d.standing ≡ In p → s.size ≡ seat.client.size
    → MatchesClient s d → MatchesServer link.server d
    → Sends up_bytes bytes c.to_server d.to_server → d.to_client ≡ c.to_client
    → d.past ≡ c.past → IsNewest number false q d.current
    → up_underway d ≤ 18446744073709551615
    → RepresentsConnection number size engine new (seated p s) after d
sent_played {E} {S} appends number size engine link new seat s q p pipe after c d bytes i live h standing sized client server sends below past newest few = record {
  numbered = ap (λ l. l.number) h.link ∙ i.numbered;
  standing = ap (λ (l : Link E S). standing_by l.is_cut p) h.link ∙ ap (λ (b : Bool). standing_by b p) live ∙ sym standing;
  older =
      subst (λ (l : Link E S). AreOlder number l.is_cut l.past.items d.past) (sym h.link)
      (subst (λ (qs : List world.Record). AreOlder number link.is_cut link.past.items qs) (sym past) i.older);
  newest =
      subst (λ (l : Link E S). IsNewest number l.is_cut l.current d.current) (sym h.link)
      (subst (λ (b : Bool). IsNewest number b q d.current) (sym live) newest);
  to_server = ap (λ t. t.handed) (h.each ToServer) ∙ ap (λ (xs : List ℕ). xs ++ bytes) i.to_server ∙ sym (appends bytes c.to_server d.to_server sends);
  to_client = ap (λ t. t.handed) (h.each ToClient) ∙ i.to_client ∙ ap (sent_bytes down_bytes) (sym below);
  came_up =
      ap (λ t. t.came) (h.each ToServer)
      ∙ lane_came up_bytes (sent (traffic pipe ToServer) bytes h.failures) d.to_server link.server_reader.taken (link.to_server + length bytes)
      (lane_sent up_bytes bytes h.failures (traffic pipe ToServer) c.to_server d.to_server link.server_reader.taken link.to_server (link.to_server + length bytes) (i.lives live).stands.up sends refl);
  came_down = ap (λ t. t.came) (h.each ToClient) ∙ i.came_down ∙ ap (come_bytes down_bytes) (sym below);
  lives = λ uncut.
      let v = i.lives live in
      let lane : (now : ℕ) → now ≡ link.to_server + length bytes → IsLane up_bytes (sent (traffic pipe ToServer) bytes h.failures) d.to_server link.server_reader.taken now = λ now e. lane_sent up_bytes bytes h.failures (traffic pipe ToServer) c.to_server d.to_server link.server_reader.taken link.to_server now v.stands.up sends e in
      let counts : new.to_server ≡ link.to_server + length bytes = h.counts (omega (arith, (lane (link.to_server + length bytes) refl).counts, few)) in
      record {
        stands = record {
          client = client;
          server = subst (λ (l : Link E S). MatchesServer l.server d) (sym h.link) server;
          up =
              subst (λ (t : Traffic). IsLane up_bytes t d.to_server new.server_reader.taken new.to_server) (sym (h.each ToServer))
              (subst (λ (r : Reading). IsLane up_bytes (sent (traffic pipe ToServer) bytes h.failures) d.to_server r.taken new.to_server) (sym (ap (λ l. l.server_reader) h.link)) (lane new.to_server counts));
          down =
              subst (λ (t : Traffic). IsLane down_bytes t d.to_client new.client_reader.taken new.to_client) (sym (h.each ToClient))
              (subst (λ (lane : Lane Down). IsLane down_bytes (traffic pipe ToClient) lane new.client_reader.taken new.to_client) (sym below)
              (subst (λ (l : Link E S). IsLane down_bytes (traffic pipe ToClient) c.to_client l.client_reader.taken l.to_client) (sym h.link) v.stands.down));
        };
        engine_is = ap (λ l. l.server.engine) h.link ∙ v.engine_is;
        size_is = sized ∙ v.size_is;
        server_reads = ap (λ l. l.server_reader.direction) h.link ∙ v.server_reads;
        server_size = ap (λ l. l.server_reader.size) h.link ∙ v.server_size;
        client_reads = ap (λ l. l.client_reader.direction) h.link ∙ v.client_reads;
        client_size = ap (λ l. l.client_reader.size) h.link ∙ v.client_size;
      };
  gone = λ cut. let no : false ≡ true = sym live ∙ sym (ap (λ l. l.is_cut) h.link) ∙ cut in absurd (cc);
}

-- The server did it: it sent these bytes, and the newest request may have changed.
pub replied_played : {E S : Type 0} → SentMore down_bytes → (number size : ℕ) (engine : E) (link new : Link E S) (seat : Seat) (s : ServerState E) (q : Option Record) (pipe after : Option Pipe) (c d : Connection) (bytes : List ℕ)
    → RepresentsConnection number size engine link seat pipe c → link.is_cut ≡ false
    → Handed ToClient (record link { server = s; current = q }) new pipe after bytes
    → d.standing ≡ c.standing → s.engine ≡ link.server.engine
    → MatchesClient seat.client d → MatchesServer s d
    → Sends down_bytes bytes c.to_client d.to_client → d.to_server ≡ c.to_server
    → d.past ≡ c.past → IsNewest number false q d.current
    → down_underway d ≤ 18446744073709551615
    → RepresentsConnection number size engine new seat after d
replied_played {E} {S} appends number size engine link new seat s q pipe after c d bytes i live h standing same client server sends above past newest few = record {
  numbered = ap (λ l. l.number) h.link ∙ i.numbered;
  standing = ap (λ (l : Link E S). standing_by l.is_cut seat.place) h.link ∙ i.standing ∙ sym standing;
  older =
      subst (λ (l : Link E S). AreOlder number l.is_cut l.past.items d.past) (sym h.link)
      (subst (λ (qs : List world.Record). AreOlder number link.is_cut link.past.items qs) (sym past) i.older);
  newest =
      subst (λ (l : Link E S). IsNewest number l.is_cut l.current d.current) (sym h.link)
      (subst (λ (b : Bool). IsNewest number b q d.current) (sym live) newest);
  to_server = ap (λ t. t.handed) (h.each ToServer) ∙ i.to_server ∙ ap (sent_bytes up_bytes) (sym above);
  to_client = ap (λ t. t.handed) (h.each ToClient) ∙ ap (λ (xs : List ℕ). xs ++ bytes) i.to_client ∙ sym (appends bytes c.to_client d.to_client sends);
  came_up = ap (λ t. t.came) (h.each ToServer) ∙ i.came_up ∙ ap (come_bytes up_bytes) (sym above);
  came_down =
      ap (λ t. t.came) (h.each ToClient)
      ∙ lane_came down_bytes (sent (traffic pipe ToClient) bytes h.failures) d.to_client link.client_reader.taken (link.to_client + length bytes)
      (lane_sent down_bytes bytes h.failures (traffic pipe ToClient) c.to_client d.to_client link.client_reader.taken link.to_client (link.to_client + length bytes) (i.lives live).stands.down sends refl);
  lives = λ uncut.
      let v = i.lives live in
      let lane : (now : ℕ) → now ≡ link.to_client + length bytes → IsLane down_bytes (sent (traffic pipe ToClient) bytes h.failures) d.to_client link.client_reader.taken now = λ now e. lane_sent down_bytes bytes h.failures (traffic pipe ToClient) c.to_client d.to_client link.client_reader.taken link.to_client now v.stands.down sends e in
      let counts : new.to_client ≡ link.to_client + length bytes = h.counts (omega (arith, (lane (link.to_client + length bytes) refl).counts, few)) in
      record {
        stands = record {
          client = client;
          server = subst (λ (l : Link E S). MatchesServer l.server d) (sym h.link) server;
          up =
              subst (λ (t : Traffic). IsLane up_bytes t d.to_server new.server_reader.taken new.to_server) (sym (h.each ToServer))
              (subst (λ (lane : Lane Up). IsLane up_bytes (traffic pipe ToServer) lane new.server_reader.taken new.to_server) (sym above)
              (subst (λ (l : Link E S). IsLane up_bytes (traffic pipe ToServer) c.to_server l.server_reader.taken l.to_server) (sym h.link) v.stands.up));
          down =
              subst (λ (t : Traffic). IsLane down_bytes t d.to_client new.client_reader.taken new.to_client) (sym (h.each ToClient))
              (subst (λ (r : Reading). IsLane down_bytes (sent (traffic pipe ToClient) bytes h.failures) d.to_client r.taken new.to_client) (sym (ap (λ l. l.client_reader) h.link)) (lane new.to_client counts));
        };
        engine_is = ap (λ l. l.server.engine) h.link ∙ same ∙ v.engine_is;
        size_is = v.size_is;
        server_reads = ap (λ l. l.server_reader.direction) h.link ∙ v.server_reads;
        server_size = ap (λ l. l.server_reader.size) h.link ∙ v.server_size;
        client_reads = ap (λ l. l.client_reader.direction) h.link ∙ v.client_reads;
        client_size = ap (λ l. l.client_reader.size) h.link ∙ v.client_size;
      };
  gone = λ cut. let no : false ≡ true = sym live ∙ sym (ap (λ l. l.is_cut) h.link) ∙ cut in absurd (cc);
}
