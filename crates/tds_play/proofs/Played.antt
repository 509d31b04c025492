-- What a delivery leaves of a connection as it was, and so what the connection stands for then.
use Rattle.std.proofs.Common.{◌≡◌, ◌∙◌, ◌-◌, ℕ, Bool, true, false, cond, ltb, refl, sym, ap, Option, List, [], ◌∷◌, length}
use Rattle.tds_packet.specs.declared.kind.Direction.TheVariants.{ToServer, ToClient}
use Rattle.tds_session.specs.Answer.{Answers}
use Rattle.tds_world.specs.declared.outcome.Outcome.{Outcome}
use Rattle.tds_world.specs.Arrivals.{server_acts, reach_server, to_server}
use Rattle.tds_world.specs.Connection.{Connection}
use Rattle.tds_world.specs.Entries.{Up, Part, up_bytes, down_bytes}
use Rattle.tds_world.specs.Lane.{passed, with_waiting}
use Rattle.tds_play.specs.declared.link.EventDone.{EventDone}
use Rattle.tds_play.specs.declared.link.Link.{Link}
use Rattle.tds_play.specs.Seats.{Seat}
use Rattle.tds_play.specs.Between.{RepresentsEnds}
use Rattle.tds_play.specs.Lending.{standing_by}
use Rattle.tds_play.specs.Links.{recounted}
use Rattle.tds_play.specs.Pipe.{Pipe, traffic}
use Rattle.tds_play.specs.Plays.{RepresentsConnection}
use Rattle.tds_play.specs.Seen.{done_as}
use Rattle.tds_play.specs.Ties.{with_counted}
use Rattle.tds_play.proofs.Between.{lane_came}

-- ---- The outcome

pub done_is : (d : EventDone) (o : Outcome) → d.outcome ≡ o → d.lost ≡ false → d ≡ done_as o
done_is d o e f =
    ap (λ (x : Outcome). record { outcome = x; lost = d.lost }) e ∙ ap (λ (b : Bool). record { outcome = o; lost = b }) f

-- ---- The requests at a delivery to the server

-- The requests are the same, and the connection stands where it stood.
pub record SameRequests (c d : Connection) : Type 0 where
  pub past : d.past ≡ c.past
  pub current : d.current ≡ c.current
  pub standing : d.standing ≡ c.standing

same_then : (b c d : Connection) → SameRequests b c → SameRequests c d → SameRequests b d
same_then b c d f g = record { past = g.past ∙ f.past; current = g.current ∙ f.current; standing = g.standing ∙ f.standing }

either : (b : Bool) (c x y : Connection) → SameRequests c x → SameRequests c y → SameRequests c (cond b x y)
either true c x y f g = f
either false c x y f g = g

acts_same : (answers : Answers) (c : Connection) (e : Up) → SameRequests c (server_acts answers (record c { to_server = passed e c.to_server }) e)
acts_same answers c (Part r p) = record { past = refl; current = refl; standing = refl }
acts_same answers c e = record { past = refl; current = refl; standing = refl }

pub reach_same : (answers : Answers) (c : Connection) (es : List Up) (k : ℕ) → SameRequests c (reach_server answers c es k)
reach_same answers c [] k = record { past = refl; current = refl; standing = refl }
reach_same answers c (e ∷ es) k =
    let d : Connection = server_acts answers (record c { to_server = passed e c.to_server }) e in
    either (ltb k (length (up_bytes e))) c (record c { to_server = with_waiting (e ∷ es) k c.to_server }) (reach_server answers d es (k - length (up_bytes e)))
    (record { past = refl; current = refl; standing = refl })
    (same_then c d (reach_server answers d es (k - length (up_bytes e))) (acts_same answers c e) (reach_same answers d es (k - length (up_bytes e))))

-- ---- The player's connection

-- What a delivery to the server leaves as it was.
pub record Stays {E S : Type 0} (old new : Link E S) : Type 0 where
  pub number : new.number ≡ old.number
  pub is_cut : new.is_cut ≡ old.is_cut
  pub current : new.current ≡ old.current
  pub past : new.past ≡ old.past
  pub client_reader : new.client_reader ≡ old.client_reader

-- Behind the carrier's first call, behind the server's turn, and behind the second call.
pub stays_by : {E S : Type 0} (old one two new : Link E S) (k up down : ℕ)
    → one ≡ with_counted old ToServer k
    → two ≡ record one { server = two.server; server_reader = two.server_reader }
    → new ≡ recounted up down two
    → Stays old new
stays_by old one two new k up down first second last = record {
  number = ap (λ l. l.number) last ∙ ap (λ l. l.number) second ∙ ap (λ l. l.number) first;
  is_cut = ap (λ l. l.is_cut) last ∙ ap (λ l. l.is_cut) second ∙ ap (λ l. l.is_cut) first;
  current = ap (λ l. l.current) last ∙ ap (λ l. l.current) second ∙ ap (λ l. l.current) first;
  past = ap (λ l. l.past) last ∙ ap (λ l. l.past) second ∙ ap (λ l. l.past) first;
  client_reader = ap (λ l. l.client_reader) last ∙ ap (λ l. l.client_reader) second ∙ ap (λ l. l.client_reader) first;
}

-- The engine, and what the readers read.
pub record Ends {E S : Type 0} (size : ℕ) (engine : E) (link : Link E S) : Type 0 where
  pub engine_is : link.server.engine ≡ engine
  pub server_reads : link.server_reader.direction ≡ ToServer
  pub server_size : link.server_reader.size ≡ size

pub served_on : {E S : Type 0} (answers : Answers) (number size most : ℕ) (engine : E) (old new : Link E S) (seat : Seat) (pipe after : Option Pipe) (c : Connection)
    → RepresentsConnection number size engine old seat pipe c → old.is_cut ≡ false → Stays old new → Ends size engine new
    → RepresentsEnds new seat after (to_server answers most c) → RepresentsConnection number size engine new seat after (to_server answers most c)
served_on answers number size most engine old new seat pipe after c p live stays ends s =
    let same = reach_same answers c c.to_server.waiting _ in
    record {
      numbered = stays.number ∙ p.numbered;
      standing =
          ap (λ (b : Bool). standing_by b seat.place) stays.is_cut
          ∙ p.standing ∙ sym same.standing;
      older = rw (stays.is_cut, stays.past, same.past) p.older;
      newest = rw (stays.is_cut, stays.current, same.current) p.newest;
      to_server = s.up.handed;
      to_client = s.down.handed;
      came_up = lane_came up_bytes (traffic after ToServer) (to_server answers most c).to_server new.server_reader.taken new.to_server s.up;
      came_down = lane_came down_bytes (traffic after ToClient) (to_server answers most c).to_client new.client_reader.taken new.to_client s.down;
      lives = λ uncut. record {
        stands = s;
        engine_is = ends.engine_is;
        size_is = (p.lives live).size_is;
        server_reads = ends.server_reads;
        server_size = ends.server_size;
        client_reads = ap (λ r. r.direction) stays.client_reader ∙ (p.lives live).client_reads;
        client_size = ap (λ r. r.size) stays.client_reader ∙ (p.lives live).client_size;
      };
      gone = λ cut. let no : false ≡ true = sym live ∙ sym stays.is_cut ∙ cut in absurd (cc);
    }
