-- A request that is asked on a connection, in a play and in the model.
use Rattle.std.specs.Prelude.{is_none, IfOk}
use Rattle.std.proofs.Common.{◌≡◌, ◌∙◌, ℕ, Bool, true, false, refl, sym, ap, subst, Option, Some, None, Result, Ok, Err, List, [], ◌∷◌}
use Rattle.tds_client.specs.Session.{ClientSession, unless_idle}
use Rattle.tds_client.specs.Sending.{started}
use Rattle.tds_packet.specs.declared.status.Reset.{Reset}
use Rattle.tds_request.specs.declared.request.Request.{Request}
use Rattle.tds_server.specs.State.{ServerState}
use Rattle.tds_world.specs.declared.outcome.Outcome.TheVariants as outcome
use Rattle.tds_world.specs.declared.outcome.Refusal.TheVariants.{NotIdle}
use Rattle.tds_world.specs.Caller.{asks}
use Rattle.tds_world.specs.Connection.{Connection, is_idle, joined}
use Rattle.tds_world.specs.Events.{asks_by}
use Rattle.tds_world.specs.Phase.{Settled, phase_in}
use Rattle.tds_world.specs.Record.{new_record}
use Rattle.tds_world.specs.Record as world
use Rattle.tds_world.specs.Entries.{up_bytes, down_bytes}
use Rattle.tds_packet.specs.declared.kind.Direction.TheVariants.{ToServer, ToClient}
use Rattle.tds_play.specs.Between.{IsLane}
use Rattle.tds_play.specs.Lending.{standing_by}
use Rattle.tds_play.specs.Links.{IsAskedOn, behind}
use Rattle.tds_play.specs.Links as links
use Rattle.tds_play.specs.Pipe.{Pipe, traffic}
use Rattle.tds_play.specs.Plays.{RepresentsConnection}
use Rattle.tds_play.specs.Requests.{AreOlder, IsNewest}
use Rattle.tds_play.specs.Seen.{done_as}
use Rattle.tds_ends.specs.Refines.{RefinesAsk}
use Rattle.tds_ends.specs.Stands.{MatchesClient, MatchesServer}
use Rattle.tds_ends.specs.Stays.{RefinesIdle}
use Rattle.tds_play.specs.declared.link.EventDone.{EventDone}
use Rattle.tds_play.specs.declared.link.Link.{Link}
use Rattle.tds_play.specs.Seats.{Seat}
use Rattle.tds_play.specs.declared.request.Record.{Record}
use Rattle.tds_play.proofs.Placed.{DoesWhole, idle_settled, idle_unless}

-- ---- The ends

-- What is promised of them: a client takes a request where the model does, and the server stays.
pub record RefinesAsks (E : Type 0) : Type 0 where
  pub waits : RefinesIdle
  pub takes : (s : ClientSession) (c : Connection) (number lease n : ℕ) (q : Request) → MatchesClient s c → RefinesAsk number (started s q) (unless_idle s.stage) (asks_by (is_idle c) number lease n q c)
  pub stays : (number lease n : ℕ) (q : Request) (s : ServerState E) (c : Connection) → c.parts ≡ [] → MatchesServer s c → MatchesServer s (asks number lease n q c)

asked_matches : {E : Type 0} → RefinesAsks E → (s : ClientSession) (c : Connection) (number lease n : ℕ) (q : Request) → MatchesClient s c → is_idle c ≡ true → MatchesClient (started s q) (asks number lease n q c)
asked_matches a s c number lease n q m idle =
    (subst (λ (b : Bool). RefinesAsk number (started s q) None (asks_by b number lease n q c)) idle
    (subst (λ o. RefinesAsk number (started s q) o (asks_by (is_idle c) number lease n q c)) (idle_unless a.waits s c m idle) (a.takes s c number lease n q m))).1

-- ---- The requests

-- The newest one, which is settled, stands behind the older ones.
older_behind : (number : ℕ) (cut : Bool) (rs : List Record) (qs : List world.Record) (r : Option Record) (q : Option world.Record) → phase_in q ≡ Settled → AreOlder number cut rs qs → IsNewest number cut r q → AreOlder number cut (behind rs r) (joined qs q)
older_behind number cut rs qs None None settled older newest = older
older_behind number cut rs qs None (Some q) settled older newest = absurd newest
older_behind number cut rs qs (Some r) None settled older newest = absurd newest
older_behind number cut [] [] (Some r) (Some q) settled older newest = ((newest, settled), tt)
older_behind number cut [] (p ∷ qs) (Some r) (Some q) settled older newest = absurd older
older_behind number cut (x ∷ rs) [] (Some r) (Some q) settled older newest = absurd older
older_behind number cut (x ∷ rs) (p ∷ qs) (Some r) (Some q) settled older newest =
    (older.0, older_behind number cut rs qs (Some r) (Some q) settled older.1 newest)

newest_asked : (id number lease heard : ℕ) (q : Request) (mark asked : Option Reset) (r : Option Record) → mark ≡ asked → links.IsNewest lease mark r → IsNewest number false r (Some (new_record id lease number q asked heard))
newest_asked id number lease heard q mark asked None same h = absurd h
newest_asked id number lease heard q mark asked (Some r) same h = record {
  lease = h.under;
  conn = refl;
  mark = h.marked ∙ same;
  status = h.unsettled;
  ran = h.unran;
  tokens = h.untold;
}

-- ---- The connection then

pub asked_played : {E S : Type 0} → RefinesAsks E → (number size id lease : ℕ) (engine : E) (q : Request) (link new : Link E S) (seat next : Seat) (pipe : Option Pipe) (c : Connection)
    → RepresentsConnection number size engine link seat pipe c → link.is_cut ≡ false → is_idle c ≡ true → c.parts ≡ []
    → next ≡ record seat { client = started seat.client q } → IsAskedOn lease seat.client.heard.mark link new
    → RepresentsConnection number size engine new next pipe (asks id lease number q c)
asked_played {E} {S} alike number size id lease engine q link new seat next pipe c i live idle rests at h =
    let d : Connection = asks id lease number q c in
    let v = i.lives live in
    let s = v.stands in
    record {
      numbered = ap (λ l. l.number) h.rest ∙ i.numbered;
      standing = ap (λ (l : Link E S). standing_by l.is_cut next.place) h.rest ∙ ap (λ (s : Seat). standing_by link.is_cut s.place) at ∙ i.standing;
      older =
          subst (λ (b : Bool). AreOlder number b new.past.items d.past) (sym (ap (λ l. l.is_cut) h.rest))
          (subst (λ (rs : List Record). AreOlder number link.is_cut rs d.past) (sym h.past)
          (older_behind number link.is_cut link.past.items c.past link.current c.current (idle_settled c idle) i.older i.newest));
      newest =
          subst (λ (b : Bool). IsNewest number b new.current d.current) (sym (ap (λ l. l.is_cut) h.rest ∙ live))
          (newest_asked id number lease c.heard q seat.client.heard.mark c.mark new.current s.client.mark h.current);
      to_server = i.to_server;
      to_client = i.to_client;
      came_up = i.came_up;
      came_down = i.came_down;
      lives = λ uncut. record {
        stands = record {
          client = subst (λ (x : Seat). MatchesClient x.client d) (sym at) (asked_matches alike seat.client c id lease number q s.client idle);
          server = subst (λ (l : Link E S). MatchesServer l.server d) (sym h.rest) (alike.stays id lease number q link.server c rests s.server);
          up = subst (λ (l : Link E S). IsLane up_bytes (traffic pipe ToServer) c.to_server l.server_reader.taken l.to_server) (sym h.rest) s.up;
          down = subst (λ (l : Link E S). IsLane down_bytes (traffic pipe ToClient) c.to_client l.client_reader.taken l.to_client) (sym h.rest) s.down;
        };
        engine_is = ap (λ l. l.server.engine) h.rest ∙ v.engine_is;
        size_is = ap (λ (x : Seat). x.client.size) at ∙ v.size_is;
        server_reads = ap (λ l. l.server_reader.direction) h.rest ∙ v.server_reads;
        server_size = ap (λ l. l.server_reader.size) h.rest ∙ v.server_size;
        client_reads = ap (λ l. l.client_reader.direction) h.rest ∙ v.client_reads;
        client_size = ap (λ l. l.client_reader.size) h.rest ∙ v.client_size;
      };
      gone = λ cut. i.gone (sym (ap (λ l. l.is_cut) h.rest) ∙ cut);
    }

asked_by : {E S : Type 0} → RefinesAsks E → (number size id lease : ℕ) (engine : E) (q : Request) (link new : Link E S) (seat next : Seat) (pipe : Option Pipe) (c : Connection) (done : EventDone) (idle : Bool)
    → RepresentsConnection number size engine link seat pipe c → link.is_cut ≡ false → is_idle c ≡ idle → (idle ≡ true → c.parts ≡ [])
    → (idle ≡ false → (done ≡ done_as (outcome.Refused NotIdle)) × (new ≡ link) × (next ≡ seat))
    → (idle ≡ true → (done ≡ done_as (outcome.Asked id)) × (next ≡ record seat { client = started seat.client q }) × IsAskedOn lease seat.client.heard.mark link new)
    → DoesWhole number size engine done new next pipe (asks_by idle id lease number q c) c
asked_by {E} {S} alike number size id lease engine q link new seat next pipe c done false i live is rests refused asked =
    let h = refused refl in (h.0, rw (h.1, h.2) i)
asked_by alike number size id lease engine q link new seat next pipe c done true i live is rests refused asked =
    let h = asked refl in (h.0, asked_played alike number size id lease engine q link new seat next pipe c i live is (rests refl) h.1 h.2)

ok_one : {A B : Type 0} (x y : A) (r : Result A B) → r ≡ Ok x → r ≡ Ok y → x ≡ y
ok_one x y r e f = let same : Ok x ≡ Ok y = sym e ∙ f in cc

pub asked_alike : {E S B : Type 0} → RefinesAsks E → (number size id lease : ℕ) (engine : E) (q : Request) (link new : Link E S) (seat next : Seat) (pipe : Option Pipe) (c : Connection) (done : EventDone) (r : Result EventDone B)
    → RepresentsConnection number size engine link seat pipe c → link.is_cut ≡ false → (is_idle c ≡ true → c.parts ≡ [])
    → r ≡ Ok done
    → (is_none (unless_idle seat.client.stage) ≡ false → (r ≡ Ok (done_as (outcome.Refused NotIdle))) × (new ≡ link) × (next ≡ seat))
    → (is_none (unless_idle seat.client.stage) ≡ true → IfOk r (λ done. (done ≡ done_as (outcome.Asked id)) × (next ≡ record seat { client = started seat.client q }) × IsAskedOn lease seat.client.heard.mark link new))
    → DoesWhole number size engine done new next pipe (asks_by (is_idle c) id lease number q c) c
asked_alike {E} {S} alike number size id lease engine q link new seat next pipe c done r i live rests is refused asked =
    let same = alike.waits seat.client c (i.lives live).stands.client in
    asked_by alike number size id lease engine q link new seat next pipe c done (is_idle c) i live refl rests
    (λ e. let h = refused (same ∙ e) in (ok_one done _ r is h.0, h.1, h.2))
    (λ e. subst (λ x. IfOk x (λ done. (done ≡ done_as (outcome.Asked id)) × (next ≡ record seat { client = started seat.client q }) × IsAskedOn lease seat.client.heard.mark link new)) is (asked (same ∙ e)))

-- So it is where the call had memory.
pub asked_ok : {E S B : Type 0} → RefinesAsks E → (number size told id lease : ℕ) (engine : E) (q : Request) (link new : Link E S) (seat next : Seat) (pipe : Option Pipe) (c : Connection) (r : Result EventDone B)
    → RepresentsConnection number size engine link seat pipe c → link.is_cut ≡ false → (is_idle c ≡ true → c.parts ≡ []) → told ≡ id
    → (is_none (unless_idle seat.client.stage) ≡ false → (r ≡ Ok (done_as (outcome.Refused NotIdle))) × (new ≡ link) × (next ≡ seat))
    → (is_none (unless_idle seat.client.stage) ≡ true → IfOk r (λ done. (done ≡ done_as (outcome.Asked told)) × (next ≡ record seat { client = started seat.client q }) × IsAskedOn lease seat.client.heard.mark link new))
    → IfOk r (λ done. DoesWhole number size engine done new next pipe (asks_by (is_idle c) id lease number q c) c)
asked_ok {E} {S} alike number size told id lease engine q link new seat next pipe c (Ok done) i live rests same refused asked =
    subst (λ (n : ℕ). DoesWhole number size engine done new next pipe (asks_by (is_idle c) n lease number q c) c) same
    (asked_alike alike number size told lease engine q link new seat next pipe c done (Ok done) i live rests refl refused asked)
asked_ok alike number size told id lease engine q link new seat next pipe c (Err why) i live rests same refused asked = tt
