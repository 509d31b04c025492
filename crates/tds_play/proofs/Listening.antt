-- A connection of the player whose client listens: its newest request, and what it stands for then.
use Rattle.std.proofs.Common.{◌≡◌, ◌∙◌, ◌+◌, ◌-◌, ◌++◌, ℕ, min, Bool, true, false, refl, sym, ap, Option, Some, None, option_map, List, Result, Ok, Err, IfOk}
use Rattle.std.specs.Prelude.{is_none}
use Rattle.tds_client.specs.Session.{ClientSession, unless_idle}
use Rattle.tds_packet.specs.declared.kind.Direction.TheVariants.{ToServer, ToClient}
use Rattle.tds_token.specs.declared.token.Token.{Token}
use Rattle.tds_world.specs.declared.report.RequestStatus.{RequestStatus}
use Rattle.tds_world.specs.Arrivals.{reach_client, to_client}
use Rattle.tds_world.specs.Connection.{Connection, In, down_underway}
use Rattle.tds_world.specs.Entries.{up_bytes, down_bytes}
use Rattle.tds_world.specs.Phase.{request_status}
use Rattle.tds_world.specs.Record as world
use Rattle.tds_play.specs.declared.link.Link.{Link}
use Rattle.tds_play.specs.Seats.{Seat, drained, drained_at}
use Rattle.tds_play.specs.declared.request.Record.{Record}
use Rattle.tds_play.specs.Between.{RepresentsEnds}
use Rattle.tds_ends.specs.Stays.{RefinesIdle}
use Rattle.tds_ends.specs.Deliveries.{RefinesListens, status_under}
use Rattle.tds_ends.specs.Feeding.{Listened}
use Rattle.tds_play.specs.Lending.{standing_by}
use Rattle.tds_play.specs.Listening.{HasListened, IsToldSo, told_in}
use Rattle.tds_play.specs.Pipe.{Pipe, traffic, brought_on, carried, next_of, IsOpen}
use Rattle.tds_play.specs.Plays.{RepresentsConnection}
use Rattle.tds_play.specs.Requests.{IsNewest, MatchesRecord}
use Rattle.tds_play.specs.Ties.{with_counted}
use Rattle.tds_play.proofs.Between.{lane_came}
use Rattle.tds_play.proofs.deliveries.ClientEvent.{Heard, bare, reach_beside, stands_drained}
use Rattle.tds_play.proofs.deliveries.ClientSizes.{listened_size}

pub if_ok : {A E : Type 0} (r : Result A E) (P Q : A → Type 0) → ((a : A) → P a → Q a) → IfOk r P → IfOk r Q
if_ok (Ok a) P Q f h = f a h
if_ok (Err e) P Q f h = tt

-- ---- The newest request

-- Where there is no request, nobody is told.
pub nobody_told : (then : Listened) (o : Option Record) → o ≡ None → IsToldSo then o o
nobody_told then None e = tt
nobody_told then (Some r) e = absurd (cc)

-- What its caller was given then, and what became of it.
abbrev TellsOf : Option world.Record → Option world.Record → List Token → Listened → Type 0
TellsOf x y told then =
    (q : world.Record) → x ≡ Some q
    → (after : world.Record) × (y ≡ Some after)
    × ((more : List Token) × (then.told ≡ told ++ more) × (after.given ≡ q.given ++ more))
    × ((before : RequestStatus) → request_status false q ≡ status_under None before
    → request_status false after ≡ status_under then.settled before)

same_some : {A : Type 0} (a b : A) → Some a ≡ Some b → a ≡ b
same_some a b e = cc

one_heard : (number : ℕ) (then : Listened) (r s : Record) (q p : world.Record) → MatchesRecord number false r q → IsToldSo then (Some r) (Some s) → bare p ≡ bare q → TellsOf (Some q) (Some p) r.tokens.items then → MatchesRecord number false s p
one_heard number then r s q p is told same tells =
    let t = tells q refl in
    let at : p ≡ t.0 = same_some p t.0 t.1 in
    record {
      lease = ap (λ x. x.lease) told.0 ∙ is.lease ∙ sym (ap (λ x. x.lease) same);
      conn = ap (λ x. x.conn) same ∙ is.conn;
      mark = ap (λ x. x.mark) told.0 ∙ is.mark ∙ sym (ap (λ x. x.asking.mark) same);
      status =
          ap (λ x. x.status) told.0 ∙ ap (status_under then.settled) is.status
          ∙ sym (t.3 (request_status false q) refl) ∙ sym (ap (request_status false) at);
      ran = ap (λ x. x.ran) told.0 ∙ is.ran ∙ sym (ap (λ x. x.ran) same);
      tokens = told.1 ∙ t.2.1 ∙ ap (λ ts. ts ++ t.2.0) is.tokens ∙ sym t.2.2 ∙ sym (ap (λ x. x.given) at);
    }

pub newest_heard : (number : ℕ) (then : Listened) (o n : Option Record) (x y : Option world.Record) → IsNewest number false o x → IsToldSo then o n → option_map bare y ≡ option_map bare x → TellsOf x y (told_in o) then → IsNewest number false n y
newest_heard number then None None None None is told same tells = tt
newest_heard number then None None None (Some p) is told same tells = absurd (cc)
newest_heard number then None None (Some q) y is told same tells = absurd is
newest_heard number then None (Some s) x y is told same tells = absurd told
newest_heard number then (Some r) n None y is told same tells = absurd is
newest_heard number then (Some r) None (Some q) y is told same tells = absurd told
newest_heard number then (Some r) (Some s) (Some q) None is told same tells = absurd (cc)
newest_heard number then (Some r) (Some s) (Some q) (Some p) is told same tells =
    one_heard number then r s q p is told (same_some (bare p) (bare q) same) tells

-- ---- The player's connection

-- What it is behind a delivery to the client.
pub record ListenedOn {E S : Type 0} (old new : Link E S) (seat next : Seat) (pipe after : Option Pipe) (n : ℕ) (then : Listened) (left : List ℕ) : Type 0 where
  pub heard : Heard old new pipe after n left
  pub client : next.client ≡ then.session
  pub number : new.number ≡ old.number
  pub is_cut : new.is_cut ≡ old.is_cut
  pub place : next.place ≡ drained_at (is_none (unless_idle then.session.stage)) seat.place
  pub told : IsToldSo then old.current new.current
  pub past : new.past ≡ old.past
  pub engine : new.server.engine ≡ old.server.engine
  pub client_reads : new.client_reader.direction ≡ old.client_reader.direction
  pub client_size : new.client_reader.size ≡ old.client_reader.size

-- What the carrier did; it may have failed then.
record CameDown (pipe after : Option Pipe) (bytes : List ℕ) : Type 0 where
  stuck : ℕ
  up : traffic after ToServer ≡ traffic pipe ToServer
  down : traffic after ToClient ≡ record (carried (traffic pipe ToClient) bytes) { carry_failures = stuck }

came_down : (pipe after : Option Pipe) (bytes : List ℕ) (lost : Bool) → IsOpen pipe → after ≡ brought_on pipe ToClient bytes lost → CameDown pipe after bytes
came_down None after bytes lost open_ is = absurd open_
came_down (Some p) after bytes false open_ is = record {
  stuck = p.to_client.carry_failures;
  up = ap (λ (o : Option Pipe). traffic o ToServer) is;
  down = ap (λ (o : Option Pipe). traffic o ToClient) is;
}
came_down (Some p) after bytes true open_ is = record {
  stuck = p.to_client.carry_failures + 1;
  up = ap (λ (o : Option Pipe). traffic o ToServer) is;
  down = ap (λ (o : Option Pipe). traffic o ToClient) is;
}

-- Behind the carrier's call, behind the client's turn, and where it is drained.
pub listened_by : {E S : Type 0} (old one new : Link E S) (seat next : Seat) (client : ClientSession) (pipe after : Option Pipe) (n : ℕ) (then : Listened) (left : List ℕ) (lost : Bool)
    → IsOpen pipe
    → one ≡ with_counted old ToClient (old.to_client - n)
    → client ≡ then.session → HasListened then left one new
    → next ≡ drained (record seat { client = client })
    → after ≡ brought_on pipe ToClient (next_of (traffic pipe ToClient) n) lost
    → ListenedOn old new seat next pipe after n then left
listened_by old one new seat next client pipe after n then left lost open_ first at h last came =
    let down = came_down pipe after (next_of (traffic pipe ToClient) n) lost open_ came in
    let second = h.rest in
    let reader = h.reader in
    record {
      heard = record {
        server = ap (λ l. l.server) second ∙ ap (λ l. l.server) first;
        client_reader = ap (λ r. r.taken) reader;
        server_reader = ap (λ l. l.server_reader) second ∙ ap (λ l. l.server_reader) first;
        to_server = ap (λ l. l.to_server) second ∙ ap (λ l. l.to_server) first;
        to_client = ap (λ l. l.to_client) second ∙ ap (λ l. l.to_client) first;
        stuck = down.stuck;
        up = down.up;
        down = down.down;
      };
      number = ap (λ l. l.number) second ∙ ap (λ l. l.number) first;
      is_cut = ap (λ l. l.is_cut) second ∙ ap (λ l. l.is_cut) first;
      client = ap (λ (s : Seat). s.client) last ∙ at;
      place = ap (λ (s : Seat). s.place) last ∙ ap (λ (s : ClientSession). drained_at (is_none (unless_idle s.stage)) seat.place) at;
      told = rw (sym (ap (λ l. l.current) first)) h.told;
      past = ap (λ l. l.past) second ∙ ap (λ l. l.past) first;
      engine = ap (λ l. l.server.engine) second ∙ ap (λ l. l.server.engine) first;
      client_reads = ap (λ r. r.direction) reader ∙ ap (λ l. l.client_reader.direction) first;
      client_size = ap (λ r. r.size) reader ∙ ap (λ l. l.client_reader.size) first;
    }

-- ---- What it stands for

pub listened_on : {E S : Type 0} → RefinesIdle → (number size most n : ℕ) (engine : E) (bytes : List ℕ) (old new : Link E S) (seat next : Seat) (pipe after : Option Pipe) (c : Connection)
    → RepresentsConnection number size engine old seat pipe c → old.is_cut ≡ false
    → (to_client most c).past ≡ c.past
    → (a : RefinesListens old.client_reader bytes c (reach_client c c.to_client.waiting (c.to_client.part + min most (down_underway c))) seat.client None (told_in old.current))
    → ListenedOn old new seat next pipe after n a.then a.rest
    → RepresentsEnds new next after (to_client most c)
    → RepresentsConnection number size engine new next after (to_client most c)
listened_on waits number size most n engine bytes old new seat next pipe after c p live past a d s =
    let k : ℕ = c.to_client.part + min most (down_underway c) in
    let reached : Connection = reach_client c c.to_client.waiting k in
    let beside = reach_beside c c.to_client.waiting k in
    let l = p.lives live in
    let uncut : new.is_cut ≡ false = d.is_cut ∙ live in
    let stood : reached.standing ≡ In seat.place = beside.standing ∙ sym p.standing ∙ ap (λ b. standing_by b seat.place) live in
    record {
      numbered = d.number ∙ p.numbered;
      standing =
          ap (λ b. standing_by b next.place) uncut ∙ ap (λ x. In x) d.place
          ∙ stands_drained waits a.then.session reached seat.place a.matches stood;
      older = rw (d.is_cut, d.past, past) p.older;
      newest = rw uncut (newest_heard number a.then old.current new.current c.current reached.current (rw live at p.newest) d.told beside.current a.tells);
      to_server = s.up.handed;
      to_client = s.down.handed;
      came_up = lane_came up_bytes (traffic after ToServer) (to_client most c).to_server new.server_reader.taken new.to_server s.up;
      came_down = lane_came down_bytes (traffic after ToClient) (to_client most c).to_client new.client_reader.taken new.to_client s.down;
      lives = λ whole. record {
        stands = s;
        engine_is = d.engine ∙ l.engine_is;
        size_is = ap (λ (x : ClientSession). x.size) d.client ∙ listened_size seat.client None (told_in old.current) a.packets a.then a.listens ∙ l.size_is;
        server_reads = ap (λ r. r.direction) d.heard.server_reader ∙ l.server_reads;
        server_size = ap (λ r. r.size) d.heard.server_reader ∙ l.server_size;
        client_reads = d.client_reads ∙ l.client_reads;
        client_size = d.client_size ∙ l.client_size;
      };
      gone = λ cut. let no : false ≡ true = sym uncut ∙ cut in absurd (cc);
    }
