-- Bytes that a carrier brings, by as many calls as that takes.
use Rattle.std.proofs.Common.{◌≡◌, ◌≤◌, ◌∙◌, ℕ, ◌+◌, ◌-◌, List, ◌++◌, length, take, drop, false, Option, Some, None, refl, sym, ap, subst, append_assoc, length-append, length-take, length-drop, arith}
use Rattle.std.proofs.Math.Seq.{take-add, drop-append_seam}
use Rattle.std.proofs.lemmas.List.{drop-drop}
use Rattle.tds_packet.specs.declared.kind.Direction.{Direction}
use Rattle.tds_packet.specs.declared.kind.Direction.TheVariants.{ToServer, ToClient}
use Rattle.std.specs.Prelude.{Result, Ok, Err}
use Rattle.tds_play.specs.declared.carrier.CarrierError.{CarrierError}
use Rattle.tds_play.specs.Pipe.{Pipe, Traffic, traffic, carried, carried_on, stuck_on, next_of, Brings}
use Rattle.tds_play.specs.Ties.{Holds, IsTied, counted, with_counted}
use Rattle.tds_play.specs.declared.link.Link.{Link}

-- ---- A connection with another count

pub count_is : {E S : Type 0} (link : Link E S) (d : Direction) (n : ℕ) → counted (with_counted link d n) d ≡ n
count_is link ToServer n = refl
count_is link ToClient n = refl

pub count_twice : {E S : Type 0} (link : Link E S) (d : Direction) (a b : ℕ) → with_counted (with_counted link d a) d b ≡ with_counted link d b
count_twice link ToServer a b = refl
count_twice link ToClient a b = refl

pub number_same : {E S : Type 0} (link : Link E S) (d : Direction) (n : ℕ) → (with_counted link d n).number ≡ link.number
number_same link ToServer n = refl
number_same link ToClient n = refl

pub cut_same : {E S : Type 0} (link : Link E S) (d : Direction) (n : ℕ) → (with_counted link d n).is_cut ≡ link.is_cut
cut_same link ToServer n = refl
cut_same link ToClient n = refl

-- ---- What is counted is underway

less_came : (up n handed : ℕ) (came bytes : List ℕ) → up + length came ≤ handed → n ≤ up → length bytes ≡ n → (up - n) + length (came ++ bytes) ≤ handed
less_came up n handed came bytes within less long = omega (arith, length-append came bytes, within, less, long)

holds_after : {E S : Type 0} (link : Link E S) (d : Direction) (n : ℕ) (pipe : Option Pipe) (bytes : List ℕ) → Holds link.to_server link.to_client pipe → n ≤ counted link d → length bytes ≡ n → Holds (with_counted link d (counted link d - n)).to_server (with_counted link d (counted link d - n)).to_client (carried_on pipe d bytes)
holds_after link ToServer n None bytes h less long = absurd h.is_open
holds_after link ToServer n (Some p) bytes h less long = record {
  is_open = h.is_open;
  to_server = less_came link.to_server n (length p.to_server.handed) p.to_server.came bytes h.to_server less long;
  to_client = h.to_client;
}
holds_after link ToClient n None bytes h less long = absurd h.is_open
holds_after link ToClient n (Some p) bytes h less long = record {
  is_open = h.is_open;
  to_server = h.to_server;
  to_client = less_came link.to_client n (length p.to_client.handed) p.to_client.came bytes h.to_client less long;
}

pub reads_same : {E S : Type 0} (link : Link E S) (d : Direction) (n : ℕ) → ((with_counted link d n).server_reader ≡ link.server_reader) × ((with_counted link d n).client_reader ≡ link.client_reader)
reads_same link ToServer n = (refl, refl)
reads_same link ToClient n = (refl, refl)

pub tied_after : {E S : Type 0} (link : Link E S) (d : Direction) (n : ℕ) (pipe new : Option Pipe) (bytes : List ℕ) → IsTied link pipe → link.is_cut ≡ false → n ≤ counted link d → length bytes ≡ n → new ≡ carried_on pipe d bytes → IsTied (with_counted link d (counted link d - n)) new
tied_after link d n pipe new bytes t live less long is =
    let after = with_counted link d (counted link d - n) in
    record {
      server_reads = ap (λ r. r.direction) (reads_same link d (counted link d - n)).0 ∙ t.server_reads;
      client_reads = ap (λ r. r.direction) (reads_same link d (counted link d - n)).1 ∙ t.client_reads;
      holds = λ uncut. subst (λ (p : Option Pipe). Holds after.to_server after.to_client p) (sym is) (holds_after link d n pipe bytes (t.holds live) less long);
    }

-- Nothing came.
stuck_holds : (up down : ℕ) (p : Option Pipe) (d : Direction) → Holds up down p → Holds up down (stuck_on p d)
stuck_holds up down None d h = absurd h.is_open
stuck_holds up down (Some p) ToServer h = record { is_open = h.is_open; to_server = h.to_server; to_client = h.to_client }
stuck_holds up down (Some p) ToClient h = record { is_open = h.is_open; to_server = h.to_server; to_client = h.to_client }

pub stuck_tied : {E S : Type 0} (link : Link E S) (p new : Option Pipe) (d : Direction) → new ≡ stuck_on p d → IsTied link p → IsTied link new
stuck_tied link p new d is t = record {
  server_reads = t.server_reads;
  client_reads = t.client_reads;
  holds = λ live. subst (Holds link.to_server link.to_client) (sym is) (stuck_holds link.to_server link.to_client p d (t.holds live));
}

-- ---- What came is what was handed over

-- There is so much left to come.
has_left : {E S : Type 0} (link : Link E S) (d : Direction) (pipe : Option Pipe) (n : ℕ) → Holds link.to_server link.to_client pipe → n ≤ counted link d → length (traffic pipe d).came + n ≤ length (traffic pipe d).handed
has_left link ToServer pipe n h less = omega (arith, h.to_server, less)
has_left link ToClient pipe n h less = omega (arith, h.to_client, less)

long_next : (t : Traffic) (n : ℕ) → length t.came + n ≤ length t.handed → length (next_of t n) ≡ n
long_next t n there =
    omega (arith, length-take n (drop (length t.came) t.handed), length-drop (length t.came) t.handed, there)

-- The next ones, and those behind them.
next_more : (t : Traffic) (n m : ℕ) → length t.came + n ≤ length t.handed → next_of t (n + m) ≡ next_of t n ++ next_of (carried t (next_of t n)) m
next_more t n m there =
    let at : length (t.came ++ next_of t n) ≡ length t.came + n = length-append t.came (next_of t n) ∙ ap (λ (k : ℕ). length t.came + k) (long_next t n there) in
    take-add n m (drop (length t.came) t.handed)
    ∙ ap (λ (xs : List ℕ). next_of t n ++ take m xs) (drop-drop n (length t.came) t.handed ∙ ap (λ (k : ℕ). drop k t.handed) (sym at))

-- What a connection has once these bytes came.
traffic_after : {E S : Type 0} (link : Link E S) (pipe : Option Pipe) (d : Direction) (bytes : List ℕ) → Holds link.to_server link.to_client pipe → traffic (carried_on pipe d bytes) d ≡ carried (traffic pipe d) bytes
traffic_after link None d bytes h = absurd h.is_open
traffic_after link (Some p) ToServer bytes h = refl
traffic_after link (Some p) ToClient bytes h = refl

carried_twice : {E S : Type 0} (link : Link E S) (pipe : Option Pipe) (d : Direction) (one two : List ℕ) → Holds link.to_server link.to_client pipe → carried_on (carried_on pipe d one) d two ≡ carried_on pipe d (one ++ two)
carried_twice link None d one two h = absurd h.is_open
carried_twice link (Some p) ToServer one two h =
    ap (λ (bs : List ℕ). Some (record p { to_server = record p.to_server { came = bs } })) (append_assoc p.to_server.came one two)
carried_twice link (Some p) ToClient one two h =
    ap (λ (bs : List ℕ). Some (record p { to_client = record p.to_client { came = bs } })) (append_assoc p.to_client.came one two)

-- More of them come.
pub brought_more : {E S : Type 0} (link : Link E S) (old pipe new : Option Pipe) (d : Direction) (n m : ℕ) (before mid after : List ℕ)
    → Holds link.to_server link.to_client old → n ≤ counted link d → Brings old d n before mid pipe false
    → after ≡ mid ++ take m (drop (length (traffic pipe d).came) (traffic pipe d).handed)
    → new ≡ carried_on pipe d (drop (length mid) after) → Brings old d (n + m) before after new false
brought_more link old pipe new d n m before mid after h less b more is =
    let t : Traffic = traffic old d in
    let now : traffic pipe d ≡ carried t (next_of t n) = ap (λ (p : Option Pipe). traffic p d) b.pipe ∙ traffic_after link old d (next_of t n) h in
    let next : List ℕ = next_of (carried t (next_of t n)) m in
    let all : next_of t (n + m) ≡ next_of t n ++ next = next_more t n m (has_left link d old n h less) in
    let added : after ≡ mid ++ next = more ∙ ap (λ (x : Traffic). mid ++ next_of x m) now in
    let tail : drop (length mid) after ≡ next = ap (drop (length mid)) added ∙ drop-append_seam mid next in
    record {
      bytes = added ∙ ap (λ (xs : List ℕ). xs ++ next) b.bytes ∙ append_assoc before (next_of t n) next ∙ ap (λ (xs : List ℕ). before ++ xs) (sym all);
      pipe =
          is ∙ ap (λ (xs : List ℕ). carried_on pipe d xs) tail
          ∙ ap (λ (p : Option Pipe). carried_on p d next) b.pipe
          ∙ carried_twice link old d (next_of t n) next h
          ∙ ap (λ (xs : List ℕ). carried_on old d xs) (sym all);
    }

-- The bytes that were appended are as many as were counted.
pub long_tail : (before after : List ℕ) (n : ℕ) → length after ≡ length before + n → length (drop (length before) after) ≡ n
long_tail before after n long = omega (arith, length-drop (length before) after, long)

pub no_error : (n : ℕ) (error : CarrierError) (r : Result ℕ CarrierError) → r ≡ Ok n → r ≡ Err error → ⊥
no_error n error r e f = absurd (cc)
