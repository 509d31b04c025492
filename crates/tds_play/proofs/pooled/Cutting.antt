-- The connection at a place of a player is cut, and its pool loses it.
use Rattle.std.proofs.Common.{◌≡◌, ◌≢◌, ◌∙◌, ℕ, suc, ◌<◌, Bool, true, false, List, [], ◌∷◌, length, get_or, Option, Some, None, eqb, refl, sym, ap, subst, arith}
use Rattle.std.proofs.lemmas.Option.{slice_get_within}
use Rattle.std.specs.List.{slice_get}
use Rattle.std.specs.Prelude.{slice_set}
use Rattle.tds_pool.specs.Calls.{all_numbers}
use Rattle.tds_pool.specs.Connections.{Connection as Pooled, PoolState, SameRest, connections, taken_out}
use Rattle.tds_pool.specs.declared.lease.Lease.{Lease}
use Rattle.tds_pool.specs.declared.lease.Ticket.{Ticket}
use Rattle.tds_world.specs.Connection.{Connection, cut}
use Rattle.tds_world.specs.World.{put}
use Rattle.tds_play.specs.declared.link.Link.{Link}
use Rattle.tds_play.specs.declared.player.Player.{Player}
use Rattle.tds_play.specs.declared.seat.Held.{Held}
use Rattle.tds_play.specs.Failures.{FailsNoMore, LiveAreSound}
use Rattle.tds_play.specs.Links.{cut_of}
use Rattle.tds_play.specs.Pipe.{BegunEvent, IsBeyond, Pipe, IsOpen, IsUncut}
use Rattle.tds_play.specs.Player.{AreHeld, all_of}
use Rattle.tds_play.specs.Plays.{RepresentConnections, RepresentsConnection}
use Rattle.tds_play.specs.Pooled.{AreKnown, ArePooled, number_unless, numbers_in, seat_in, seated_from, seated_in}
use Rattle.tds_play.specs.Reads.{AllRead, ReadsNoMore}
use Rattle.tds_play.specs.Seats.{Seated}
use Rattle.tds_play.specs.Steps.{AreCutTo, CutsAt, CutsSome, SameSetup}
use Rattle.tds_play.specs.Ties.{AreTied, KeepsTies}
use Rattle.tds_play.proofs.Accounts.{all_no_more, sound_set}
use Rattle.tds_play.proofs.AllCut.{put_changed, stays_cut}
use Rattle.tds_play.proofs.Listed.{by_test, changed, is_at, is_other}
use Rattle.tds_play.proofs.any_bytes.Answered.{cut_reads}
use Rattle.tds_play.proofs.any_bytes.Faithful.{faithful_to}
use Rattle.tds_play.proofs.pooled.Kept.{known_lost, pooled_lost}
use Rattle.tds_play.proofs.pooled.Moves.{seated_lost, set_again}
use Rattle.tds_play.proofs.pooled.Unseen.{held_as, number_at, read_at}
use Rattle.tds_play.proofs.pooled.Restarting.{setup_by}
use Rattle.tds_play.proofs.pooled.Settled.{cut_seat}
use Rattle.tds_play.proofs.pooled.Slots.{get_elsewhere, held_set, length_set, set_here}
use Rattle.tds_play.proofs.pooled.Steps.{in_player, place_of, stands_at, within_all}

-- ---- It isn't cut yet

pub is_uncut : (p : Option Pipe) → IsOpen p → IsUncut p
is_uncut None o = absurd o
is_uncut (Some p) o = o.0

-- ---- What changed

pub record IsCutAt {E S : Type 0} (place : ℕ) (old new : Player E S) (h k : Held E S) : Type 0 where
  pub at : slice_get old.links.items place ≡ Some h
  pub number : h.link.number ≡ suc place
  pub links : new.links.items ≡ slice_set old.links.items place k
  pub link : k.link ≡ cut_of h.link
  pub gone : connections new.pool ≡ taken_out (suc place) (connections old.pool)
  pub rest : SameRest old.pool new.pool
  pub setup : SameSetup old new
  pub leases : new.leases ≡ old.leases
  pub tickets : new.tickets ≡ old.tickets

pub cuts_at : {E S : Type 0} (place n : ℕ) (old new : Player E S) (h k : Held E S) (pipes : ℕ → Option Pipe)
    → AreTied (all_of old) pipes → place < length old.links.items → h ≡ get_or old.links.items place h
    → new.links.items ≡ slice_set old.links.items place k → k.link ≡ cut_of h.link
    → n ≡ h.link.number → connections new.pool ≡ taken_out n (connections old.pool) → SameRest old.pool new.pool
    → SameSetup old new → new.leases ≡ old.leases → new.tickets ≡ old.tickets
    → IsCutAt place old new h k
cuts_at {E} {S} place n old new h k pipes tied there is links link of_number gone rest setup leases tickets =
    let at : slice_get old.links.items place ≡ Some h = read_at old.links.items place h there is in
    let number : h.link.number ≡ suc place = number_at old place h pipes tied at in
    record {
      at = at;
      number = number;
      links = links;
      link = link;
      gone = gone ∙ ap (λ (m : ℕ). taken_out m (connections old.pool)) (of_number ∙ number);
      rest = rest;
      setup = setup;
      leases = leases;
      tickets = tickets;
    }

pub is_cut_then : {E S : Type 0} (place : ℕ) (old new : Player E S) (h k : Held E S) → IsCutAt place old new h k → k.link.is_cut ≡ true
is_cut_then {E} {S} place old new h k i = ap (λ (l : Link E S). l.is_cut) i.link

cut_seats : {E S : Type 0} (place : ℕ) (old new : Player E S) (h k : Held E S) → IsCutAt place old new h k → all_of new ≡ slice_set (all_of old) place (seated_in k None)
cut_seats {E} {S} place old new h k i =
    ap (λ (hs : List (Held E S)). seated_from 1 hs (connections new.pool)) i.links
    ∙ ap (seated_from 1 (slice_set old.links.items place k)) i.gone
    ∙ seated_lost place old.links.items k (connections old.pool)

-- ---- What stays so

pub cut_keeps : {E S : Type 0} (place : ℕ) (old new : Player E S) (h k : Held E S) (pipes pipes' : ℕ → Option Pipe) (told still : List BegunEvent) → IsCutAt place old new h k → KeepsTies h.link.number k.link pipes pipes' told still → ReadsNoMore h.link k.link (pipes h.link.number) (pipes' h.link.number) → FailsNoMore (pipes h.link.number) (pipes' h.link.number)
    → AreTied (all_of old) pipes → AreHeld old → new ≡ record old { links = new.links; pool = new.pool } → CutsSome old new pipes pipes' told still
cut_keeps {E} {S} place old new h k pipes pipes' told still i ties stays failed tied held rest = record {
  tied = subst (λ (ls : List (Seated E S)). AreTied ls pipes') (sym seats)
      (changed (all_of old) place (in_player h old) (seated_in k None) pipes pipes' tied (within_all old place h i.at) (stands_at old place h i.at i.number)
      (ap (λ (l : Link E S). l.number) i.link) ties.tied ties.others);
  held = held_as old new hs i.links i.setup
      (pooled_lost old.max old.size place old.links.items k old.pool new.pool held.pooled i.gone i.rest (is_cut_then place old new h k i))
      (subst (AreKnown new.leases new.tickets hs) (sym i.gone)
      (subst (λ (ls : List (Option Lease)). AreKnown ls new.tickets hs (taken_out (suc place) (connections old.pool))) (sym i.leases)
      (subst (λ (ts : List (Option Ticket)). AreKnown old.leases ts hs (taken_out (suc place) (connections old.pool))) (sym i.tickets)
      (known_lost old.leases old.tickets (suc place) old.links.items hs (connections old.pool) held.known (held_set old.links.items place k)))));
  count = ap length i.links ∙ length_set old.links.items place k;
  rest = rest;
  begun = ties.begun;
  others = λ n beyond. ties.others n (λ e. beyond place within_new (e ∙ i.number));
  faithful = faithful_to h.link.number pipes pipes' ties.others ties.faithful;
  sound = λ sound. subst (λ (ls : List (Seated E S)). LiveAreSound ls pipes') (sym seats)
      (sound_set (all_of old) place (seated_in k None) pipes pipes' sound (within_all old place h i.at) (λ j other. fail_no_more (suc j)) (λ live. absurd (uncut live)));
  reads = λ size so_far all. subst (λ (ls : List (Seated E S)). AllRead size ls pipes' so_far) (sym seats)
      (cut_reads size (all_of old) place (in_player h old) (seated_in k None) pipes pipes' so_far tied (within_all old place h i.at) (stands_at old place h i.at i.number) ties.others stays (λ live. absurd (uncut live)) all);
  failed = fail_no_more;
}
  where
    hs : List (Held E S)
    hs = slice_set old.links.items place k

    seats : all_of new ≡ slice_set (all_of old) place (seated_in k None)
    seats = cut_seats place old new h k i

    fail_no_more : (n : ℕ) → FailsNoMore (pipes n) (pipes' n)
    fail_no_more = all_no_more h.link.number pipes pipes' ties.others failed

    within_new : place < length new.links.items
    within_new = let within : place < length old.links.items = slice_get_within old.links.items place h i.at in omega (arith, within, ap length i.links ∙ length_set old.links.items place k)

    uncut : k.link.is_cut ≡ false → ⊥
    uncut live = let bad : true ≡ false = sym (is_cut_then place old new h k i) ∙ live in cc

-- ---- What it stands for

pub cut_played : {E S : Type 0} (place : ℕ) (old new : Player E S) (h k : Held E S) (pipes pipes' : ℕ → Option Pipe) (told still : List BegunEvent) → IsCutAt place old new h k → KeepsTies h.link.number k.link pipes pipes' told still → (size : ℕ) (engine : E) (cs : List Connection) (c : Connection)
    → (RepresentsConnection h.link.number size engine h.link (seat_in h old.pool) (pipes h.link.number) c → RepresentsConnection h.link.number size engine k.link (seat_in h old.pool) (pipes' h.link.number) (cut c))
    → slice_get cs place ≡ Some c → RepresentConnections 1 size engine (all_of old) pipes cs → RepresentConnections 1 size engine (all_of new) pipes' (put place (cut c) cs)
cut_played {E} {S} place old new h k pipes pipes' told still i ties size engine cs c cuts there all =
    subst (λ (ls : List (Seated E S)). RepresentConnections 1 size engine ls pipes' (put place (cut c) cs)) (sym (cut_seats place old new h k i))
    (put_changed size engine (all_of old) pipes pipes' cs place (in_player h old) (seated_in k None) c (cut c) (stands_at old place h i.at i.number) (within_all old place h i.at) ties.others there all
    (λ is. cut_seat h.link.number size engine k.link (seat_in h old.pool) (seated_in k None).seat (pipes' h.link.number) (cut c) (is_cut_then place old new h k i) (cuts is)))

-- ---- It was cut before

-- It is written back as it is.
pub unmoved : {E S : Type 0} (place : ℕ) (old new : Player E S) (h : Held E S) → place < length old.links.items → h ≡ get_or old.links.items place h → new.links.items ≡ slice_set old.links.items place h → new.pool ≡ old.pool → all_of new ≡ all_of old
unmoved {E} {S} place old new h there is links pool =
    ap (λ (hs : List (Held E S)). seated_from 1 hs (connections new.pool)) (links ∙ set_again old.links.items place h (read_at old.links.items place h there is))
    ∙ ap (λ (p : PoolState). seated_from 1 old.links.items (connections p)) pool

pub unmoved_keeps : {E S : Type 0} (place : ℕ) (old new : Player E S) (h : Held E S) (pipes : ℕ → Option Pipe) (told : List BegunEvent) → AreTied (all_of old) pipes → AreHeld old → place < length old.links.items → h ≡ get_or old.links.items place h
    → new.links.items ≡ slice_set old.links.items place h → new.pool ≡ old.pool → new ≡ record old { links = new.links; pool = new.pool } → CutsSome old new pipes pipes told told
unmoved_keeps {E} {S} place old new h pipes told tied held there is links pool rest = record {
  tied = subst (λ (ls : List (Seated E S)). AreTied ls pipes) (sym same) tied;
  held = held_as old new old.links.items again (setup_by old new rest)
      (subst (ArePooled old.max old.size old.links.items) (sym pool) held.pooled)
      (subst (λ (ls : List (Option Lease)). AreKnown ls new.tickets old.links.items (connections new.pool)) (sym (ap (λ (p : Player E S). p.leases) rest))
      (subst (λ (ts : List (Option Ticket)). AreKnown old.leases ts old.links.items (connections new.pool)) (sym (ap (λ (p : Player E S). p.tickets) rest))
      (subst (λ (p : PoolState). AreKnown old.leases old.tickets old.links.items (connections p)) (sym pool) held.known)));
  count = ap length again;
  rest = rest;
  begun = refl;
  others = λ n beyond. refl;
  faithful = λ count all. all;
  sound = λ sound. subst (λ (ls : List (Seated E S)). LiveAreSound ls pipes) (sym same) sound;
  reads = λ size so_far all. subst (λ (ls : List (Seated E S)). AllRead size ls pipes so_far) (sym same) all;
  failed = λ n call. refl;
}
  where
    again : new.links.items ≡ old.links.items
    again = links ∙ set_again old.links.items place h (read_at old.links.items place h there is)

    same : all_of new ≡ all_of old
    same = unmoved place old new h there is links pool

pub still_cut : {E S : Type 0} (place : ℕ) (player : Player E S) (h : Held E S) (pipes : ℕ → Option Pipe) → AreTied (all_of player) pipes → place < length player.links.items → h ≡ get_or player.links.items place h → h.link.is_cut ≡ true
    → (size : ℕ) (engine : E) (cs : List Connection) (c : Connection) → slice_get cs place ≡ Some c → RepresentConnections 1 size engine (all_of player) pipes cs → RepresentConnections 1 size engine (all_of player) pipes (put place (cut c) cs)
still_cut {E} {S} place player h pipes tied there is cut_there size engine cs c at_model all =
    let at : slice_get player.links.items place ≡ Some h = read_at player.links.items place h there is in
    let number : h.link.number ≡ suc place = number_at player place h pipes tied at in
    subst (λ (ls : List (Seated E S)). RepresentConnections 1 size engine ls pipes (put place (cut c) cs))
    (set_again (all_of player) place (in_player h player) (place_of player place h at number))
    (stays_cut size engine (all_of player) pipes cs place (in_player h player) c (stands_at player place h at number) (within_all player place h at) cut_there at_model all)

-- ---- All of them are cut

-- Some are, and then others.
pub cuts_more : {E S : Type 0} (old mid new : Player E S) (pipes between pipes' : ℕ → Option Pipe) (told so_far still : List BegunEvent) → CutsSome old mid pipes between told so_far → CutsSome mid new between pipes' so_far still → CutsSome old new pipes pipes' told still
cuts_more {E} {S} old mid new pipes between pipes' told so_far still some more = record {
  tied = more.tied;
  held = more.held;
  count = more.count ∙ some.count;
  rest = more.rest ∙ ap (λ (p : Player E S). record p { links = new.links; pool = new.pool }) some.rest;
  begun = more.begun ∙ some.begun;
  others = λ n beyond. more.others n beyond ∙ some.others n (subst (λ (count : ℕ). IsBeyond count n) more.count beyond);
  faithful = λ count all. some.faithful count (more.faithful count all);
  sound = λ sound. more.sound (some.sound sound);
  reads = λ size answers all. more.reads size answers (some.reads size answers all);
  failed = λ n call. more.failed n call ∙ some.failed n call;
}

-- None is.
pub cuts_none : {E S : Type 0} (player : Player E S) (pipes : ℕ → Option Pipe) (told : List BegunEvent) → AreTied (all_of player) pipes → AreHeld player → CutsSome player player pipes pipes told told
cuts_none player pipes told tied held = record {
  tied = tied;
  held = held;
  count = refl;
  rest = refl;
  begun = refl;
  others = λ n beyond. refl;
  faithful = λ count all. all;
  sound = λ sound. sound;
  reads = λ size answers all. all;
  failed = λ n call. refl;
}

-- The next one is.
pub one_more_cut : {E S : Type 0} (place then : ℕ) (old new : Player E S) → CutsAt place old new → then ≡ suc place → AreCutTo place old.links.items → AreCutTo then new.links.items
one_more_cut {E} {S} place then old new cuts next so_far i h below there =
    by_test (h.link.is_cut ≡ true) (eqb i place)
    (λ t.
    let here : slice_get new.links.items i ≡ Some cuts.now =
    ap (slice_get new.links.items) (is_at i place t) ∙ ap (λ (hs : List (Held E S)). slice_get hs place) cuts.links ∙ set_here old.links.items place cuts.was cuts.now cuts.at in
    let same : h ≡ cuts.now = (let e : Some h ≡ Some cuts.now = sym there ∙ here in cc) in
    ap (λ (x : Held E S). x.link.is_cut) same ∙ cuts.cut)
    (λ t.
    let other : i ≢ place = is_other i place t in
    let before : slice_get old.links.items i ≡ Some h =
    sym (get_elsewhere old.links.items place i cuts.now other) ∙ ap (λ (hs : List (Held E S)). slice_get hs i) (sym cuts.links) ∙ there in
    so_far i h (below_next i place then other next below) before)
  where
    below_next : (i place then : ℕ) → i ≢ place → then ≡ suc place → i < then → i < place
    below_next i place then other next below = by_test (i < place) (eqb i place) (λ t. absurd (other (is_at i place t))) (λ t. let differs : i ≢ place = is_other i place t in omega (arith, differs, next, below))

-- The pool has none of them.
numbers_none : {E S : Type 0} (number : ℕ) (hs : List (Held E S)) → ((i : ℕ) (h : Held E S) → slice_get hs i ≡ Some h → h.link.is_cut ≡ true) → numbers_in number hs ≡ []
numbers_none number [] all = refl
numbers_none {E} {S} number (h ∷ hs) all =
    ap (λ (b : Bool). number_unless b number (numbers_in (suc number) hs)) (all 0 h refl)
    ∙ numbers_none (suc number) hs (λ i k at. all (suc i) k at)

none_numbered : (cs : List Pooled) → all_numbers cs ≡ [] → cs ≡ []
none_numbered [] e = refl
none_numbered (c ∷ cs) e = let bad : c.number ∷ all_numbers cs ≡ [] = e in absurd (cc)

pub none_left : {E S : Type 0} (player : Player E S) (count : ℕ) → AreHeld player → count ≡ length player.links.items → AreCutTo count player.links.items → connections player.pool ≡ []
none_left {E} {S} player count held whole cut =
    none_numbered (connections player.pool)
    (held.pooled.numbers
    ∙ numbers_none 1 player.links.items (λ i h at. let within : i < length player.links.items = slice_get_within player.links.items i h at in cut i h (omega (arith, within, whole)) at))
