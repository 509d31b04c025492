-- An event of one connection that its carrier doesn't see: what it keeps, and what it comes to in the model. And the
-- slot of a lease or ticket that is taken.
use Rattle.std.proofs.Common.{◌≡◌, ◌∙◌, ℕ, zero, suc, ◌+◌, ◌<◌, ◌≤◌, min, List, [], ◌∷◌, ◌++◌, length, length-append, map, get_or, Option, Some, true, false, refl, sym, ap, subst, arith}
use Rattle.std.proofs.lemmas.Option.{get_or_from_slice_get, slice_get_read}
use Rattle.std.specs.List.{slice_get}
use Rattle.std.specs.Prelude.{option_map, slice_set}
use Rattle.tds_packet.specs.declared.kind.Direction.{Direction}
use Rattle.tds_ends.specs.ModelGives.{IsCountable, ModelGives}
use Rattle.tds_session.specs.Answer.{Answers}
use Rattle.tds_pool.specs.Connections.{PoolState, connections, numbered}
use Rattle.tds_pool.specs.declared.lease.Lease.{Lease}
use Rattle.tds_pool.specs.declared.lease.Ticket.{Ticket}
use Rattle.tds_world.specs.declared.event.Event.{Event}
use Rattle.tds_world.specs.declared.event.Setup.{Setup}
use Rattle.tds_world.specs.declared.outcome.Outcome.TheVariants as outcome
use Rattle.tds_world.specs.declared.outcome.Refusal.{Refusal}
use Rattle.tds_world.specs.Connection.{Connection}
use Rattle.tds_world.specs.Losses.{bringing, met}
use Rattle.tds_world.specs.World.{World}
use Rattle.tds_play.specs.declared.link.EventDone.{EventDone}
use Rattle.tds_play.specs.declared.link.Link.{Link}
use Rattle.tds_play.specs.declared.player.Player.{Player}
use Rattle.tds_play.specs.declared.seat.Held.{Held}
use Rattle.tds_play.specs.Failures.{FailsAs, HasNoFailure, calls_of}
use Rattle.tds_play.specs.Holdings.{conn_of}
use Rattle.tds_play.specs.Pipe.{BegunEvent, IsFaithful, Pipe}
use Rattle.tds_play.specs.Player.{AreHeld, ModelGivesEach, RepresentsWorld, all_of}
use Rattle.tds_play.specs.Plays.{IsReady, MayLose, RefinesAct, RepresentsConnection, acts_on, after, loss_of}
use Rattle.tds_play.specs.Pooled.{AreKnown, ArePooled, numbers_in, numbers_kept, numbers_leased, seat_in, seated_from, seated_in}
use Rattle.tds_play.specs.Reads.{IsReading, ReadsOn, delivers}
use Rattle.tds_play.specs.Seats.{Seat, Seated}
use Rattle.tds_play.specs.Seen.{done_as}
use Rattle.tds_play.specs.Steps.{GrowsByOne, IsNoted, SameSetup, StepsAt}
use Rattle.tds_play.specs.Ties.{AreTied, IsTied, KeepsTies}
use Rattle.tds_play.proofs.Failing.{whole_as}
use Rattle.tds_play.proofs.Losing.{whole_alike}
use Rattle.tds_play.proofs.Placed.{DoesWhole}
use Rattle.tds_play.proofs.any_bytes.Brought.{still_on}
use Rattle.tds_play.proofs.any_bytes.Stays.{stays}
use Rattle.tds_play.proofs.pooled.Changes.{SameBut}
use Rattle.tds_play.proofs.pooled.Ended.{known_slot, numbers_of}
use Rattle.tds_play.proofs.pooled.Moves.{set_again}
use Rattle.tds_play.proofs.pooled.Seated.{seated_get, seated_set}
use Rattle.tds_play.proofs.pooled.Steps.{in_player, within_all}

-- ---- The slot that is taken

pub record IsSlot {A : Type 0} (number : A → ℕ) (xs : List (Option A)) (n conn : ℕ) (x : A) : Type 0 where
  pub slot : ℕ
  pub is : n ≡ suc slot
  pub at : slice_get xs slot ≡ Some (Some x)
  pub conn_is : number x ≡ conn

same_number_is : {A : Type 0} (number : A → ℕ) (x : A) (conn : ℕ) → Some (number x) ≡ Some conn → number x ≡ conn
same_number_is number x conn e = cc

pub slot_of : {A : Type 0} (number : A → ℕ) (xs : List (Option A)) (n conn : ℕ) (x : A) → conn_of (map (option_map number) xs) n ≡ Some conn → Some x ≡ conn_of xs n → IsSlot number xs n conn x
slot_of number xs zero conn x holds taken = absurd (cc)
slot_of number xs (suc slot) conn x holds taken = record {
  slot = slot;
  is = refl;
  at = known_slot xs slot x (sym taken);
  conn_is = same_number_is number x conn (ap (option_map number) taken ∙ sym (numbers_of number xs (suc slot)) ∙ holds);
}

-- ---- The connection at the place

-- What was read there stands there.
pub read_at : {A : Type 0} (xs : List A) (place : ℕ) (x : A) → place < length xs → x ≡ get_or xs place x → slice_get xs place ≡ Some x
read_at xs place x there is = slice_get_read xs (length xs) place x refl there is

-- It has its number, and is tied.
pub tied_place : {E S : Type 0} (player : Player E S) (place : ℕ) (h : Held E S) (pipes : ℕ → Option Pipe) → AreTied (all_of player) pipes → slice_get player.links.items place ≡ Some h → (h.link.number ≡ suc place) × IsTied h.link (pipes (suc place))
tied_place {E} {S} player place h pipes tied at =
    let x : Seated E S = seated_in h (numbered (1 + place) (connections player.pool)) in
    let there : slice_get (all_of player) place ≡ Some x =
    seated_get 1 place player.links.items (connections player.pool)
    ∙ ap (option_map (λ (k : Held E S). seated_in k (numbered (1 + place) (connections player.pool)))) at in
    let is : get_or (all_of player) place x ≡ x = get_or_from_slice_get (all_of player) place x x there in (
      ap (λ (y : Seated E S). y.link.number) (sym is) ∙ tied.numbered place x (within_all player place h at),
      subst (λ (y : Seated E S). IsTied y.link (pipes (suc place))) is (tied.tied place x (within_all player place h at)),
    )

pub number_at : {E S : Type 0} (player : Player E S) (place : ℕ) (h : Held E S) (pipes : ℕ → Option Pipe) → AreTied (all_of player) pipes → slice_get player.links.items place ≡ Some h → h.link.number ≡ suc place
number_at player place h pipes tied at = (tied_place player place h pipes tied at).0

pub tied_at : {E S : Type 0} (player : Player E S) (place : ℕ) (h : Held E S) (pipes : ℕ → Option Pipe) → AreTied (all_of player) pipes → slice_get player.links.items place ≡ Some h → IsTied h.link (pipes h.link.number)
tied_at player place h pipes tied at =
    let both : (h.link.number ≡ suc place) × IsTied h.link (pipes (suc place)) = tied_place player place h pipes tied at in
    subst (λ (n : ℕ). IsTied h.link (pipes n)) (sym both.0) both.1

-- It changes, and the pool has the others as they were.
pub spared_all : {E S : Type 0} (old new : Player E S) (place : ℕ) (k : Held E S) → new.links.items ≡ slice_set old.links.items place k → k.link.number ≡ suc place → SameBut (suc place) (connections old.pool) (connections new.pool) → all_of new ≡ slice_set (all_of old) place (in_player k new)
spared_all {E} {S} old new place k links number others =
    let one : 1 + place ≡ suc place = omega arith in
    ap (λ (hs : List (Held E S)). seated_from 1 hs (connections new.pool)) links
    ∙ seated_set 1 place old.links.items k (connections old.pool) (connections new.pool) (λ m other. others m (λ is. other (is ∙ sym one)))
    ∙ ap (λ (n : ℕ). slice_set (all_of old) place (seated_in k (numbered n (connections new.pool)))) (one ∙ sym number)

-- ---- What a player keeps

pub held_as : {E S : Type 0} (old new : Player E S) (hs : List (Held E S)) → new.links.items ≡ hs → SameSetup old new → ArePooled old.max old.size hs new.pool → AreKnown new.leases new.tickets hs (connections new.pool) → AreHeld new
held_as {E} {S} old new hs links setup pooled known = record {
  pooled = record {
    numbers = pooled.numbers ∙ ap (numbers_in 1) (sym links);
    last = pooled.last ∙ ap length (sym links);
    max_is = pooled.max_is ∙ sym setup.max_is;
    size_is = pooled.size_is ∙ sym setup.size_is;
  };
  known = subst (λ (ks : List (Held E S)). AreKnown new.leases new.tickets ks (connections new.pool)) (sym links) known;
}

-- So many there are, where one more came.
pub one_longer : {A : Type 0} (xs : List A) (x : A) (most : ℕ) → length xs ≤ most → length (xs ++ x ∷ []) ≤ suc most
one_longer xs x most few =
    let many : length (xs ++ x ∷ []) ≡ length xs + 1 = length-append xs (x ∷ []) in
    omega (arith, many, few)

pub as_long : {A : Type 0} (xs ys : List A) (most : ℕ) → length ys ≡ length xs → length xs ≤ most → length ys ≤ suc most
as_long xs ys most same few = omega (arith, same, few)

pub first_next : (n next most : ℕ) → next ≡ min (suc n) 4294967295 → n ≤ most → most ≤ 9999 → next ≡ suc n
first_next n next most is few small = is ∙ omega (arith, few, small)

-- ---- An event that the carrier doesn't see

pub quiet_steps : {E S : Type 0} (answers : E → Answers) (e : Event) (place : ℕ) (old new : Player E S) (h k : Held E S) (pipes : ℕ → Option Pipe) (done : EventDone)
    → AreTied (all_of old) pipes → slice_get old.links.items place ≡ Some h → k.link ≡ h.link → done.lost ≡ false
    → ((d : Direction) → delivers e d ≡ false)
    → new.links.items ≡ slice_set old.links.items place k
    → SameBut (suc place) (connections old.pool) (connections new.pool)
    → (seat_in k new.pool).client.columns ≡ (seat_in h old.pool).client.columns
    → AreHeld new → SameSetup old new → GrowsByOne old new → IsNoted e (suc place) old new done.outcome
    → ((setup : Setup) (engine : E) (w : World) (c : Connection) → RepresentsWorld setup engine old pipes w → ModelGivesEach E (answers engine) setup w
    → RepresentsConnection h.link.number setup.packet_size engine h.link (seat_in h old.pool) (pipes h.link.number) c
    → (h.link.is_cut ≡ false → IsReady e c)
    → DoesWhole h.link.number setup.packet_size engine done h.link (seat_in k new.pool) (pipes h.link.number) (acts_on setup (answers engine) w e h.link.number c) c)
    → StepsAt answers e place old new pipes pipes [] [] done
quiet_steps {E} {S} answers e place old new h k pipes done tied at same whole silent links others columns held setup_same grows noted acts = record {
  was = h;
  now = k;
  at = at;
  number = number;
  links = links;
  all = spared_all old new place k links (ap (λ (l : Link E S). l.number) same ∙ number) others;
  held = held;
  same_number = ap (λ (l : Link E S). l.number) same;
  ties = record {
    tied = subst (λ (l : Link E S). IsTied l (pipes h.link.number)) (sym same) (tied_at old place h pipes tied at);
    others = λ n other. refl;
    begun = refl;
    faithful = λ f. f;
  };
  failed = λ fine. whole_as (calls_of e) done k.link (pipes h.link.number) whole fine;
  gone = λ cut. (refl, same, whole);
  loses = λ lost. let bad : true ≡ false = sym lost ∙ whole in absurd (cc);
  reads = λ size reads.
      subst (λ (l : Link E S). ReadsOn size e done.outcome l (seat_in k new.pool).client.columns (pipes h.link.number) (pipes h.link.number)) (sym same)
      (still_on size e done.outcome h.link h.link (seat_in h old.pool).client.columns (seat_in k new.pool).client.columns (pipes h.link.number) (pipes h.link.number) silent reads (stays h.link (pipes h.link.number)) columns);
  setup = setup_same;
  grows = grows;
  noted = noted;
  refines = λ setup engine w c told is promised promise played ready counts.
      subst (λ (l : Link E S). RefinesAct h.link.number setup.packet_size engine done l (seat_in k new.pool) (pipes h.link.number) (acts_on setup (answers engine) w (met (loss_of done) e) h.link.number c) c) (sym same)
      (whole_alike h.link.number setup.packet_size engine done h.link (seat_in k new.pool) (pipes h.link.number) (λ x. acts_on setup (answers engine) w x h.link.number c) e c (acts setup engine w c is promised played ready));
}
  where
    number : h.link.number ≡ suc place
    number = number_at old place h pipes tied at

-- One that it may see: what was told of its link and its seat, for its place.
pub touched_steps : {E S : Type 0} (answers : E → Answers) (e : Event) (place : ℕ) (old new : Player E S) (h k : Held E S) (pipes pipes' : ℕ → Option Pipe) (told still : List BegunEvent) (done : EventDone)
    → AreTied (all_of old) pipes → slice_get old.links.items place ≡ Some h → k.link.number ≡ h.link.number
    → new.links.items ≡ slice_set old.links.items place k
    → SameBut (suc place) (connections old.pool) (connections new.pool)
    → AreHeld new
    → KeepsTies h.link.number k.link pipes pipes' told still
    → (HasNoFailure (pipes h.link.number) → FailsAs (calls_of e) done k.link (pipes' h.link.number))
    → (h.link.is_cut ≡ true → (pipes' ≡ pipes) × (k.link ≡ h.link) × (done.lost ≡ false))
    → (done.lost ≡ true → MayLose h.link.is_cut e)
    → ((size : ℕ) → IsReading size h.link (seat_in h old.pool).client.columns (pipes h.link.number) → ReadsOn size e done.outcome k.link (seat_in k new.pool).client.columns (pipes h.link.number) (pipes' h.link.number))
    → SameSetup old new → GrowsByOne old new → IsNoted e (suc place) old new done.outcome
    → ((setup : Setup) (engine : E) (w : World) (c : Connection) → IsFaithful (pipes' h.link.number) → RepresentsWorld setup engine old pipes w → ModelGivesEach E (answers engine) setup w → ModelGives E (answers engine) setup.packet_size c
    → RepresentsConnection h.link.number setup.packet_size engine h.link (seat_in h old.pool) (pipes h.link.number) c
    → (h.link.is_cut ≡ false → IsReady e c)
    → ((n : ℕ) → IsCountable (after (acts_on setup (answers engine) w (bringing n e) h.link.number c) c))
    → RefinesAct h.link.number setup.packet_size engine done k.link (seat_in k new.pool) (pipes' h.link.number) (acts_on setup (answers engine) w (met (loss_of done) e) h.link.number c) c)
    → StepsAt answers e place old new pipes pipes' told still done
touched_steps answers e place old new h k pipes pipes' told still done tied at same links others held ties failed gone loses reads setup_same grows noted refines =
    let number : h.link.number ≡ suc place = number_at old place h pipes tied at in
    record {
      was = h;
      now = k;
      at = at;
      number = number;
      links = links;
      all = spared_all old new place k links (same ∙ number) others;
      held = held;
      same_number = same;
      ties = ties;
      failed = failed;
      gone = gone;
      loses = loses;
      reads = reads;
      setup = setup_same;
      grows = grows;
      noted = noted;
      refines = refines;
    }

-- One that is refused changes nothing.
pub refused_steps : {E S : Type 0} (answers : E → Answers) (e : Event) (place : ℕ) (old new : Player E S) (h k : Held E S) (pipes : ℕ → Option Pipe) (done : EventDone) (why : Refusal)
    → AreTied (all_of old) pipes → AreHeld old → slice_get old.links.items place ≡ Some h → k ≡ h
    → ((d : Direction) → delivers e d ≡ false)
    → new.links.items ≡ slice_set old.links.items place k
    → new.pool ≡ old.pool → new.leases ≡ old.leases → new.tickets ≡ old.tickets → new.asked_on.items ≡ old.asked_on.items
    → SameSetup old new → done ≡ done_as (outcome.Refused why)
    → ((setup : Setup) (engine : E) (w : World) (c : Connection) → RepresentsWorld setup engine old pipes w → ModelGivesEach E (answers engine) setup w
    → RepresentsConnection h.link.number setup.packet_size engine h.link (seat_in h old.pool) (pipes h.link.number) c
    → (h.link.is_cut ≡ false → IsReady e c)
    → DoesWhole h.link.number setup.packet_size engine done h.link (seat_in h old.pool) (pipes h.link.number) (acts_on setup (answers engine) w e h.link.number c) c)
    → StepsAt answers e place old new pipes pipes [] [] done
refused_steps {E} {S} answers e place old new h k pipes done why tied held at same silent links pool leases tickets asked setup_same is acts =
    quiet_steps answers e place old new h k pipes done tied at (ap (λ (x : Held E S). x.link) same) (ap (λ (d : EventDone). d.lost) is) silent links
    (λ m other. ap (λ (p : PoolState). numbered m (connections p)) pool)
    (ap (λ (x : Seat). x.client.columns) seat_same)
    (held_as old new old.links.items links_same setup_same
    (subst (ArePooled old.max old.size old.links.items) (sym pool) held.pooled)
    (subst (λ (p : PoolState). AreKnown new.leases new.tickets old.links.items (connections p)) (sym pool)
    (subst (λ (ls : List (Option Lease)). AreKnown ls new.tickets old.links.items (connections old.pool)) (sym leases)
    (subst (λ (ts : List (Option Ticket)). AreKnown old.leases ts old.links.items (connections old.pool)) (sym tickets) held.known))))
    setup_same
    (λ most f. record {
      links_few = as_long old.links.items new.links.items most (ap length links_same) f.links_few;
      leases_few = as_long old.leases new.leases most (ap length leases) f.leases_few;
      tickets_few = as_long old.tickets new.tickets most (ap length tickets) f.tickets_few;
    })
    (record {
      refused = λ because z. record {
        leases_are = ap numbers_leased leases;
        tickets_are = ap numbers_kept tickets;
        asked_are = asked;
      };
      applied = λ no. absurd (no why (ap (λ (d : EventDone). d.outcome) is));
    })
    (λ setup engine w c world promised played ready.
    subst (λ (x : Seat). DoesWhole h.link.number setup.packet_size engine done h.link x (pipes h.link.number) (acts_on setup (answers engine) w e h.link.number c) c) (sym seat_same)
    (acts setup engine w c world promised played ready))
  where
    links_same : new.links.items ≡ old.links.items
    links_same = links ∙ ap (slice_set old.links.items place) same ∙ set_again old.links.items place h at

    seat_same : seat_in k new.pool ≡ seat_in h old.pool
    seat_same = ap (λ (x : Held E S). seat_in x new.pool) same ∙ ap (seat_in h) pool
