-- What an application takes back is cancelled: so it is of pieces one behind the other.
use Rattle.std.proofs.Common.{Bool, true, false, ◌≡◌, ◌≢◌, ◌∙◌, ◌⊎◌, ◌++◌, ◌≤◌, arith, ℕ, List, [], ◌∷◌, Option, Some, None, refl, sym, ap, subst, inl, inr, drop, append_assoc}
use Rattle.std.specs.Prelude.{Result, Ok, Err, OnOk, IsSome, take}
use Rattle.tds_packet.specs.declared.status.Reset.{Reset}
use Rattle.tds_front.specs.declared.fault.FrontFault.{FrontFault}
use Rattle.tds_front.specs.declared.front.Fed.{Fed}
use Rattle.tds_front.specs.declared.front.Front.{Front}
use Rattle.tds_front.specs.declared.front.Said.{Said}
use Rattle.tds_front.specs.declared.front.Said.TheVariants as said
use Rattle.tds_front.specs.Bytes.{fed}
use Rattle.tds_relay.specs.Asking.{said_of}
use Rattle.tds_relay.specs.Bodies.{Body, BodyAndWaits, Closed, Closes, IsClosedAsEnd, Starts, body_of, standing_in, taken_of}
use Rattle.tds_relay.specs.Cleaning.{LeavesAll}
use Rattle.tds_relay.specs.Waking.{AreHeeded, Heeds, HeedsAll, HeedsServed, RestsFrom, is_fault, is_against}
use Rattle.tds_relay.specs.declared.pool.Hold.{Hold}
use Rattle.tds_relay.specs.declared.relay.Relay as code
use Rattle.tds_relay.specs.Pool.{Event, Pool, find_number, key_of, pool_after, turn}
use Rattle.tds_relay.specs.Lent.{Keeps, KeepsGiven, KeepsWaits, Lends, LendsInLine, MayBeLent, OfWaiting}
use Rattle.tds_relay.specs.Fronts.{ClosesInstead, FedOn, IsFed, Moved, MovedOn, TakesBetween, core_in, core_of_ends, given_by, machine_in, machine_with}
use Rattle.tds_relay.specs.Core.{End, EndList, Feeds, Core, Move, Moves, Open, change_end, closes_for, end_at, events_of, is_in, moved, moved_all}
use Rattle.tds_relay.specs.Machine.{Machine, Step, Admits, Hands, Makes, Removes, Takes, Writes, after, after_all, moves_of, owed, put_some}
use Rattle.tds_relay.specs.Queues.{Queues, change, queues_in}
use Rattle.tds_relay.specs.declared.link.Link.{Link}
use Rattle.tds_relay.specs.Reads.{FillsAt, StaysAt, waits_on}
use Rattle.tds_relay.specs.Taking.{IsDeaf, Tells, count_by, bytes_left_by}
use Rattle.tds_relay.specs.Ties.{Application, IsReached}
use Rattle.tds_relay.specs.Sparing.{AwayRest}
use Rattle.tds_relay.proofs.spared.Filling.{waits_queued}
use Rattle.tds_relay.proofs.steps.Asked.{said_is}
use Rattle.tds_relay.proofs.steps.Fed.{left_fed, waits_fed}
use Rattle.tds_relay.proofs.steps.Fronts.{no_moves}
use Rattle.tds_relay.proofs.steps.Staying.{fills_both, fills_refl}
use Rattle.tds_relay.proofs.steps.Stepping.{makes_all}
use Rattle.tds_relay.proofs.steps.Tied.{closed_deaf, relay_tied}
use Rattle.tds_relay.proofs.steps.Still.{put_shut, same_at}
use Rattle.tds_relay.proofs.steps.Reaching.{reached_next}
use Rattle.tds_relay.proofs.steps.Told.{tells_begin, tells_deaf, tells_moves, tells_takes}

-- ---- Where it stands

same_then : (o p q : Option (List ℕ)) → StaysAt o p → StaysAt p q → StaysAt o q
same_then o p None h k = tt
same_then o p (Some bytes) h k = subst (λ (x : Option (List ℕ)). StaysAt o x) k h

same_fills : (o p : Option (List ℕ)) → StaysAt o p → FillsAt o p
same_fills o None h = tt
same_fills o (Some bytes) h = subst (λ (x : Option (List ℕ)). FillsAt o x) h (fills_refl o)

rest_refl : (a : BodyAndWaits) → RestsFrom a a
rest_refl a = inl (refl, λ number. same_at (a.1 number))

rest_fills : (a b : BodyAndWaits) → RestsFrom a b → (number : ℕ) → FillsAt (a.1 number) (b.1 number)
rest_fills a b (inl s) number = same_fills (a.1 number) (b.1 number) (s.1 number)
rest_fills a b (inr s) number = s.2 number

rest_both : (a b c : BodyAndWaits) → RestsFrom a b → RestsFrom b c → RestsFrom a c
rest_both a b c (inl s) (inl t) = inl (t.0 ∙ s.0, λ number. same_then (a.1 number) (b.1 number) (c.1 number) (s.1 number) (t.1 number))
rest_both a b c (inr s) (inl t) = inr (t.0 ∙ s.0, s.1, λ number. fills_both (a.1 number) (b.1 number) (c.1 number) (s.2 number) (same_fills (b.1 number) (c.1 number) (t.1 number)))
rest_both a b c (inl s) (inr t) = inr (t.0, λ e. t.1 (s.0 ∙ e), λ number. fills_both (a.1 number) (b.1 number) (c.1 number) (rest_fills a b (inl s) number) (t.2 number))
rest_both a b c (inr s) (inr t) = inr (t.0, s.1, λ number. fills_both (a.1 number) (b.1 number) (c.1 number) (s.2 number) (t.2 number))

-- whose end is open isn't closed
unclosed : (o : Option End) (front : Front) (withdrawn : Bool) (asks : Option Reset) (b : Body) → o ≡ Some (Open front withdrawn asks) → IsClosedAsEnd o b → b ≢ Closed
unclosed o front withdrawn asks b was closed e =
    let shut : IsClosedAsEnd o Closed = subst (IsClosedAsEnd o) e closed in
    absurd (subst (λ (p : Option End). IsClosedAsEnd p Closed) was shut)

-- ---- Steps one behind the other

module _ (R : Type 0) (key : ℕ) where
  none_heeded : (h : Machine) (moves : List Move) (a b : BodyAndWaits) → RestsFrom a b → AreHeeded R key h (makes_all moves) a b
  none_heeded h [] a b s = s
  none_heeded h (move ∷ moves) a b s = none_heeded (after h (Makes move)) moves a b s

  starts_heeded : (h : Machine) (xs : List Step) (a b c : BodyAndWaits) → RestsFrom a b → AreHeeded R key h xs b c → AreHeeded R key h xs a c
  starts_heeded h [] a b c s f = rest_both a b c s f
  starts_heeded h (Takes other bytes ∷ xs) a b c s f = (f.0, f.1, rest_both a b f.0 s f.2, f.3, f.4, f.5)
  starts_heeded h (Makes move ∷ xs) a b c s f = starts_heeded (after h (Makes move)) xs a b c s f
  starts_heeded h (Hands number header content part way manner ∷ xs) a b c s f = starts_heeded (after h (Hands number header content part way manner)) xs a b c s f
  starts_heeded h (Writes other count ∷ xs) a b c s f = starts_heeded (after h (Writes other count)) xs a b c s f
  starts_heeded h (Admits other ends queues ∷ xs) a b c s f = starts_heeded (after h (Admits other ends queues)) xs a b c s f
  starts_heeded h (Removes other gives way ∷ xs) a b c s f = starts_heeded (after h (Removes other gives way)) xs a b c s f

  heeded_both : (h : Machine) (xs ys : List Step) (a b c : BodyAndWaits) → AreHeeded R key h xs a b → AreHeeded R key (after_all h xs) ys b c → AreHeeded R key h (xs ++ ys) a c
  heeded_both h [] ys a b c f g = starts_heeded h ys a b c f g
  heeded_both h (Takes other bytes ∷ xs) ys a b c f g = (f.0, f.1, f.2, f.3, f.4, heeded_both (after h (Takes other bytes)) xs ys f.1 b c f.5 g)
  heeded_both h (Makes move ∷ xs) ys a b c f g = heeded_both (after h (Makes move)) xs ys a b c f g
  heeded_both h (Hands number header content part way manner ∷ xs) ys a b c f g = heeded_both (after h (Hands number header content part way manner)) xs ys a b c f g
  heeded_both h (Writes other count ∷ xs) ys a b c f g = heeded_both (after h (Writes other count)) xs ys a b c f g
  heeded_both h (Admits other ends queues ∷ xs) ys a b c f g = heeded_both (after h (Admits other ends queues)) xs ys a b c f g
  heeded_both h (Removes other gives way ∷ xs) ys a b c f g = heeded_both (after h (Removes other gives way)) xs ys a b c f g

  taken_heeded : (old h : Machine) (left : List ℕ) (xs : List Step) (moves : List Move) (a b c : BodyAndWaits) → after_all old xs ≡ h → AreHeeded R key old xs a b → IsClosedAsEnd (end_at h.core.ends key) b.0
      → Heeds R (said_of left (end_at h.core.ends key)) (is_against left (end_at h.core.ends key)) (taken_of left (end_at h.core.ends key)) b c → AreHeeded R key old ((xs ++ Takes key left ∷ []) ++ makes_all moves) a c
  taken_heeded old h left xs moves a b c e f closed o =
      subst (λ (steps : List Step). AreHeeded R key old steps a c) (sym (append_assoc xs (Takes key left ∷ []) (makes_all moves)))
      (heeded_both old xs (Takes key left ∷ makes_all moves) a b c f
      (subst (λ (x : Machine). AreHeeded R key x (Takes key left ∷ makes_all moves) b c) (sym e) (b, c, rest_refl b, closed, o, none_heeded (after h (Takes key left)) moves c c (rest_refl c))))

-- ---- Where it was reached

reached_events : (d : Pool) (events : List Event) → IsReached d → IsReached (pool_after d events)
reached_events d [] reached = reached
reached_events d (event ∷ events) reached = reached_events (turn d event).pool events (reached_next d event reached)

reached_moves : (h : Core) (moves : List Move) → IsReached h.pool → IsReached (moved_all h moves).pool
reached_moves h [] reached = reached
reached_moves h (move ∷ moves) reached = reached_moves (moved h move) moves (reached_events h.pool (events_of h move) reached)

reached_steps : (h : Machine) (steps : List Step) → IsReached h.core.pool → IsReached (after_all h steps).core.pool
reached_steps h [] reached = reached
reached_steps h (step ∷ steps) reached = reached_steps (after h step) steps (reached_moves h.core (moves_of step) reached)

pub tells_reached : (key : ℕ) (old : Machine) (bytes left : List ℕ) (new : Machine) → Tells key old bytes left new → IsReached old.core.pool → IsReached new.core.pool
tells_reached key old bytes left new t reached = subst (λ (h : Machine). IsReached h.core.pool) t.are (reached_steps old t.steps reached)

-- ---- Of a call

pub cancels_begin : (key : ℕ) (h : Machine) (bytes : List ℕ) (b : BodyAndWaits) → IsClosedAsEnd (end_at h.core.ends key) b.0 → HeedsAll key h bytes bytes b b h
cancels_begin key h bytes b closed = record { tells = tells_begin key h bytes; heeded = rest_refl b; closed = closed }

pub cancels_left : (key : ℕ) (old new : Machine) (bytes left rest : List ℕ) (a b : BodyAndWaits) → rest ≡ left → HeedsAll key old bytes left a b new → HeedsAll key old bytes rest a b new
cancels_left key old new bytes left rest a b is t = subst (λ (xs : List ℕ). HeedsAll key old bytes xs a b new) (sym is) t

-- it is to be closed, so the others aren't taken
pub cancels_deaf : (key : ℕ) (old new : Machine) (bytes left rest : List ℕ) (a b : BodyAndWaits) → IsDeaf (end_at new.core.ends key) → HeedsAll key old bytes left a b new → HeedsAll key old bytes rest a b new
cancels_deaf key old new bytes left rest a b deaf t = record { tells = tells_deaf key old new bytes left rest deaf t.tells; heeded = t.heeded; closed = t.closed }

-- the core moves on, and the body rests
cancels_moves : (key : ℕ) (old : Machine) (bytes left : List ℕ) (a b c : BodyAndWaits) (h h1 : Core) (ps ps1 : Queues) → Moves (Application key) h h1 → ps1 ≡ ps → RestsFrom b c
    → IsClosedAsEnd (end_at h1.ends key) c.0 → HeedsAll key old bytes left a b (record { core = h; queues = ps }) → HeedsAll key old bytes left a c (record { core = h1; queues = ps1 })
cancels_moves key old bytes left a b c h h1 ps ps1 m kept s closed t = record {
  tells = tells_moves key old bytes left h h1 ps ps1 m kept t.tells;
  heeded = heeded_both (IsReached old.core.pool) key old t.tells.steps (makes_all m.moves) a b c t.heeded (none_heeded (IsReached old.core.pool) key (after_all old t.tells.steps) m.moves b c s);
  closed = closed;
}

pub cancels_moved : (key : ℕ) (old : Machine) (bytes left : List ℕ) (a b c : BodyAndWaits) (h h1 : Core) (ps ps1 : Queues) → Moved (Application key) h h1 → ps1 ≡ ps → RestsFrom b c
    → IsClosedAsEnd (end_at h1.ends key) c.0 → HeedsAll key old bytes left a b (record { core = h; queues = ps }) → HeedsAll key old bytes left a c (record { core = h1; queues = ps1 })
cancels_moved key old bytes left a b c h h1 ps ps1 m kept s closed t = cancels_moves key old bytes left a b c h h1 ps ps1 (m h (no_moves (Application key) h)) kept s closed t

-- ---- Bytes are taken, and then it goes on

taken_is : (bytes : List ℕ) (o : Option End) (front : Front) (withdrawn : Bool) (asks : Option Reset) (brings : Result Fed FrontFault) → o ≡ Some (Open front withdrawn asks) → (fed front bytes).brings ≡ brings
    → taken_of bytes o ≡ take (count_by brings bytes) bytes
taken_is bytes o front withdrawn asks brings was says = ap (taken_of bytes) was ∙ ap (λ (r : Result Fed FrontFault). take (count_by r bytes) bytes) says

cancels_taken : (key : ℕ) (old : Machine) (bytes left rest : List ℕ) (a b c : BodyAndWaits) (h : Machine) (h1 : Core) (ps1 : Queues) (front : Front) (withdrawn : Bool) (asks : Option Reset) → end_at h.core.ends key ≡ Some (Open front withdrawn asks)
    → bytes_left_by left (end_at h.core.ends key) ≡ rest → change key (put_some (owed left (end_at h.core.ends key))) h.queues ≡ ps1 → Moves (Application key) (moved h.core (Feeds key left)) h1
    → Heeds (IsReached old.core.pool) (said_of left (end_at h.core.ends key)) (is_against left (end_at h.core.ends key)) (taken_of left (end_at h.core.ends key)) b c → IsClosedAsEnd (end_at h1.ends key) c.0 → HeedsAll key old bytes left a b h
    → HeedsAll key old bytes rest a c (record { core = h1; queues = ps1 })
cancels_taken key old bytes left rest a b c h h1 ps1 front withdrawn asks opened left_is waits m o closed t = record {
  tells = tells_moves key old bytes rest (moved h.core (Feeds key left)) h1 ps1 ps1 m refl (tells_takes key old bytes left rest h ps1 front withdrawn asks opened left_is waits t.tells);
  heeded = taken_heeded (IsReached old.core.pool) key old h left t.tells.steps m.moves a b c t.tells.are t.heeded t.closed o;
  closed = closed;
}

-- ---- As it is done

refuses_by : (left : List ℕ) (o : Option End) (front : Front) (withdrawn : Bool) (asks : Option Reset) (brings : Result Fed FrontFault) → o ≡ Some (Open front withdrawn asks) → (fed front left).brings ≡ brings → is_against left o ≡ is_fault brings
refuses_by left o front withdrawn asks brings opened says = ap (is_against left) opened ∙ ap is_fault says

pub cancels_refused : (key : ℕ) (old : Machine) (bytes left rest : List ℕ) (a b c : BodyAndWaits) (h : Machine) (h1 : Core) (ps1 : Queues) (front : Front) (withdrawn : Bool) (asks : Option Reset) (fault : FrontFault) → end_at h.core.ends key ≡ Some (Open front withdrawn asks)
    → change key (put_some (owed left (end_at h.core.ends key))) h.queues ≡ h.queues → moved h.core (Feeds key left) ≡ core_of_ends h.core.pool (change_end key (closes_for (Some fault)) h.core.ends) → (fed front left).brings ≡ Err fault
    → Moved (Application key) (core_of_ends h.core.pool (change_end key (closes_for (Some fault)) h.core.ends)) h1 → ps1 ≡ h.queues → c.0 ≡ Closed → ((number : ℕ) → FillsAt (b.1 number) (c.1 number)) → (IsReached h.core.pool → LeavesAll b.1 c.1)
    → IsDeaf (end_at h1.ends key) → HeedsAll key old bytes left a b h → HeedsAll key old bytes rest a c (record { core = h1; queues = ps1 })
cancels_refused key old bytes left rest a b c h h1 ps1 front withdrawn asks fault opened waits is says m kept shut fills lets deaf t =
    let R : Type 0 = IsReached old.core.pool in
    let end : Option End = end_at h.core.ends key in
    let fed : Moves (Application key) (moved h.core (Feeds key left)) h1 = m (moved h.core (Feeds key left)) (subst (Moves (Application key) (moved h.core (Feeds key left))) is (no_moves (Application key) (moved h.core (Feeds key left)))) in
    let closes : Heeds R said.Nothing true (taken_of left end) b c = record {
      obeys = record { mid = b.0; does = refl; starts = subst (Starts b.0) (sym shut) Closes };
      fills = fills;
      cancels = tt;
      puts = put_shut b.1 b.0 c shut;
      closes = (shut, λ reached. lets (tells_reached key old bytes left h t.tells reached));
    } in
    let heeds : Heeds R (said_of left end) (is_against left end) (taken_of left end) b c =
    subst (λ (yes : Bool). Heeds R (said_of left end) yes (taken_of left end) b c) (sym (refuses_by left end front withdrawn asks (Err fault) opened says))
    (subst (λ (answer : Said). Heeds R answer true (taken_of left end) b c) (sym (said_is left end front withdrawn asks (Err fault) opened says)) closes) in
    cancels_deaf key old (record { core = h1; queues = ps1 }) bytes (bytes_left_by left end) rest a c deaf
    (cancels_taken key old bytes left (bytes_left_by left end) a b c h h1 ps1 front withdrawn asks opened refl (waits ∙ sym kept) fed heeds (closed_deaf (end_at h1.ends key) c.0 deaf) t)

cancels_between : (key : ℕ) (old : Machine) (bytes left rest : List ℕ) (a b c : BodyAndWaits) (d : Pool) (before now : EndList) (ps ps1 : Queues) (h1 : Core) (answer : Said) → (f : IsFed key before now left answer)
    → TakesBetween key (core_of_ends d before) left h1 ⊎ ClosesInstead key answer (core_of_ends d before) h1 → Heeds (IsReached old.core.pool) answer false (take f.count left) b c → rest ≡ drop f.count left → ps1 ≡ given_by key answer ps
    → (IsDeaf (end_at h1.ends key) → (c.0 ≡ Closed) × ((number : ℕ) → FillsAt (b.1 number) (c.1 number))) → IsClosedAsEnd (end_at h1.ends key) c.0 → HeedsAll key old bytes left a b (machine_with d before ps)
    → HeedsAll key old bytes rest a c (record { core = h1; queues = ps1 })
cancels_between key old bytes left rest a b c d before now ps ps1 h1 answer f (inl m) o is given shut closed t =
    let R : Type 0 = IsReached old.core.pool in
    let same : end_at m.mid.ends key ≡ end_at before key = ap (λ (es : EndList). end_at es key) m.same in
    cancels_taken key old bytes left rest a b c (record { core = m.mid; queues = ps }) h1 ps1 f.front f.withdrawn f.asks (same ∙ f.was)
    (ap (bytes_left_by left) same ∙ left_fed key before now left answer f ∙ sym is)
    (ap (λ (o : Option End). change key (put_some (owed left o)) ps) same ∙ waits_fed key before now left answer ps f ∙ sym given)
    m.next
    (subst (λ (yes : Bool). Heeds R (said_of left (end_at m.mid.ends key)) yes (taken_of left (end_at m.mid.ends key)) b c) (sym (refuses_by left (end_at m.mid.ends key) f.front f.withdrawn f.asks (Ok (record { count = f.count; said = answer })) (same ∙ f.was) f.says))
    (subst (λ (said : Said). Heeds R said false (taken_of left (end_at m.mid.ends key)) b c) (sym (said_is left (end_at m.mid.ends key) f.front f.withdrawn f.asks (Ok (record { count = f.count; said = answer })) (same ∙ f.was) f.says))
    (subst (λ (xs : List ℕ). Heeds R answer false xs b c) (sym (taken_is left (end_at m.mid.ends key) f.front f.withdrawn f.asks (Ok (record { count = f.count; said = answer })) (same ∙ f.was) f.says)) o)))
    closed
    (cancels_moves key old bytes left a b b (core_of_ends d before) m.mid ps ps m.first refl (rest_refl b) (subst (λ (o : Option End). IsClosedAsEnd o b.0) (sym same) t.closed) t)
cancels_between key old bytes left rest a b c d before now ps ps1 h1 answer f (inr k) o is given shut closed t =
    cancels_deaf key old (record { core = h1; queues = ps1 }) bytes left rest a c k.deaf
    (cancels_moves key old bytes left a b c (core_of_ends d before) h1 ps ps1 k.moves (given ∙ k.nothing ps) (inr ((shut k.deaf).0, unclosed (end_at before key) f.front f.withdrawn f.asks b.0 f.was t.closed, (shut k.deaf).1)) closed t)

pub cancels_fed : (key : ℕ) (old : Machine) (bytes left rest : List ℕ) (a b c : BodyAndWaits) (d : Pool) (before now : EndList) (ps ps1 : Queues) (h1 : Core) (answer : Said) → FedOn key answer d now h1 → (f : IsFed key before now left answer)
    → Heeds (IsReached old.core.pool) answer false (take f.count left) b c → rest ≡ drop f.count left → ps1 ≡ given_by key answer ps → (IsDeaf (end_at h1.ends key) → (c.0 ≡ Closed) × ((number : ℕ) → FillsAt (b.1 number) (c.1 number)))
    → IsClosedAsEnd (end_at h1.ends key) c.0 → HeedsAll key old bytes left a b (machine_with d before ps) → HeedsAll key old bytes rest a c (record { core = h1; queues = ps1 })
cancels_fed key old bytes left rest a b c d before now ps ps1 h1 answer on f o is given shut closed t =
    cancels_between key old bytes left rest a b c d before now ps ps1 h1 answer f (on before left f) o is given shut closed t

-- ---- And those who wait are served

waits_same : (w v : Option (List ℕ)) → (v ≡ None) ⊎ (v ≡ w) → StaysAt w v
waits_same w v (inl none) = subst (λ (x : Option (List ℕ)). StaysAt w x) (sym none) tt
waits_same w v (inr same) = subst (λ (x : Option (List ℕ)). StaysAt w x) (sym same) (same_at w)

-- who holds it waits for none
held_lent : (key number : ℕ) (line : List ℕ) (had : List Hold) (old : List Link) (holds : List Hold) (new : List Link) → is_in key line ≡ false → key_of (find_number number had) ≡ Some key
    → MayBeLent number line had old holds new → KeepsWaits number old new
held_lent key number line had old holds new away its (OfWaiting hold is waits) =
    let same : hold.key ≡ key = (let u : Some hold.key ≡ Some key = sym (ap key_of is) ∙ its in cc) in
    absurd (let u : true ≡ false = sym (subst (λ (k : ℕ). is_in k line ≡ true) same waits) ∙ away in let v : ⊥ = cc in v)
held_lent key number line had old holds new away its (Keeps held kept) = kept
held_lent key number line had old holds new away its (Lends none some) = absurd (let u : None ≡ Some key = sym (ap key_of none) ∙ its in let v : ⊥ = cc in v)

-- nobody does
held_free : (o : Option Hold) → IsSome o → key_of o ≡ None → ⊥
held_free None some none = let u : ⊥ = cc in u
held_free (Some hold) some none = let u : ⊥ = cc in u

free_lent : (number : ℕ) (line : List ℕ) (had : List Hold) (old : List Link) (holds : List Hold) (new : List Link) → key_of (find_number number had) ≡ None → key_of (find_number number holds) ≡ None
    → MayBeLent number line had old holds new → KeepsWaits number old new
free_lent number line had old holds new before behind (OfWaiting hold is waits) = absurd (let u : Some hold.key ≡ None = sym (ap key_of is) ∙ before in let v : ⊥ = cc in v)
free_lent number line had old holds new before behind (Keeps held kept) = kept
free_lent number line had old holds new before behind (Lends none some) = absurd (held_free (find_number number holds) some behind)

pub cancels_served : {A E : Type 0} (r : Result A E) (key last : ℕ) (old : Machine) (bytes : List ℕ) (a : BodyAndWaits) (mid new : code.Relay) → HeedsAll key old bytes [] a (standing_in key mid) (machine_in mid)
    → OnOk r (MovedOn (core_in mid) (core_in new)) → OnOk r (queues_in new.applications ≡ queues_in mid.applications) → OnOk r (Starts (body_of key mid) (body_of key new)) → OnOk r (AwayRest mid new) → last ≤ mid.pool.service.last → OnOk r (KeepsGiven mid new)
    → OnOk r (LendsInLine mid new) → OnOk r (HeedsServed key last old bytes a (standing_in key new) (machine_in new))
cancels_served (Ok x) key last old bytes a mid new heeds moves kept starts rest rises given lends = record {
  at = machine_in mid;
  mid = standing_in key mid;
  heeds = heeds;
  moves = moves;
  kept = kept;
  starts = starts;
  rests = λ away. rest.rest key away;
  fills = λ number le.
      let low : number ≤ last = le in
      let top : last ≤ mid.pool.service.last = rises in
      given.fills number (omega (arith, low, top));
  keeps = λ away number its.
      waits_same (waits_on number mid.links.items) (waits_on number new.links.items)
      (waits_queued number mid.links.items new.links.items
      (held_lent key number mid.pool.line.items mid.pool.holds.items mid.links.items new.pool.holds.items new.links.items away its (lends number)));
  free = λ number before behind.
      waits_same (waits_on number mid.links.items) (waits_on number new.links.items)
      (waits_queued number mid.links.items new.links.items
      (free_lent number mid.pool.line.items mid.pool.holds.items mid.links.items new.pool.holds.items new.links.items before behind (lends number)));
  closed = relay_tied key new;
}
cancels_served (Err e) key last old bytes a mid new heeds moves kept starts rest rises given lends = tt
