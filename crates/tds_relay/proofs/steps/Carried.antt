-- The body of an application's request follows what is taken of it: so it does of pieces one behind the other.
use Rattle.std.proofs.Common.{Bool, ◌≡◌, ◌∙◌, ◌⊎◌, ◌++◌, ℕ, List, [], ◌∷◌, Option, Some, refl, sym, ap, subst, inl, inr, drop, append_assoc}
use Rattle.std.specs.Prelude.{Result, Ok, Err, OnOk, take}
use Rattle.tds_packet.specs.declared.status.Reset.{Reset}
use Rattle.tds_front.specs.declared.fault.FrontFault.{FrontFault}
use Rattle.tds_front.specs.declared.front.Fed.{Fed}
use Rattle.tds_front.specs.declared.front.Front.{Front}
use Rattle.tds_front.specs.declared.front.Said.{Said}
use Rattle.tds_front.specs.declared.front.Said.TheVariants as said
use Rattle.tds_front.specs.Bytes.{fed}
use Rattle.tds_relay.specs.Asking.{said_of}
use Rattle.tds_relay.specs.Bodies.{AreFollowed, Body, Carries, IsClosedAsEnd, Obeys, Starts, Stays, taken_of}
use Rattle.tds_relay.specs.Pool.{Pool}
use Rattle.tds_relay.specs.Fronts.{ClosesInstead, FedOn, IsFed, Moved, MovedOn, TakesBetween, given_by, core_of_ends, machine_with}
use Rattle.tds_relay.specs.Core.{End, EndList, Feeds, Core, Move, Moves, Open, change_end, closes_for, end_at, moved}
use Rattle.tds_relay.specs.Machine.{Machine, Step, Admits, Hands, Makes, Removes, Takes, Writes, after, after_all, owed, put_some}
use Rattle.tds_relay.specs.Queues.{Queues, change}
use Rattle.tds_relay.specs.Taking.{IsDeaf, count_by, bytes_left_by}
use Rattle.tds_relay.specs.Ties.{Application}
use Rattle.tds_relay.proofs.lending.Resting.{starts_both}
use Rattle.tds_relay.proofs.steps.Asked.{said_is}
use Rattle.tds_relay.proofs.steps.Fed.{left_fed, waits_fed}
use Rattle.tds_relay.proofs.steps.Fronts.{no_moves}
use Rattle.tds_relay.proofs.steps.Stepping.{makes_all}
use Rattle.tds_relay.proofs.steps.Tied.{closed_deaf}
use Rattle.tds_relay.proofs.steps.Told.{deaf_for, tells_begin, tells_deaf, tells_moves, tells_takes}

-- ---- Steps one behind the other

module _ (key : ℕ) where
  none_followed : (h : Machine) (moves : List Move) (a b : Body) → Starts a b → AreFollowed key h (makes_all moves) a b
  none_followed h [] a b s = s
  none_followed h (move ∷ moves) a b s = none_followed (after h (Makes move)) moves a b s

  starts_followed : (h : Machine) (xs : List Step) (a b c : Body) → Starts a b → AreFollowed key h xs b c → AreFollowed key h xs a c
  starts_followed h [] a b c s f = starts_both s f
  starts_followed h (Takes other bytes ∷ xs) a b c s f = (f.0, f.1, starts_both s f.2, f.3, f.4, f.5)
  starts_followed h (Makes move ∷ xs) a b c s f = starts_followed (after h (Makes move)) xs a b c s f
  starts_followed h (Hands number header content part way manner ∷ xs) a b c s f = starts_followed (after h (Hands number header content part way manner)) xs a b c s f
  starts_followed h (Writes other count ∷ xs) a b c s f = starts_followed (after h (Writes other count)) xs a b c s f
  starts_followed h (Admits other ends queues ∷ xs) a b c s f = starts_followed (after h (Admits other ends queues)) xs a b c s f
  starts_followed h (Removes other gives way ∷ xs) a b c s f = starts_followed (after h (Removes other gives way)) xs a b c s f

  followed_both : (h : Machine) (xs ys : List Step) (a b c : Body) → AreFollowed key h xs a b → AreFollowed key (after_all h xs) ys b c → AreFollowed key h (xs ++ ys) a c
  followed_both h [] ys a b c f g = starts_followed h ys a b c f g
  followed_both h (Takes other bytes ∷ xs) ys a b c f g = (f.0, f.1, f.2, f.3, f.4, followed_both (after h (Takes other bytes)) xs ys f.1 b c f.5 g)
  followed_both h (Makes move ∷ xs) ys a b c f g = followed_both (after h (Makes move)) xs ys a b c f g
  followed_both h (Hands number header content part way manner ∷ xs) ys a b c f g = followed_both (after h (Hands number header content part way manner)) xs ys a b c f g
  followed_both h (Writes other count ∷ xs) ys a b c f g = followed_both (after h (Writes other count)) xs ys a b c f g
  followed_both h (Admits other ends queues ∷ xs) ys a b c f g = followed_both (after h (Admits other ends queues)) xs ys a b c f g
  followed_both h (Removes other gives way ∷ xs) ys a b c f g = followed_both (after h (Removes other gives way)) xs ys a b c f g

  taken_followed : (old h : Machine) (left : List ℕ) (xs : List Step) (moves : List Move) (a b c : Body) → after_all old xs ≡ h → AreFollowed key old xs a b → IsClosedAsEnd (end_at h.core.ends key) b
      → Obeys (said_of left (end_at h.core.ends key)) (taken_of left (end_at h.core.ends key)) b c → AreFollowed key old ((xs ++ Takes key left ∷ []) ++ makes_all moves) a c
  taken_followed old h left xs moves a b c e f closed o =
      subst (λ (steps : List Step). AreFollowed key old steps a c) (sym (append_assoc xs (Takes key left ∷ []) (makes_all moves)))
      (followed_both old xs (Takes key left ∷ makes_all moves) a b c f
      (subst (λ (x : Machine). AreFollowed key x (Takes key left ∷ makes_all moves) b c) (sym e) (b, o.mid, Stays, closed, o.does, none_followed (after h (Takes key left)) moves o.mid c o.starts)))

-- ---- Of a call

pub carries_begin : (key : ℕ) (h : Machine) (bytes : List ℕ) (b : Body) → IsClosedAsEnd (end_at h.core.ends key) b → Carries key h bytes bytes b b h
carries_begin key h bytes b closed = record { tells = tells_begin key h bytes; followed = Stays; closed = closed }

pub carries_left : (key : ℕ) (old new : Machine) (bytes left rest : List ℕ) (a b : Body) → rest ≡ left → Carries key old bytes left a b new → Carries key old bytes rest a b new
carries_left key old new bytes left rest a b is t = subst (λ (xs : List ℕ). Carries key old bytes xs a b new) (sym is) t

-- it is to be closed, so the others aren't taken
pub carries_deaf : (key : ℕ) (old new : Machine) (bytes left rest : List ℕ) (a b : Body) → IsDeaf (end_at new.core.ends key) → Carries key old bytes left a b new → Carries key old bytes rest a b new
carries_deaf key old new bytes left rest a b deaf t = record { tells = tells_deaf key old new bytes left rest deaf t.tells; followed = t.followed; closed = t.closed }

-- the core moves on, and the body may start
carries_moves : (key : ℕ) (old : Machine) (bytes left : List ℕ) (a b c : Body) (h h1 : Core) (ps ps1 : Queues) → Moves (Application key) h h1 → ps1 ≡ ps → Starts b c
    → IsClosedAsEnd (end_at h1.ends key) c → Carries key old bytes left a b (record { core = h; queues = ps }) → Carries key old bytes left a c (record { core = h1; queues = ps1 })
carries_moves key old bytes left a b c h h1 ps ps1 m kept s closed t = record {
  tells = tells_moves key old bytes left h h1 ps ps1 m kept t.tells;
  followed = followed_both key old t.tells.steps (makes_all m.moves) a b c t.followed (none_followed key (after_all old t.tells.steps) m.moves b c s);
  closed = closed;
}

pub carries_moved : (key : ℕ) (old : Machine) (bytes left : List ℕ) (a b c : Body) (h h1 : Core) (ps ps1 : Queues) → Moved (Application key) h h1 → ps1 ≡ ps → Starts b c
    → IsClosedAsEnd (end_at h1.ends key) c → Carries key old bytes left a b (record { core = h; queues = ps }) → Carries key old bytes left a c (record { core = h1; queues = ps1 })
carries_moved key old bytes left a b c h h1 ps ps1 m kept s closed t = carries_moves key old bytes left a b c h h1 ps ps1 (m h (no_moves (Application key) h)) kept s closed t

-- ---- Bytes are taken, and then it goes on

taken_is : (bytes : List ℕ) (o : Option End) (front : Front) (withdrawn : Bool) (asks : Option Reset) (brings : Result Fed FrontFault) → o ≡ Some (Open front withdrawn asks) → (fed front bytes).brings ≡ brings
    → taken_of bytes o ≡ take (count_by brings bytes) bytes
taken_is bytes o front withdrawn asks brings was says = ap (taken_of bytes) was ∙ ap (λ (r : Result Fed FrontFault). take (count_by r bytes) bytes) says

carries_taken : (key : ℕ) (old : Machine) (bytes left rest : List ℕ) (a b c : Body) (h : Machine) (h1 : Core) (ps1 : Queues) (front : Front) (withdrawn : Bool) (asks : Option Reset) → end_at h.core.ends key ≡ Some (Open front withdrawn asks)
    → bytes_left_by left (end_at h.core.ends key) ≡ rest → change key (put_some (owed left (end_at h.core.ends key))) h.queues ≡ ps1 → Moves (Application key) (moved h.core (Feeds key left)) h1
    → Obeys (said_of left (end_at h.core.ends key)) (taken_of left (end_at h.core.ends key)) b c → IsClosedAsEnd (end_at h1.ends key) c → Carries key old bytes left a b h
    → Carries key old bytes rest a c (record { core = h1; queues = ps1 })
carries_taken key old bytes left rest a b c h h1 ps1 front withdrawn asks opened left_is waits m o closed t = record {
  tells = tells_moves key old bytes rest (moved h.core (Feeds key left)) h1 ps1 ps1 m refl (tells_takes key old bytes left rest h ps1 front withdrawn asks opened left_is waits t.tells);
  followed = taken_followed key old h left t.tells.steps m.moves a b c t.tells.are t.followed t.closed o;
  closed = closed;
}

-- ---- As it is done

pub carries_refused : (key : ℕ) (old : Machine) (bytes left rest : List ℕ) (a b c : Body) (h : Machine) (h1 : Core) (ps1 : Queues) (front : Front) (withdrawn : Bool) (asks : Option Reset) (fault : FrontFault) → end_at h.core.ends key ≡ Some (Open front withdrawn asks)
    → change key (put_some (owed left (end_at h.core.ends key))) h.queues ≡ h.queues → moved h.core (Feeds key left) ≡ core_of_ends h.core.pool (change_end key (closes_for (Some fault)) h.core.ends) → (fed front left).brings ≡ Err fault
    → Moved (Application key) (core_of_ends h.core.pool (change_end key (closes_for (Some fault)) h.core.ends)) h1 → ps1 ≡ h.queues → Starts b c → IsClosedAsEnd (end_at h1.ends key) c → Carries key old bytes left a b h
    → Carries key old bytes rest a c (record { core = h1; queues = ps1 })
carries_refused key old bytes left rest a b c h h1 ps1 front withdrawn asks fault opened waits is says m kept s shut t =
    let closed : Core = core_of_ends h.core.pool (change_end key (closes_for (Some fault)) h.core.ends) in
    let moves : Moves (Application key) (moved h.core (Feeds key left)) closed = subst (Moves (Application key) (moved h.core (Feeds key left))) is (no_moves (Application key) (moved h.core (Feeds key left))) in
    let stays : Obeys said.Nothing (taken_of left (end_at h.core.ends key)) b b = record { mid = b; does = refl; starts = Stays } in
    carries_moved key old bytes rest a b c closed h1 h.queues ps1 m kept s shut
    (carries_deaf key old (record { core = closed; queues = h.queues }) bytes (bytes_left_by left (end_at h.core.ends key)) rest a b (deaf_for (Some fault) key h.core.ends)
    (carries_taken key old bytes left (bytes_left_by left (end_at h.core.ends key)) a b b h closed h.queues front withdrawn asks opened refl waits moves
    (subst (λ (answer : Said). Obeys answer (taken_of left (end_at h.core.ends key)) b b) (sym (said_is left (end_at h.core.ends key) front withdrawn asks (Err fault) opened says)) stays) (closed_deaf (end_at closed.ends key) b (deaf_for (Some fault) key h.core.ends)) t))

carries_between : (key : ℕ) (old : Machine) (bytes left rest : List ℕ) (a b c : Body) (d : Pool) (before now : EndList) (ps ps1 : Queues) (h1 : Core) (answer : Said) → (f : IsFed key before now left answer)
    → TakesBetween key (core_of_ends d before) left h1 ⊎ ClosesInstead key answer (core_of_ends d before) h1 → Obeys answer (take f.count left) b c → rest ≡ drop f.count left → ps1 ≡ given_by key answer ps
    → (IsDeaf (end_at h1.ends key) → Starts b c) → IsClosedAsEnd (end_at h1.ends key) c → Carries key old bytes left a b (machine_with d before ps)
    → Carries key old bytes rest a c (record { core = h1; queues = ps1 })
carries_between key old bytes left rest a b c d before now ps ps1 h1 answer f (inl m) o is given shut closed t =
    let same : end_at m.mid.ends key ≡ end_at before key = ap (λ (es : EndList). end_at es key) m.same in
    carries_taken key old bytes left rest a b c (record { core = m.mid; queues = ps }) h1 ps1 f.front f.withdrawn f.asks (same ∙ f.was)
    (ap (bytes_left_by left) same ∙ left_fed key before now left answer f ∙ sym is)
    (ap (λ (o : Option End). change key (put_some (owed left o)) ps) same ∙ waits_fed key before now left answer ps f ∙ sym given)
    m.next
    (subst (λ (said : Said). Obeys said (taken_of left (end_at m.mid.ends key)) b c) (sym (said_is left (end_at m.mid.ends key) f.front f.withdrawn f.asks (Ok (record { count = f.count; said = answer })) (same ∙ f.was) f.says))
    (subst (λ (xs : List ℕ). Obeys answer xs b c) (sym (taken_is left (end_at m.mid.ends key) f.front f.withdrawn f.asks (Ok (record { count = f.count; said = answer })) (same ∙ f.was) f.says)) o))
    closed
    (carries_moves key old bytes left a b b (core_of_ends d before) m.mid ps ps m.first refl Stays (subst (λ (o : Option End). IsClosedAsEnd o b) (sym same) t.closed) t)
carries_between key old bytes left rest a b c d before now ps ps1 h1 answer f (inr k) o is given shut closed t =
    carries_deaf key old (record { core = h1; queues = ps1 }) bytes left rest a c k.deaf
    (carries_moves key old bytes left a b c (core_of_ends d before) h1 ps ps1 k.moves (given ∙ k.nothing ps) (shut k.deaf) closed t)

pub carries_fed : (key : ℕ) (old : Machine) (bytes left rest : List ℕ) (a b c : Body) (d : Pool) (before now : EndList) (ps ps1 : Queues) (h1 : Core) (answer : Said) → FedOn key answer d now h1 → (f : IsFed key before now left answer)
    → Obeys answer (take f.count left) b c → rest ≡ drop f.count left → ps1 ≡ given_by key answer ps → (IsDeaf (end_at h1.ends key) → Starts b c) → IsClosedAsEnd (end_at h1.ends key) c → Carries key old bytes left a b (machine_with d before ps)
    → Carries key old bytes rest a c (record { core = h1; queues = ps1 })
carries_fed key old bytes left rest a b c d before now ps ps1 h1 answer on f o is given shut closed t =
    carries_between key old bytes left rest a b c d before now ps ps1 h1 answer f (on before left f) o is given shut closed t

-- where a call answers
pub carries_ok : {A E : Type 0} (r : Result A E) (key : ℕ) (old : Machine) (bytes left : List ℕ) (a b c : Body) (h h1 : Core) (ps ps1 : Queues) → Carries key old bytes left a b (record { core = h; queues = ps })
    → OnOk r (MovedOn h h1) → OnOk r (ps1 ≡ ps) → OnOk r (Starts b c) → IsClosedAsEnd (end_at h1.ends key) c → OnOk r (Carries key old bytes left a c (record { core = h1; queues = ps1 }))
carries_ok (Ok x) key old bytes left a b c h h1 ps ps1 t m kept s closed = carries_moved key old bytes left a b c h h1 ps ps1 (m (Application key)) kept s closed t
carries_ok (Err e) key old bytes left a b c h h1 ps ps1 t m kept s closed = tt
