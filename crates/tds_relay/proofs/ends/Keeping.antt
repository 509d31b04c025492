-- An application keeps the connection that it holds, by the same lease, but for the reasons that are listed.
use Rattle.std.proofs.Common.{◌≡◌, ◌∙◌, ◌⊎◌, ◌==◌, ◌++◌, ℕ, Bool, true, false, List, [], ◌∷◌, refl, sym, ap, subst, inl, inr}
use Rattle.std.specs.Prelude.{Some, None}
use Rattle.std.proofs.lemmas.Bool.{eqb-true}
use Rattle.tds_packet.specs.declared.status.Reset.{Reset}
use Rattle.tds_packet.specs.declared.status.Reset.TheVariants.{KeepTransaction}
use Rattle.tds_wire.specs.declared.told.Token.{Token}
use Rattle.tds_service.specs.Parts.{Part}
use Rattle.tds_relay.specs.declared.pool.Hold.{Hold}
use Rattle.tds_relay.specs.declared.pool.Mode.TheVariants.{Sessions, Transactions}
use Rattle.tds_relay.specs.Pool as pool
use Rattle.tds_relay.specs.Pool.{Action, Pool, PoolTurn, Event, Hearing, Sharing, Way, pool_after, find_key, holding, new_pool, turn}
use Rattle.tds_relay.specs.Core as core
use Rattle.tds_relay.specs.Core.{AsksFor, Core, IfWhose, MayDoAlone, MayMove, MayMoveAll, MayPart, Move, dones_of_part, end_at, event_if, events_of, holder, may_park, moved, moved_all, new_core, stops_of}
use Rattle.tds_relay.specs.Law.{IsParked, KeepsTransaction, Parts}
use Rattle.tds_relay.proofs.promises.Caring.{Sound}
use Rattle.tds_relay.proofs.held.Away.{WaitsOnce, no_place}
use Rattle.tds_relay.proofs.held.Lists.{places, theirs_found, theirs_none}
use Rattle.tds_relay.proofs.held.Kept.{Goes, Lends, Renewed, Rests, renewed}
use Rattle.tds_relay.proofs.held.Others.{IsOthers, found, number_is, passes}
use Rattle.tds_relay.proofs.held.Ours.{came_done, actions, heard_of, hears_right}
use Rattle.tds_relay.proofs.held.Seated.{AllSit}
use Rattle.tds_relay.proofs.ends.Standing.{AtPool, HoldsOne, own_holder}
use Rattle.tds_relay.proofs.ends.Stopping.{pool_next, never_waits}
use Rattle.tds_relay.proofs.ends.Folding.{IsAt, next_at, sits_at, sound_at}
use Rattle.tds_relay.proofs.steps.Parked.{rested}

abbrev pub Asks : Core → ℕ → Reset → Type 0
Asks h key reset = AsksFor reset (end_at h.ends key)

module _ (h : Core) (key : ℕ) (sound : Sound h.pool) (sit : AllSit h.pool) (k : HoldsOne key h.pool) where
  abbrev d : Pool
  d = h.pool

  abbrev Has : Event → Type 0
  Has event = find_key key (turn d event).pool.holds ≡ Some k.hold

  abbrev Keeps : Move → Type 0
  Keeps move = (find_key key (moved h move).pool.holds ≡ Some k.hold) ⊎ (Parts (Asks h key) key k.hold h move ⊎ IsParked key h move)

  still : find_key key d.holds ≡ Some k.hold
  still = found d key k.hold k.seat sound k.its

  others : (event : Event) → IsOthers key k.hold.number event → Has event
  others event o = theirs_found key k.hold (turn d event).pool.holds (passes d key k.hold k.seat sound sit k.its event o).sole

  own : (action : Action) → Has (pool.Does key action)
  own action = theirs_found key k.hold (turn d (pool.Does key action)).pool.holds (actions d key k.hold k.seat action sound k.its).ours.its.sole

  does : (other : ℕ) (action : Action) (b : Bool) → (other == key) ≡ b → Has (pool.Does other action)
  does other action true e = subst (λ (x : ℕ). Has (pool.Does x action)) (sym (eqb-true other key e)) (own action)
  does other action false e = others (pool.Does other action) e

  fed : (other : ℕ) (b : Bool) → find_key key (pool_after d (event_if b (pool.Does other pool.Stops))).holds ≡ Some k.hold
  fed other true = does other pool.Stops (other == key) refl
  fed other false = still

  waits : (other : ℕ) (b : Bool) → (other == key) ≡ b → core.IsThereAndAway h other → Keeps (core.Does (pool.Waits other))
  waits other true e away = absurd (never_waits d key sound sit k (subst (λ (x : ℕ). find_key x d.holds ≡ None) (eqb-true other key e) away.holds))
  waits other false e away = inl (others (pool.Waits other) e)

  renews_own : Renewed d key k.hold k.seat true → AsksFor KeepTransaction (end_at h.ends key) → Keeps (core.Does (pool.Renews key true))
  renews_own (Rests none is) asks = inl (ap (λ (t : PoolTurn). find_key key t.pool.holds) is ∙ still)
  renews_own (Lends ticket some given idle lent) asks =
      let its : Hold = holding k.hold.key lent.lease k.seat.number in
      inr (inl (refl, asks, (its, theirs_found key its (turn d (pool.Renews key true)).pool.holds lent.its.sole, number_is d key k.hold k.seat sound k.its)))
  renews_own (Goes ticket some given idle gone) asks = absurd (let u : ⊥ = cc in u)

  renews : (other : ℕ) (resumes b : Bool) → (other == key) ≡ b → resumes ≡ true → AsksFor KeepTransaction (end_at h.ends other) → Keeps (core.Does (pool.Renews other resumes))
  renews other resumes true e given asks =
      let is = eqb-true other key e in
      let own : Keeps (core.Does (pool.Renews key true)) = renews_own (renewed d key k.hold k.seat sound k.its true) (subst (λ (x : ℕ). AsksFor KeepTransaction (end_at h.ends x)) is asks) in
      subst (λ (x : ℕ). Keeps (core.Does (pool.Renews x resumes))) (sym is) (subst (λ (b : Bool). Keeps (core.Does (pool.Renews key b))) (sym given) own)
  renews other resumes false e given asks = inl (others (pool.Renews other resumes) e)

  lets : (other : ℕ) (parks gives : Bool) (way : Way) (b : Bool) → (other == key) ≡ b → MayMove h (core.LetsGo other parks gives way) → Keeps (core.LetsGo other parks gives way)
  lets other false gives way true e may =
      let is = eqb-true other key e in
      inr (inl (is, subst (MayPart h) is may.0))
  lets other true gives way true e rests =
      let is = eqb-true other key e in
      inr (inr (is, rested h key (subst (λ (x : ℕ). may_park h x ≡ true) is rests)))
  lets other parks gives way false e may = inl (others (pool.Leaves other gives way) e)

  quits : (other : ℕ) (gives : Bool) (way : Way) (b : Bool) → (other == key) ≡ b → Keeps (core.Quits other gives way)
  quits other gives way true e = inr (inl (eqb-true other key e))
  quits other gives way false e = inl (others (pool.Leaves other gives way) e)

  loses : (n : ℕ) (b : Bool) → (k.hold.number == n) ≡ b → Keeps (core.Loses n)
  loses n true e = inr (inl (sym (eqb-true k.hold.number n e)))
  loses n false e = inl (others (pool.Loses n) e)

  replaces : (n : ℕ) (b : Bool) → (k.hold.number == n) ≡ b → IfWhose (MayPart h) (holder d n) → Keeps (core.Replaces n)
  replaces n true e may =
      let is = eqb-true k.hold.number n e in
      let mine : holder d n ≡ Some key = ap (holder d) (sym is) ∙ own_holder d key k.hold k.seat sound sit k.its in
      inr (inl (sym is, subst (IfWhose (MayPart h)) mine may))
  replaces n false e may = inl (others (pool.Loses n) e)

  right : (part : Part Token) (way : Way) → (heard_of k.seat.line part ≡ pool.Wrong → ⊥) → Keeps (core.Comes k.hold.number part way)
  right part way is = inl (theirs_found key k.hold (turn d (pool.Comes k.hold.number part way)).pool.holds (hears_right d key k.hold k.seat part way sound k.its is).its.sole)

  hears : (part : Part Token) (way : Way) (hearing : Hearing) → heard_of k.seat.line part ≡ hearing → Keeps (core.Comes k.hold.number part way)
  hears part way pool.Goes e = right part way (λ wrong. (let u : pool.Goes ≡ pool.Wrong = sym e ∙ wrong in let v : ⊥ = cc in v))
  hears part way pool.Settled e = right part way (λ wrong. (let u : pool.Settled ≡ pool.Wrong = sym e ∙ wrong in let v : ⊥ = cc in v))
  hears part way pool.Wrong e = inr (inl (refl, ap pool.hearing (came_done d key k.hold k.seat part k.its) ∙ e))

  comes : (n : ℕ) (part : Part Token) (way : Way) (b : Bool) → (k.hold.number == n) ≡ b → Keeps (core.Comes n part way)
  comes n part way true e = subst (λ (x : ℕ). Keeps (core.Comes x part way)) (eqb-true k.hold.number n e) (hears part way (heard_of k.seat.line part) refl)
  comes n part way false e = inl (others (pool.Comes n part way) e)

  alone : (event : Event) → MayDoAlone h event → Keeps (core.Does event)
  alone (pool.Waits other) may = waits other (other == key) refl may.0
  alone (pool.Unwaits other) may = inl (others (pool.Unwaits other) tt)
  alone pool.Serves may = inl (others pool.Serves tt)
  alone (pool.Brings gives way) may = inl (others (pool.Brings gives way) tt)
  alone (pool.Does other action) may = inl (does other action (other == key) refl)
  alone (pool.Leaves other gives way) may = absurd may
  alone (pool.Renews other resumes) may = renews other resumes (other == key) refl may.0 may.1
  alone (pool.Comes number part way) may = absurd may
  alone (pool.Loses number) may = absurd may

  pub keeps : (move : Move) → MayMove h move → Keeps move
  keeps (core.Does event) may = alone event may
  keeps (core.Sends other action) may = inl (does other action (other == key) refl)
  keeps (core.LetsGo other parks gives way) may = lets other parks gives way (other == key) refl may
  keeps (core.Loses n) may = loses n (k.hold.number == n) refl
  keeps (core.Replaces n) may = replaces n (k.hold.number == n) refl may
  keeps (core.Comes n part way) may = comes n part way (k.hold.number == n) refl
  keeps (core.Feeds other bytes) may = inl (fed other (stops_of bytes (end_at h.ends other)))
  keeps (core.Closes other) may = inl still
  keeps (core.Enters other ends) may = inl still
  keeps (core.Quits other gives way) may = quits other gives way (other == key) refl

-- ---- Along moves from a new core

by_pool : (h : Core) (key : ℕ) → Sound h.pool → AllSit h.pool → AtPool key h.pool → (move : Move) → MayMove h move → KeepsTransaction key h move
by_pool h key sound sit (inl k) move may = λ hold e.
    let f : find_key key h.pool.holds ≡ Some k.hold = found h.pool key k.hold k.seat sound k.its in
    let same : k.hold ≡ hold = (let u : Some k.hold ≡ Some hold = sym f ∙ e in cc) in
    subst (λ (x : Hold). (find_key key (moved h move).pool.holds ≡ Some x) ⊎ (Parts (Asks h key) key x h move ⊎ IsParked key h move)) same (keeps h key sound sit k move may)
by_pool h key sound sit (inr absent) move may = λ hold e.
    let u : None ≡ Some hold = sym (theirs_none key h.pool.holds absent.none) ∙ e in
    absurd (let v : ⊥ = cc in v)

once : (h : Core) (key : ℕ) (event : Event) → MayDoAlone h event → WaitsOnce key h.pool event
once h key (pool.Waits other) may = λ is. (
  subst (λ (x : ℕ). find_key x h.pool.holds ≡ None) is may.0.holds,
  subst (λ (x : ℕ). places x h.pool.line ≡ []) is (no_place other h.pool.line may.0.waits),
)
once h key (pool.Unwaits other) may = tt
once h key pool.Serves may = tt
once h key (pool.Brings gives way) may = tt
once h key (pool.Does other action) may = tt
once h key (pool.Leaves other gives way) may = tt
once h key (pool.Renews other resumes) may = tt
once h key (pool.Comes number part way) may = tt
once h key (pool.Loses number) may = tt

stops_next : (d : Pool) (key other : ℕ) → Sound d → AllSit d → AtPool key d → (b : Bool) → AtPool key (pool_after d (event_if b (pool.Does other pool.Stops)))
stops_next d key other sound sit at true = pool_next d key sound sit (pool.Does other pool.Stops) at tt
stops_next d key other sound sit at false = at

next : (h : Core) (key : ℕ) → Sound h.pool → AllSit h.pool → AtPool key h.pool → (move : Move) → MayMove h move → AtPool key (moved h move).pool
next h key sound sit at (core.Does event) may = pool_next h.pool key sound sit event at (once h key event may)
next h key sound sit at (core.Sends other action) may = pool_next h.pool key sound sit (pool.Does other action) at tt
next h key sound sit at (core.LetsGo other parks gives way) may = pool_next h.pool key sound sit (pool.Leaves other gives way) at tt
next h key sound sit at (core.Loses n) may = pool_next h.pool key sound sit (pool.Loses n) at tt
next h key sound sit at (core.Replaces n) may = pool_next h.pool key sound sit (pool.Loses n) at tt
next h key sound sit at (core.Comes n part way) may = pool_next h.pool key sound sit (pool.Comes n part way) at tt
next h key sound sit at (core.Feeds other bytes) may = stops_next h.pool key other sound sit at (stops_of bytes (end_at h.ends other))
next h key sound sit at (core.Closes other) may = at
next h key sound sit at (core.Enters other ends) may = at
next h key sound sit at (core.Quits other gives way) may = pool_next h.pool key sound sit (pool.Leaves other gives way) at tt

along : (sharing : Sharing) (key : ℕ) (events : List Event) (h : Core) → IsAt sharing events h → AtPool key h.pool → (moves : List Move) (move : Move) → MayMoveAll h moves → MayMove (moved_all h moves) move
    → KeepsTransaction key (moved_all h moves) move
along sharing key events h is at [] move may m = by_pool h key (sound_at sharing events h is) (sits_at sharing events h is) at move m
along sharing key events h is at (x ∷ xs) move may m =
    along sharing key (events ++ events_of h x) (moved h x) (next_at sharing events h x is) (next h key (sound_at sharing events h is) (sits_at sharing events h is) at x may.0) xs move may.1 m

walk : (sharing : Sharing) (key : ℕ) (events : List Event) (h : Core) → IsAt sharing events h → AtPool key h.pool → (moves : List Move) → MayMoveAll h moves → Sound (moved_all h moves).pool × AtPool key (moved_all h moves).pool
walk sharing key events h is at [] may = (sound_at sharing events h is, at)
walk sharing key events h is at (x ∷ xs) may =
    walk sharing key (events ++ events_of h x) (moved h x) (next_at sharing events h x is) (next h key (sound_at sharing events h is) (sits_at sharing events h is) at x may.0) xs may.1

-- it holds one at most there
pub pool_along : (sharing : Sharing) (key : ℕ) (moves : List Move) → MayMoveAll (new_core sharing) moves → Sound (moved_all (new_core sharing) moves).pool × AtPool key (moved_all (new_core sharing) moves).pool
pool_along sharing key moves may = walk sharing key [] (new_core sharing) refl (inr (record { none = refl; once = inl refl })) moves may

pub keeps_all : (sharing : Sharing) (key : ℕ) (moves : List Move) (move : Move) → MayMoveAll (new_core sharing) moves → MayMove (moved_all (new_core sharing) moves) move → KeepsTransaction key (moved_all (new_core sharing) moves) move
keeps_all sharing key moves move may m = along sharing key [] (new_core sharing) refl (inr (record { none = refl; once = inl refl })) moves move may m

-- ---- By sessions nobody is parked

not_parked : (key : ℕ) (h : Core) (move : Move) → h.pool.mode ≡ Sessions → IsParked key h move → ⊥
not_parked key h (core.Does event) mode p = p
not_parked key h (core.Sends other action) mode p = p
not_parked key h (core.LetsGo other true gives way) mode p = let u : Sessions ≡ Transactions = sym mode ∙ p.1.mode in let v : ⊥ = cc in v
not_parked key h (core.LetsGo other false gives way) mode p = p
not_parked key h (core.Loses number) mode p = p
not_parked key h (core.Replaces number) mode p = p
not_parked key h (core.Comes number part way) mode p = p
not_parked key h (core.Feeds other bytes) mode p = p
not_parked key h (core.Closes other) mode p = p
not_parked key h (core.Enters other ends) mode p = p
not_parked key h (core.Quits other gives way) mode p = p

pub by_sessions : {A P : Type 0} (key : ℕ) (h : Core) (move : Move) → h.pool.mode ≡ Sessions → A ⊎ (P ⊎ IsParked key h move) → A ⊎ P
by_sessions key h move mode (inl keeps) = inl keeps
by_sessions key h move mode (inr (inl parts)) = inr parts
by_sessions key h move mode (inr (inr parked)) = absurd (not_parked key h move mode parked)
