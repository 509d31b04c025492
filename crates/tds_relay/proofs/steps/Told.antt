-- What is taken of an application's bytes by steps, and whether it is to be closed behind them.
use Rattle.std.proofs.Common.{◌≡◌, ◌∙◌, ◌==◌, ◌++◌, ℕ, Bool, true, false, List, [], ◌∷◌, Option, Some, None, ◌⊎◌, inl, inr, refl, sym, ap, subst, option_map, if◌then◌else◌}
use Rattle.std.proofs.lemmas.Bool.{eq-eqb}
use Rattle.std.specs.Prelude.{Result, Ok, Err, OnOk, drop}
use Rattle.tds_packet.specs.declared.status.Reset.{Reset}
use Rattle.tds_front.specs.declared.fault.FrontFault.{FrontFault}
use Rattle.tds_front.specs.declared.front.Front.{Front}
use Rattle.tds_front.specs.declared.front.Said.{Said}
use Rattle.tds_service.specs.Line.{Packet}
use Rattle.tds_relay.specs.Pool as pool
use Rattle.tds_relay.specs.Pool.{Pool}
use Rattle.tds_relay.specs.declared.pool.coming.Heard.{Heard}
use Rattle.tds_relay.specs.declared.pool.coming.What.{What}
use Rattle.tds_relay.specs.declared.pool.coming.What.TheVariants as whats
use Rattle.tds_relay.specs.Fronts.{ClosesInstead, FedOn, IsFed, LetsGoFirst, Moved, MovedOn, TakesBetween, given_by, core_of_ends, machine_with, told_by}
use Rattle.tds_relay.specs.Core as core
use Rattle.tds_relay.specs.Core.{End, EndList, Feeds, Core, IsQuiet, Move, Moves, Open, Over, change_end, closes, closes_for, end_at, ends_behind, end_goes_on, hands_on, holder, lets_go, moved, moved_all, sent_by, takes_back, end_told}
use Rattle.tds_relay.specs.Machine.{Machine, Step, Admits, CausesStep, Hands, Makes, MayAll, Removes, Steps, Takes, Writes, after, after_all, owed, put_some}
use Rattle.tds_relay.specs.Queues.{Queues, change}
use Rattle.tds_relay.specs.Promises.{Each}
use Rattle.tds_relay.specs.Taking.{AreTaken, IsDeaf, Tells, bytes_left_by}
use Rattle.tds_relay.specs.Ties.{Application, Cause}
use Rattle.tds_relay.proofs.steps.Fed.{fed_is, left_fed, waits_fed}
use Rattle.tds_relay.proofs.steps.Fronts.{each_both, moves_closes, no_moves}
use Rattle.tds_relay.proofs.steps.Slots.{changed_at}
use Rattle.tds_relay.proofs.steps.Stepping.{after_both, after_makes, caused_makes, makes_all, may_both, may_makes}

-- ---- Steps one behind the other

pub taken_both : (key : ℕ) (h : Machine) (xs ys : List Step) (a b c : List ℕ) → AreTaken key h xs a b → AreTaken key (after_all h xs) ys b c → AreTaken key h (xs ++ ys) a c
taken_both key h [] ys a b c t u = subst (λ (bytes : List ℕ). AreTaken key h ys bytes c) (sym t) u
taken_both key h (Takes other more ∷ xs) ys a b c t u = (t.0, t.1, taken_both key (after h (Takes other more)) xs ys (bytes_left_by a (end_at h.core.ends key)) b c t.2 u)
taken_both key h (Makes move ∷ xs) ys a b c t u = taken_both key (after h (Makes move)) xs ys a b c t u
taken_both key h (Hands number header content part way manner ∷ xs) ys a b c t u = taken_both key (after h (Hands number header content part way manner)) xs ys a b c t u
taken_both key h (Writes other count ∷ xs) ys a b c t u = taken_both key (after h (Writes other count)) xs ys a b c t u
taken_both key h (Admits other ends queues ∷ xs) ys a b c t u = taken_both key (after h (Admits other ends queues)) xs ys a b c t u
taken_both key h (Removes other gives way ∷ xs) ys a b c t u = taken_both key (after h (Removes other gives way)) xs ys a b c t u

pub none_taken : (key : ℕ) (h : Machine) (moves : List Move) (bytes : List ℕ) → AreTaken key h (makes_all moves) bytes bytes
none_taken key h [] bytes = refl
none_taken key h (move ∷ moves) bytes = none_taken key (after h (Makes move)) moves bytes

-- ---- Who is to be closed stays so

-- it leaves such an end as it is
abbrev IsFirm : (End → End) → Type 0
IsFirm by = (why : Option FrontFault) → by (Over why) ≡ Over why

deaf_if : (b : Bool) (by : End → End) (o : Option End) → IsFirm by → IsDeaf o → IsDeaf (if b then option_map by o else o)
deaf_if true by None over d = tt
deaf_if true by (Some (Open front w asks)) over d = absurd d
deaf_if true by (Some (Over why)) over d = subst (λ (e : End). IsDeaf (Some e)) (sym (over why)) tt
deaf_if false by o over d = d

deaf_changed : (es : EndList) (k key : ℕ) (by : End → End) → IsFirm by → IsDeaf (end_at es key) → IsDeaf (end_at (change_end k by es) key)
deaf_changed es k key by over d = subst IsDeaf (sym (changed_at End es k key by)) (deaf_if (k == key) by (end_at es key) over d)

deaf_whose : (es : EndList) (who : Option ℕ) (key : ℕ) (by : End → End) → IsFirm by → IsDeaf (end_at es key) → IsDeaf (end_at (core.change_whose who by es) key)
deaf_whose es None key by over d = d
deaf_whose es (Some k) key by over d = deaf_changed es k key by over d

over_goes : (packets : List Packet) → IsFirm (end_goes_on packets)
over_goes [] why = refl
over_goes (packet ∷ packets) why = refl

over_told : (what : What) → IsFirm (end_told what)
over_told whats.Goes why = refl
over_told whats.Finished why = refl
over_told whats.Acknowledged why = refl
over_told whats.Closed why = refl

deaf_moved : (key : ℕ) (h : Core) (move : Move) → IsQuiet move → IsDeaf (end_at h.ends key) → IsDeaf (end_at (ends_behind h move) key)
deaf_moved key h (core.Does event) quiet d = d
deaf_moved key h (core.Sends k action) quiet d = deaf_changed h.ends k key (end_goes_on (sent_by h.pool (pool.Does k action))) (over_goes (sent_by h.pool (pool.Does k action))) d
deaf_moved key h (core.LetsGo k parks gives way) quiet d = deaf_changed h.ends k key lets_go (λ why. refl) d
deaf_moved key h (core.Loses number) quiet d = deaf_whose h.ends (holder h.pool number) key closes (λ why. refl) d
deaf_moved key h (core.Replaces number) quiet d = deaf_whose h.ends (holder h.pool number) key lets_go (λ why. refl) d
deaf_moved key h (core.Closes k) quiet d = deaf_changed h.ends k key closes (λ why. refl) d
deaf_moved key h (core.Comes number part way) quiet d = absurd quiet
deaf_moved key h (core.Feeds k bytes) quiet d = absurd quiet
deaf_moved key h (core.Enters k ends) quiet d = absurd quiet
deaf_moved key h (core.Quits k gives way) quiet d = absurd quiet

deaf_along : (key : ℕ) (h : Core) (moves : List Move) → Each IsQuiet moves → IsDeaf (end_at h.ends key) → IsDeaf (end_at (moved_all h moves).ends key)
deaf_along key h [] quiet d = d
deaf_along key h (move ∷ moves) quiet d = deaf_along key (moved h move) moves quiet.1 (deaf_moved key h move quiet.0 d)

pub deaf_behind : (key : ℕ) (old new : Core) → Moves (Application key) old new → IsDeaf (end_at old.ends key) → IsDeaf (end_at new.ends key)
deaf_behind key old new m d = subst (λ (h : Core). IsDeaf (end_at h.ends key)) m.are (deaf_along key old m.moves m.quiet d)

-- whoever caused them
pub deaf_led : (by : Cause) (key : ℕ) (old new : Core) → Moved by old new → IsDeaf (end_at old.ends key) → IsDeaf (end_at new.ends key)
deaf_led by key old new m d =
    let x : Moves by old new = m old (no_moves by old) in
    subst (λ (h : Core). IsDeaf (end_at h.ends key)) x.are (deaf_along key old x.moves x.quiet d)

pub deaf_led_on : {A E : Type 0} (r : Result A E) (by : Cause) (key : ℕ) (old new : Core) → OnOk r (Moved by old new) → IsDeaf (end_at old.ends key) → OnOk r (IsDeaf (end_at new.ends key))
deaf_led_on (Ok x) by key old new m d = deaf_led by key old new m d
deaf_led_on (Err e) by key old new m d = tt

-- what is heard is told to it
pub deaf_told : (heard : Option Heard) (key : ℕ) (es : EndList) → IsDeaf (end_at es key) → IsDeaf (end_at (told_by heard es) key)
deaf_told None key es d = d
deaf_told (Some heard) key es d = deaf_whose es heard.key key (end_told heard.what) (over_told heard.what) d

-- where it lets its connection go first
pub lets_go_deaf : (key : ℕ) (d : Pool) (es : EndList) (new : Core) → IsDeaf (end_at es key) → LetsGoFirst key (core_of_ends d es) new → IsDeaf (end_at new.ends key)
lets_go_deaf key d es new deaf l =
    let mid : Core = moved (core_of_ends d es) (core.LetsGo key false l.0 l.1) in
    deaf_behind key mid new (l.2 (Application key) mid (no_moves (Application key) mid)) (deaf_changed es key key lets_go (λ why. refl) deaf)

closed_deaf : (why : Option FrontFault) (b : Bool) (o : Option End) → b ≡ true → IsDeaf (if b then option_map (closes_for why) o else o)
closed_deaf why true None e = tt
closed_deaf why true (Some (Open front w asks)) e = tt
closed_deaf why true (Some (Over was)) e = tt
closed_deaf why false o e = absurd (let u : ⊥ = cc in u)

pub deaf_for : (why : Option FrontFault) (key : ℕ) (es : EndList) → IsDeaf (end_at (change_end key (closes_for why) es) key)
deaf_for why key es = subst IsDeaf (sym (changed_at End es key key (closes_for why))) (closed_deaf why (key == key) (end_at es key) (eq-eqb key key refl))

pub deaf_closed : (key : ℕ) (es : EndList) → IsDeaf (end_at (change_end key closes es) key)
deaf_closed key es = deaf_for None key es

-- bytes were taken, and then it goes on
pub fed_then : (key : ℕ) (d : Pool) (before now : EndList) (bytes : List ℕ) (answer : Said) (new : Core) → takes_back answer ≡ false → hands_on answer ≡ false → IsFed key before now bytes answer
    → Moved (Application key) (core_of_ends d now) new → TakesBetween key (core_of_ends d before) bytes new ⊎ ClosesInstead key answer (core_of_ends d before) new
fed_then key d before now bytes answer new keeps here f m = inl (record {
  mid = core_of_ends d before;
  first = no_moves (Application key) (core_of_ends d before);
  same = refl;
  next = subst (λ (h : Core). Moves (Application key) h new) (sym (fed_is key d before now bytes answer keeps here f)) (m (core_of_ends d now) (no_moves (Application key) (core_of_ends d now)));
})

-- ---- Of a call

abbrev pub tells_begin : (key : ℕ) (h : Machine) (bytes : List ℕ) → Tells key h bytes bytes h
tells_begin key h bytes = record { steps = []; are = refl; may = tt; caused = tt; rest = bytes; takes = refl; all = inl refl }

pub tells_steps : (key : ℕ) (old new : Machine) (bytes left : List ℕ) → Tells key old bytes left new → Steps (Application key) old new
tells_steps key old new bytes left t = record { steps = t.steps; are = t.are; may = t.may; caused = t.caused }

pub tells_left : (key : ℕ) (old new : Machine) (bytes left rest : List ℕ) → rest ≡ left → Tells key old bytes left new → Tells key old bytes rest new
tells_left key old new bytes left rest is t = subst (λ (xs : List ℕ). Tells key old bytes xs new) (sym is) t

-- it is to be closed, so the others aren't taken
abbrev pub tells_deaf : (key : ℕ) (old new : Machine) (bytes left rest : List ℕ) → IsDeaf (end_at new.core.ends key) → Tells key old bytes left new → Tells key old bytes rest new
tells_deaf key old new bytes left rest deaf t = record { steps = t.steps; are = t.are; may = t.may; caused = t.caused; rest = t.rest; takes = t.takes; all = inr deaf }

-- the core moves on
abbrev pub tells_moves : (key : ℕ) (old : Machine) (bytes left : List ℕ) (h h1 : Core) (ps ps1 : Queues) → Moves (Application key) h h1 → ps1 ≡ ps
    → Tells key old bytes left (record { core = h; queues = ps }) → Tells key old bytes left (record { core = h1; queues = ps1 })
tells_moves key old bytes left h h1 ps ps1 m kept t =
    let more : List Step = makes_all m.moves in
    let mid : Machine = record { core = h; queues = ps } in
    record {
      steps = t.steps ++ more;
      are =
          after_both old t.steps more ∙ ap (λ (x : Machine). after_all x more) t.are ∙ after_makes mid m.moves
          ∙ ap (λ (x : Core). record { core = x; queues = ps }) m.are
          ∙ ap (λ (xs : Queues). record { core = h1; queues = xs }) (sym kept);
      may = may_both old t.steps more t.may (subst (λ (x : Machine). MayAll x more) (sym t.are) (may_makes mid m.moves m.may m.quiet));
      caused = each_both (CausesStep (Application key)) t.steps more t.caused (caused_makes (Application key) m.moves m.caused);
      rest = t.rest;
      takes = taken_both key old t.steps more bytes t.rest t.rest t.takes (none_taken key (after_all old t.steps) m.moves t.rest);
      all = elim t.all [
        | inl is ↦ inl is
        | inr deaf ↦ inr (deaf_behind key h h1 m deaf)
      ];
    }

pub tells_moved : (key : ℕ) (old : Machine) (bytes left : List ℕ) (h h1 : Core) (ps ps1 : Queues) → Moved (Application key) h h1 → ps1 ≡ ps
    → Tells key old bytes left (record { core = h; queues = ps }) → Tells key old bytes left (record { core = h1; queues = ps1 })
tells_moved key old bytes left h h1 ps ps1 m kept t = tells_moves key old bytes left h h1 ps ps1 (m h (no_moves (Application key) h)) kept t

-- where a call answers
pub tells_ok : {A E : Type 0} (r : Result A E) (key : ℕ) (old : Machine) (bytes left : List ℕ) (h h1 : Core) (ps ps1 : Queues) → Tells key old bytes left (record { core = h; queues = ps })
    → OnOk r (MovedOn h h1) → OnOk r (ps1 ≡ ps) → OnOk r (Tells key old bytes left (record { core = h1; queues = ps1 }))
tells_ok (Ok x) key old bytes left h h1 ps ps1 t m kept = tells_moved key old bytes left h h1 ps ps1 (m (Application key)) kept t
tells_ok (Err e) key old bytes left h h1 ps ps1 t m kept = tt

-- bytes are taken where its end is open
abbrev pub tells_takes : (key : ℕ) (old : Machine) (bytes left rest : List ℕ) (h : Machine) (queues1 : Queues) (front : Front) (withdrawn : Bool) (asks : Option Reset) → end_at h.core.ends key ≡ Some (Open front withdrawn asks)
    → bytes_left_by left (end_at h.core.ends key) ≡ rest → change key (put_some (owed left (end_at h.core.ends key))) h.queues ≡ queues1 → Tells key old bytes left h
    → Tells key old bytes rest (record { core = moved h.core (Feeds key left); queues = queues1 })
tells_takes key old bytes left rest h queues1 front withdrawn asks open_at left_is waits t =
    let step : Step = Takes key left in
    let is : t.rest ≡ left = elim t.all [
      | inl is ↦ is
      | inr deaf ↦ absurd (subst IsDeaf open_at deaf)
    ] in
    record {
      steps = t.steps ++ step ∷ [];
      are = after_both old t.steps (step ∷ []) ∙ ap (λ (x : Machine). after x step) t.are ∙ ap (λ (ps : Queues). record { core = moved h.core (Feeds key left); queues = ps }) waits;
      may = may_both old t.steps (step ∷ []) t.may (tt, tt);
      caused = each_both (CausesStep (Application key)) t.steps (step ∷ []) t.caused ((refl, tt), tt);
      rest = rest;
      takes = taken_both key old t.steps (step ∷ []) bytes t.rest rest t.takes
          (refl, sym is, ap (λ (xs : List ℕ). bytes_left_by xs (end_at (after_all old t.steps).core.ends key)) is ∙ ap (λ (x : Machine). bytes_left_by left (end_at x.core.ends key)) t.are ∙ left_is);
      all = inl refl;
    }

-- ---- As it is done

pub tells_refused : (key : ℕ) (old : Machine) (bytes left rest : List ℕ) (h : Machine) (h1 : Core) (ps1 : Queues) (front : Front) (withdrawn : Bool) (asks : Option Reset) (fault : FrontFault) → end_at h.core.ends key ≡ Some (Open front withdrawn asks)
    → change key (put_some (owed left (end_at h.core.ends key))) h.queues ≡ h.queues → moved h.core (Feeds key left) ≡ core_of_ends h.core.pool (change_end key (closes_for (Some fault)) h.core.ends)
    → Moved (Application key) (core_of_ends h.core.pool (change_end key (closes_for (Some fault)) h.core.ends)) h1 → ps1 ≡ h.queues → Tells key old bytes left h → Tells key old bytes rest (record { core = h1; queues = ps1 })
tells_refused key old bytes left rest h h1 ps1 front withdrawn asks fault open_at waits is m kept t =
    let closed : Core = core_of_ends h.core.pool (change_end key (closes_for (Some fault)) h.core.ends) in
    let deaf : IsDeaf (end_at closed.ends key) = deaf_for (Some fault) key h.core.ends in
    tells_moved key old bytes rest closed h1 h.queues ps1 m kept
    (tells_deaf key old (record { core = closed; queues = h.queues }) bytes (bytes_left_by left (end_at h.core.ends key)) rest deaf
    (subst (λ (x : Core). Tells key old bytes (bytes_left_by left (end_at h.core.ends key)) (record { core = x; queues = h.queues })) is (tells_takes key old bytes left (bytes_left_by left (end_at h.core.ends key)) h h.queues front withdrawn asks open_at refl waits t)))

-- it is to be closed, whatever it was at
pub tells_expelled : {A E : Type 0} (r : Result A E) (key : ℕ) (old : Machine) (bytes left rest : List ℕ) (d : Pool) (es : EndList) (ps ps1 : Queues) (h1 : Core) → Tells key old bytes left (machine_with d es ps)
    → OnOk r (Moved (Application key) (core_of_ends d (change_end key closes es)) h1) → OnOk r (ps1 ≡ ps) → OnOk r (Tells key old bytes rest (record { core = h1; queues = ps1 }))
tells_expelled (Ok x) key old bytes left rest d es ps ps1 h1 t m kept =
    tells_moved key old bytes rest (core_of_ends d (change_end key closes es)) h1 ps ps1 m kept
    (tells_deaf key old (machine_with d (change_end key closes es) ps) bytes left rest (deaf_closed key es)
    (tells_moved key old bytes left (core_of_ends d es) (core_of_ends d (change_end key closes es)) ps ps (λ from h. moves_closes (Application key) from d d es (change_end key closes es) key refl refl h) refl t))
tells_expelled (Err e) key old bytes left rest d es ps ps1 h1 t m kept = tt

tells_between : (key : ℕ) (old : Machine) (bytes left rest : List ℕ) (d : Pool) (before now : EndList) (ps ps1 : Queues) (h1 : Core) (answer : Said) → (f : IsFed key before now left answer)
    → TakesBetween key (core_of_ends d before) left h1 ⊎ ClosesInstead key answer (core_of_ends d before) h1 → rest ≡ drop f.count left → ps1 ≡ given_by key answer ps
    → Tells key old bytes left (machine_with d before ps) → Tells key old bytes rest (record { core = h1; queues = ps1 })
tells_between key old bytes left rest d before now ps ps1 h1 answer f (inl b) is given t =
    let same : end_at b.mid.ends key ≡ end_at before key = ap (λ (es : EndList). end_at es key) b.same in
    tells_moves key old bytes rest (moved b.mid (Feeds key left)) h1 ps1 ps1 b.next refl
    (tells_takes key old bytes left rest (record { core = b.mid; queues = ps }) ps1 f.front f.withdrawn f.asks (same ∙ f.was)
    (ap (bytes_left_by left) same ∙ left_fed key before now left answer f ∙ sym is)
    (ap (λ (o : Option End). change key (put_some (owed left o)) ps) same ∙ waits_fed key before now left answer ps f ∙ sym given)
    (tells_moves key old bytes left (core_of_ends d before) b.mid ps ps b.first refl t))
tells_between key old bytes left rest d before now ps ps1 h1 answer f (inr k) is given t =
    tells_deaf key old (record { core = h1; queues = ps1 }) bytes left rest k.deaf
    (tells_moves key old bytes left (core_of_ends d before) h1 ps ps1 k.moves (given ∙ k.nothing ps) t)

pub tells_fed : (key : ℕ) (old : Machine) (bytes left rest : List ℕ) (d : Pool) (before now : EndList) (ps ps1 : Queues) (h1 : Core) (answer : Said) → FedOn key answer d now h1 → (f : IsFed key before now left answer)
    → rest ≡ drop f.count left → ps1 ≡ given_by key answer ps → Tells key old bytes left (machine_with d before ps) → Tells key old bytes rest (record { core = h1; queues = ps1 })
tells_fed key old bytes left rest d before now ps ps1 h1 answer on f is given t =
    tells_between key old bytes left rest d before now ps ps1 h1 answer f (on before left f) is given t
