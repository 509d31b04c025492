-- Steps that lead from machine to machine, one behind the other.
use Rattle.std.proofs.Common.{◌≡◌, ◌∙◌, ◌++◌, ℕ, List, [], ◌∷◌, None, refl, sym, ap, subst, slice_set}
use Rattle.std.specs.Prelude.{Result, Ok, Err, OnOk}
use Rattle.tds_relay.specs.Pool as pool
use Rattle.tds_relay.specs.Pool.{Pool, Sharing, turn}
use Rattle.tds_relay.specs.Fronts.{LetsGoFirst, Moved, MovedOn, core_of_ends, machine_with}
use Rattle.tds_relay.specs.Core.{CausesMove, EndList, Core, HasEntered, IsQuiet, MayMoveAll, Move, Moves, change_end, lets_go, moved_all}
use Rattle.tds_relay.specs.Machine.{Machine, Step, Admits, CausesStep, IsLedTo, Makes, MayAll, MayStep, Removes, Steps, StepsOn, Writes, after, after_all, new_machine}
use Rattle.tds_relay.specs.Queues.{EntersQueues, Queues, change, without_first}
use Rattle.tds_relay.specs.Promises.{Each}
use Rattle.tds_relay.specs.Ties as causes
use Rattle.tds_relay.specs.Ties.{Cause}
use Rattle.tds_relay.proofs.steps.Fronts.{each_both, gone_stays, no_moves}

pub after_both : (h : Machine) (xs ys : List Step) → after_all h (xs ++ ys) ≡ after_all (after_all h xs) ys
after_both h [] ys = refl
after_both h (x ∷ xs) ys = after_both (after h x) xs ys

pub may_both : (h : Machine) (xs ys : List Step) → MayAll h xs → MayAll (after_all h xs) ys → MayAll h (xs ++ ys)
may_both h [] ys m n = n
may_both h (x ∷ xs) ys m n = (m.0, may_both (after h x) xs ys m.1 n)

pub no_steps : (by : Cause) (h : Machine) → Steps by h h
no_steps by h = record { steps = []; are = refl; may = tt; caused = tt }

pub steps_both : (by : Cause) (a b c : Machine) → Steps by a b → Steps by b c → Steps by a c
steps_both by a b c m n = record {
  steps = m.steps ++ n.steps;
  are = after_both a m.steps n.steps ∙ ap (λ (h : Machine). after_all h n.steps) m.are ∙ n.are;
  may = may_both a m.steps n.steps m.may (subst (λ (h : Machine). MayAll h n.steps) (sym m.are) n.may);
  caused = each_both (CausesStep by) m.steps n.steps m.caused n.caused;
}

pub steps_one : (by : Cause) (from old : Machine) (step : Step) → MayStep old step → CausesStep by step → Steps by from old → Steps by from (after old step)
steps_one by from old step may caused m = steps_both by from old (after old step) m (record { steps = step ∷ []; are = refl; may = (may, tt); caused = (caused, tt) })

-- ---- Quiet moves

abbrev pub makes_all : List Move → List Step
makes_all [] = []
makes_all (move ∷ moves) = Makes move ∷ makes_all moves

pub after_makes : (h : Machine) (moves : List Move) → after_all h (makes_all moves) ≡ record { core = moved_all h.core moves; queues = h.queues }
after_makes h [] = refl
after_makes h (move ∷ moves) = after_makes (after h (Makes move)) moves

pub may_makes : (h : Machine) (moves : List Move) → MayMoveAll h.core moves → Each IsQuiet moves → MayAll h (makes_all moves)
may_makes h [] may quiet = tt
may_makes h (move ∷ moves) may quiet = ((may.0, quiet.0), may_makes (after h (Makes move)) moves may.1 quiet.1)

pub caused_makes : (by : Cause) (moves : List Move) → Each (CausesMove by) moves → Each (CausesStep by) (makes_all moves)
caused_makes by [] caused = tt
caused_makes by (move ∷ moves) caused = ((caused.0, tt), caused_makes by moves caused.1)

pub steps_of : (by : Cause) (old new : Core) (queues : Queues) → Moves by old new → Steps by (record { core = old; queues = queues }) (record { core = new; queues = queues })
steps_of by old new queues m = record {
  steps = makes_all m.moves;
  are = after_makes (record { core = old; queues = queues }) m.moves ∙ ap (λ (h : Core). record { core = h; queues = queues }) m.are;
  may = may_makes (record { core = old; queues = queues }) m.moves m.may m.quiet;
  caused = caused_makes by m.moves m.caused;
}

-- on from where steps led, and the same waits
pub steps_moves : (by : Cause) (from : Machine) (old new : Core) (queues queues1 : Queues) → Moves by old new → queues1 ≡ queues
    → Steps by from (record { core = old; queues = queues }) → Steps by from (record { core = new; queues = queues1 })
steps_moves by from old new queues queues1 m kept s =
    subst (λ (ps : Queues). Steps by from (record { core = new; queues = ps })) (sym kept)
    (steps_both by from (record { core = old; queues = queues }) (record { core = new; queues = queues }) s (steps_of by old new queues m))

pub steps_moved : (by : Cause) (from : Machine) (old new : Core) (queues queues1 : Queues) → Moved by old new → queues1 ≡ queues
    → Steps by from (record { core = old; queues = queues }) → Steps by from (record { core = new; queues = queues1 })
steps_moved by from old new queues queues1 m kept s = steps_moves by from old new queues queues1 (m old (no_moves by old)) kept s

-- where a call answers
pub steps_ok : {A E : Type 0} (r : Result A E) (by : Cause) (from : Machine) (old new : Core) (queues queues1 : Queues) → Steps by from (record { core = old; queues = queues })
    → OnOk r (Moved by old new) → OnOk r (queues1 ≡ queues) → OnOk r (Steps by from (record { core = new; queues = queues1 }))
steps_ok (Ok x) by from old new queues queues1 s m kept = steps_moved by from old new queues queues1 m kept s
steps_ok (Err e) by from old new queues queues1 s m kept = tt

pub steps_on_ok : {A E : Type 0} (r : Result A E) (by : Cause) (from : Machine) (old new : Core) (queues queues1 : Queues) → Steps by from (record { core = old; queues = queues })
    → OnOk r (MovedOn old new) → OnOk r (queues1 ≡ queues) → OnOk r (Steps by from (record { core = new; queues = queues1 }))
steps_on_ok (Ok x) by from old new queues queues1 s m kept = steps_moved by from old new queues queues1 (m by) kept s
steps_on_ok (Err e) by from old new queues queues1 s m kept = tt

-- the same, whoever caused it
pub steps_whoever : {A E : Type 0} (r : Result A E) (from : Machine) (old new : Core) (queues queues1 : Queues) → StepsOn from (record { core = old; queues = queues })
    → OnOk r (MovedOn old new) → OnOk r (queues1 ≡ queues) → OnOk r (StepsOn from (record { core = new; queues = queues1 }))
steps_whoever (Ok x) from old new queues queues1 s m kept = λ by. steps_moved by from old new queues queues1 (m by) kept (s by)
steps_whoever (Err e) from old new queues queues1 s m kept = tt

pub same_machine : (d d1 : Pool) (es es1 : EndList) (ps ps1 : Queues) → d1 ≡ d → es1 ≡ es → ps1 ≡ ps → machine_with d es ps ≡ machine_with d1 es1 ps1
same_machine d d1 es es1 ps ps1 same ends kept =
    ap (λ (x : Pool). machine_with x es ps) (sym same) ∙ ap (λ (x : EndList). machine_with d1 x ps) (sym ends) ∙ ap (λ (x : Queues). machine_with d1 es1 x) (sym kept)

-- to the same machine
pub steps_same : (by : Cause) (from : Machine) (d d1 : Pool) (es es1 : EndList) (ps ps1 : Queues) → d1 ≡ d → es1 ≡ es → ps1 ≡ ps → Steps by from (machine_with d es ps) → Steps by from (machine_with d1 es1 ps1)
steps_same by from d d1 es es1 ps ps1 same ends kept s = subst (Steps by from) (same_machine d d1 es es1 ps ps1 same ends kept) s

-- ---- Applications that come and go

pub steps_enters : (from : Machine) (d : Pool) (es es1 : EndList) (ps ps1 : Queues) (key size tag : ℕ) → HasEntered key es es1 → EntersQueues size tag key ps ps1
    → Steps causes.Neither from (machine_with d es ps) → Steps causes.Neither from (machine_with d es1 ps1)
steps_enters from d es es1 ps ps1 key size tag entered waits s =
    steps_one causes.Neither from (machine_with d es ps) (Admits key es1 ps1) (entered, size, tag, waits) (refl, tt) s

-- one is there no more, and what it held is let go
pub steps_quits : (key : ℕ) (from : Machine) (d : Pool) (es es1 : EndList) (ps ps1 : Queues) (new : Core) → es1 ≡ slice_set es key None → ps1 ≡ slice_set ps key None → LetsGoFirst key (core_of_ends d es1) new
    → Steps (causes.Application key) from (machine_with d es ps) → Steps (causes.Application key) from (record { core = new; queues = ps1 })
steps_quits key from d es es1 ps ps1 new quit gone l s =
    let left : Pool = (turn d (pool.Leaves key l.0 l.1)).pool in
    let one : Steps (causes.Application key) from (machine_with left (slice_set es key None) (slice_set ps key None)) =
    steps_one (causes.Application key) from (machine_with d es ps) (Removes key l.0 l.1) tt (refl, tt) s in
    steps_moved (causes.Application key) from (core_of_ends left (change_end key lets_go es1)) new ps1 ps1 (l.2 (causes.Application key)) refl
    (steps_same (causes.Application key) from left left (slice_set es key None) (change_end key lets_go es1) (slice_set ps key None) ps1 refl
    (ap (change_end key lets_go) quit ∙ gone_stays es key lets_go) gone one)

-- so many bytes wait for one no more
pub steps_writes : (key count : ℕ) (h : Machine) (d1 : Pool) (es1 : EndList) (ps1 : Queues) → d1 ≡ h.core.pool → es1 ≡ h.core.ends → ps1 ≡ change key (without_first count) h.queues
    → Steps causes.Neither h (machine_with d1 es1 ps1)
steps_writes key count h d1 es1 ps1 same ends sent =
    steps_same causes.Neither h h.core.pool d1 h.core.ends es1 (change key (without_first count) h.queues) ps1 same ends sent
    (steps_one causes.Neither h h (Writes key count) tt refl (no_steps causes.Neither h))

-- ---- From a new one

pub led_on : (sharing : Sharing) (by : Cause) (old new : Machine) → Steps by old new → IsLedTo sharing old → IsLedTo sharing new
led_on sharing by old new s (steps, are, may) = (
  steps ++ s.steps,
  after_both (new_machine sharing) steps s.steps ∙ ap (λ (h : Machine). after_all h s.steps) are ∙ s.are,
  may_both (new_machine sharing) steps s.steps may (subst (λ (h : Machine). MayAll h s.steps) (sym are) s.may),
)
