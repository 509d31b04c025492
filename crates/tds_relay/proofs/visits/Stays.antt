-- The moves of a visit are a stay (Behind).
use Rattle.std.proofs.Common.{◌≡◌, ◌∙◌, ℕ, false, List, [], ◌∷◌, ◌++◌, refl, sym, ap, subst, append_assoc}
use Rattle.std.specs.Prelude.{None}
use Rattle.tds_front.specs.declared.stage.Stage.TheVariants as stages
use Rattle.tds_front.specs.Passing.{towards}
use Rattle.tds_front.specs.Serving.{IsLawful, Ready}
use Rattle.tds_relay.specs.Behind as behind
use Rattle.tds_relay.specs.Behind.{Stay, Stays, StaysIn, events_along, passed, passed_in}
use Rattle.tds_relay.specs.Fronting.{AnswersOnce, done_on}
use Rattle.tds_relay.specs.Core as core
use Rattle.tds_relay.specs.Core.{Enters, Core, IsQuiet, MayMoveAll, Move, moved_all, new_core}
use Rattle.tds_relay.specs.Machine.{Machine, Step, Makes, Hands, Takes, Writes, Admits, Removes, MayAll, MayStep, after, after_all, moves_of, new_machine}
use Rattle.tds_relay.specs.Giving as visits
use Rattle.tds_relay.specs.Giving.{StaysAll, StaysBy, Visit, happens_in, machine_at_visit, moves_in}
use Rattle.tds_relay.proofs.ends.Folding.{may_both, moved_both}
use Rattle.tds_relay.proofs.steps.Stepping.{after_both}
use Rattle.tds_relay.specs.Pool.{Sharing}

-- ---- One behind the other

moves_both : (xs ys : List Step) → moves_in (xs ++ ys) ≡ moves_in xs ++ moves_in ys
moves_both [] ys = refl
moves_both (x ∷ xs) ys = ap (λ (moves : List Move). moves_of x ++ moves) (moves_both xs ys) ∙ sym (append_assoc (moves_of x) (moves_in xs) (moves_in ys))

stays_both : (key : ℕ) (xs ys : List Move) → Stays key xs → Stays key ys → Stays key (xs ++ ys)
stays_both key [] ys s t = t
stays_both key (x ∷ xs) ys s t = (s.0, stays_both key xs ys s.1 t)

may_behind : (h : Machine) (xs ys : List Step) → MayAll h (xs ++ ys) → MayAll (after_all h xs) ys
may_behind h [] ys may = may
may_behind h (x ∷ xs) ys may = may_behind (after h x) xs ys may.1

may_before : (h : Machine) (xs ys : List Step) → MayAll h (xs ++ ys) → MayAll h xs
may_before h [] ys may = tt
may_before h (x ∷ xs) ys may = (may.0, may_before (after h x) xs ys may.1)

-- ---- A step's moves

pub core_after : (h : Machine) (steps : List Step) → (after_all h steps).core ≡ moved_all h.core (moves_in steps)
core_after h [] = refl
core_after h (step ∷ steps) = core_after (after h step) steps ∙ sym (moved_both h.core (moves_of step) (moves_in steps))

pub may_step : (h : Machine) (step : Step) → MayStep h step → MayMoveAll h.core (moves_of step)
may_step h (Makes move) may = (may.0, tt)
may_step h (Hands number header content part way manner) may = (tt, tt)
may_step h (Takes key bytes) may = (tt, tt)
may_step h (Writes key count) may = tt
may_step h (Admits key ends queues) may = (may.0, tt)
may_step h (Removes key gives way) may = (tt, tt)

pub may_moves : (h : Machine) (steps : List Step) → MayAll h steps → MayMoveAll h.core (moves_in steps)
may_moves h [] may = tt
may_moves h (step ∷ steps) may = may_both h.core (moves_of step) (moves_in steps) (may_step h step may.0) (may_moves (after h step) steps may.1)

pub stays_move : (key : ℕ) (move : Move) → IsQuiet move → StaysIn key move
stays_move key (core.Does event) quiet = tt
stays_move key (core.Sends other action) quiet = tt
stays_move key (core.LetsGo other parks gives way) quiet = tt
stays_move key (core.Loses number) quiet = tt
stays_move key (core.Replaces number) quiet = tt
stays_move key (core.Comes number part way) quiet = absurd quiet
stays_move key (core.Feeds other bytes) quiet = absurd quiet
stays_move key (core.Closes other) quiet = tt
stays_move key (core.Enters other ends) quiet = absurd quiet
stays_move key (core.Quits other gives way) quiet = absurd quiet

pub stays_step : (key : ℕ) (h : Machine) (step : Step) → MayStep h step → StaysBy key step → Stays key (moves_of step)
stays_step key h (Makes move) may stays = (stays_move key move may.1, tt)
stays_step key h (Hands number header content part way manner) may stays = (tt, tt)
stays_step key h (Takes other bytes) may stays = (tt, tt)
stays_step key h (Writes other count) may stays = tt
stays_step key h (Admits other ends queues) may stays = (stays, tt)
stays_step key h (Removes other gives way) may stays = (stays, tt)

pub stays_moves : (key : ℕ) (h : Machine) (steps : List Step) → MayAll h steps → StaysAll key steps → Stays key (moves_in steps)
stays_moves key h [] may stays = tt
stays_moves key h (step ∷ steps) may stays =
    stays_both key (moves_of step) (moves_in steps) (stays_step key h step may.0 stays.0) (stays_moves key (after h step) steps may.1 stays.1)

-- ---- A visit

-- as it comes, and since
pub record Came (sharing : Sharing) (key : ℕ) (v : Visit sharing key) : Type 0 where
  pub may_before : MayAll (new_machine sharing) v.before
  pub may_come : MayStep (after_all (new_machine sharing) v.before) (Admits key v.ends v.queues)
  pub machine_is : machine_at_visit v ≡ after (after_all (new_machine sharing) v.before) (Admits key v.ends v.queues)
  pub may_since : MayAll (machine_at_visit v) v.since

pub came : (sharing : Sharing) (key : ℕ) (v : Visit sharing key) → Came sharing key v
came sharing key v =
    let h = new_machine sharing in
    let rest = may_behind h v.before (Admits key v.ends v.queues ∷ v.since) v.may in
    let is : machine_at_visit v ≡ after (after_all h v.before) (Admits key v.ends v.queues) = after_both h v.before (Admits key v.ends v.queues ∷ []) in
    record {
      may_before = may_before h v.before (Admits key v.ends v.queues ∷ v.since) v.may;
      may_come = rest.0;
      machine_is = is;
      may_since = subst (λ (x : Machine). MayAll x v.since) (sym is) rest.1;
    }

pub stay_of : (sharing : Sharing) (key : ℕ) → Visit sharing key → Stay sharing key
stay_of sharing key v =
    let all = may_moves (new_machine sharing) (v.before ++ Admits key v.ends v.queues ∷ v.since) v.may in
    let behind = came sharing key v in
    record {
      before = moves_in v.before;
      ends = v.ends;
      since = moves_in v.since;
      may = subst (MayMoveAll (new_core sharing)) (moves_both v.before (Admits key v.ends v.queues ∷ v.since)) all;
      stays = stays_moves key (machine_at_visit v) v.since behind.may_since v.stays;
    }

-- what passes in it, and what is done
happens_so : (sharing : Sharing) (key : ℕ) (v : Visit sharing key) → towards None stages.Quiet (passed_in (stay_of sharing key v)) ≡ happens_in v
unfolding stay_of
happens_so sharing key v =
    let come : List Step = Admits key v.ends v.queues ∷ [] in
    let moves : moves_in (v.before ++ come) ≡ moves_in v.before ++ Enters key v.ends ∷ [] = moves_both v.before come in
    let is : moved_all (new_core sharing) (moves_in v.before ++ Enters key v.ends ∷ []) ≡ (machine_at_visit v).core =
    ap (moved_all (new_core sharing)) (sym moves) ∙ sym (core_after (new_machine sharing) (v.before ++ come)) in
    ap (λ (h : Core). towards None stages.Quiet (passed key h (moves_in v.since))) is

once_so : (sharing : Sharing) (key : ℕ) (v : Visit sharing key) → visits.ServersAnswerOnce v → behind.AllAnswerOnce (stay_of sharing key v)
unfolding stay_of
once_so sharing key v once number =
    let moves : moves_in (v.before ++ Admits key v.ends v.queues ∷ v.since) ≡ moves_in v.before ++ Enters key v.ends ∷ moves_in v.since =
    moves_both v.before (Admits key v.ends v.queues ∷ v.since) in
    subst (λ (ms : List Move). AnswersOnce false (done_on sharing number (events_along (new_core sharing) ms))) moves (once number)

pub lawful_visit : (sharing : Sharing) (key : ℕ) (v : Visit sharing key) → ((s : Stay sharing key) → behind.AllAnswerOnce s → IsLawful Ready (towards None stages.Quiet (passed_in s)))
    → visits.ServersAnswerOnce v → IsLawful Ready (happens_in v)
lawful_visit sharing key v lawful once = subst (IsLawful Ready) (happens_so sharing key v) (lawful (stay_of sharing key v) (once_so sharing key v once))
