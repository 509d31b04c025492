-- In a visit each renewal has memory.
use Rattle.std.proofs.Common.{◌≡◌, ◌∙◌, ℕ, Bool, true, false, List, [], ◌∷◌, ◌++◌, refl, sym, ap, subst}
use Rattle.tds_relay.specs.Law.{done_since}
use Rattle.tds_relay.specs.Behind.{events_along}
use Rattle.tds_relay.specs.Pool as pool
use Rattle.tds_relay.specs.Pool.{Event, Sharing}
use Rattle.tds_relay.specs.Giving.{Visit, machine_at_visit, moves_in}
use Rattle.tds_relay.specs.Core as core
use Rattle.tds_relay.specs.Core.{Core, MayDoAlone, MayMove, Move, end_at, event_if, events_of, moved, stops_of}
use Rattle.tds_relay.specs.Machine.{Admits, Hands, Machine, Makes, MayAll, Removes, Step, Takes, Writes, after, after_all, new_machine}
use Rattle.tds_relay.specs.Promises.{Each}
use Rattle.laws_as_if_alone.specs.Visits.{HasMemory}

does_keep : (h : Core) (event : Event) → MayDoAlone h event → HasMemory event
does_keep h (pool.Waits key) may = tt
does_keep h (pool.Unwaits key) may = tt
does_keep h pool.Serves may = tt
does_keep h (pool.Brings gives way) may = tt
does_keep h (pool.Does key action) may = tt
does_keep h (pool.Leaves key gives way) may = tt
does_keep h (pool.Renews key resumes) may = may.0
does_keep h (pool.Comes number part way) may = tt
does_keep h (pool.Loses number) may = tt

stops_keep : (key : ℕ) (b : Bool) → Each HasMemory (event_if b (pool.Does key pool.Stops))
stops_keep key true = (tt, tt)
stops_keep key false = tt

move_keeps : (h : Core) (move : Move) → MayMove h move → Each HasMemory (events_of h move)
move_keeps h (core.Does event) may = (does_keep h event may, tt)
move_keeps h (core.Sends key action) may = (tt, tt)
move_keeps h (core.LetsGo key parks gives way) may = (tt, tt)
move_keeps h (core.Loses number) may = (tt, tt)
move_keeps h (core.Replaces number) may = (tt, tt)
move_keeps h (core.Comes number part way) may = (tt, tt)
move_keeps h (core.Feeds key bytes) may = stops_keep key (stops_of bytes (end_at h.ends key))
move_keeps h (core.Closes key) may = tt
move_keeps h (core.Enters key ends) may = tt
move_keeps h (core.Quits key gives way) may = (tt, tt)

both_keep : (xs ys : List Event) → Each HasMemory xs → Each HasMemory ys → Each HasMemory (xs ++ ys)
both_keep [] ys xs_keep ys_keep = ys_keep
both_keep (x ∷ xs) ys xs_keep ys_keep = (xs_keep.0, both_keep xs ys xs_keep.1 ys_keep)

along : (h : Core) (move : Move) (moves : List Move) → MayMove h move → Each HasMemory (events_along (moved h move) moves) → Each HasMemory (events_along h (move ∷ moves))
along h move moves may keep = both_keep (events_of h move) (events_along (moved h move) moves) (move_keeps h move may) keep

steps_keep : (h : Machine) (steps : List Step) → MayAll h steps → Each HasMemory (events_along h.core (moves_in steps))
steps_keep h [] may = tt
steps_keep h (Makes move ∷ steps) may = along h.core move (moves_in steps) may.0.0 (steps_keep (after h (Makes move)) steps may.1)
steps_keep h (Hands number header content part way manner ∷ steps) may =
    along h.core (core.Comes number part way) (moves_in steps) tt (steps_keep (after h (Hands number header content part way manner)) steps may.1)
steps_keep h (Takes key bytes ∷ steps) may = along h.core (core.Feeds key bytes) (moves_in steps) tt (steps_keep (after h (Takes key bytes)) steps may.1)
steps_keep h (Writes key count ∷ steps) may = steps_keep (after h (Writes key count)) steps may.1
steps_keep h (Admits key ends queues ∷ steps) may =
    along h.core (core.Enters key ends) (moves_in steps) may.0.0 (steps_keep (after h (Admits key ends queues)) steps may.1)
steps_keep h (Removes key gives way ∷ steps) may =
    along h.core (core.Quits key gives way) (moves_in steps) tt (steps_keep (after h (Removes key gives way)) steps may.1)

may_since : (h : Machine) (xs ys : List Step) → MayAll h (xs ++ ys) → MayAll (after_all h xs) ys
may_since h [] ys may = may
may_since h (x ∷ xs) ys may = may_since (after h x) xs ys may.1

with_last : (h : Machine) (xs : List Step) (step : Step) → after_all h (xs ++ step ∷ []) ≡ after (after_all h xs) step
with_last h [] step = refl
with_last h (x ∷ xs) step = with_last (after h x) xs step

pub keeps_in_visits : (sharing : Sharing) (key : ℕ) (v : Visit sharing key) → Each HasMemory (done_since v)
keeps_in_visits sharing key v =
    let comes : Step = Admits key v.ends v.queues in
    let may : MayAll (after (after_all (new_machine sharing) v.before) comes) v.since = (may_since (new_machine sharing) v.before (comes ∷ v.since) v.may).1 in
    steps_keep (machine_at_visit v) v.since (subst (λ (h : Machine). MayAll h v.since) (sym (with_last (new_machine sharing) v.before comes)) may)
