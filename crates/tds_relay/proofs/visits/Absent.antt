-- An application has nothing at the pool where it enters; and since, it comes to wait only where it has nothing there.
use Rattle.std.proofs.Common.{◌≡◌, ◌∙◌, ℕ, Bool, true, false, List, [], ◌∷◌, ◌++◌, refl, sym, ap, subst}
use Rattle.std.specs.Prelude.{None}
use Rattle.tds_relay.specs.Law.{IsAway, WaitsAway, done_before, done_since}
use Rattle.tds_relay.specs.Behind.{events_along}
use Rattle.tds_relay.specs.Pool as pool
use Rattle.tds_relay.specs.Pool.{Pool, Event, Sharing, pool_after, new_pool, turn}
use Rattle.tds_relay.specs.Giving.{Visit, machine_at_visit, moves_in}
use Rattle.tds_relay.specs.Core as core
use Rattle.tds_relay.specs.Core.{Core, MayDoAlone, MayMove, MayMoveAll, Move, end_at, event_if, events_of, moved, moved_all, new_core, stops_of}
use Rattle.tds_relay.specs.Machine.{Machine, after_all, new_machine}
use Rattle.tds_relay.specs.Promises.{comes_to_wait}
use Rattle.tds_relay.proofs.held.Away.{no_place}
use Rattle.tds_relay.proofs.ends.Folding.{Alone, ByHistory, pool_both}
use Rattle.tds_relay.proofs.held.Lists.{theirs_none}
use Rattle.tds_relay.proofs.visits.Reached.{Free, Judging, before}
use Rattle.tds_relay.proofs.visits.Stays.{came, core_after, may_moves}

-- ---- Along moves

waits_both : (key : ℕ) (d : Pool) (xs ys : List Event) → WaitsAway key d xs → WaitsAway key (pool_after d xs) ys → WaitsAway key d (xs ++ ys)
waits_both key d [] ys w more = more
waits_both key d (x ∷ xs) ys w more = (w.0, waits_both key (turn d x).pool xs ys w.1 more)

away_at : (key k : ℕ) (h : Core) → core.IsThereAndAway h k → k ∷ [] ≡ key ∷ [] → IsAway key h.pool
away_at key k h away is =
    let same : k ≡ key = cc in
    let there : IsAway k h.pool = record { holds = away.holds; waits = no_place k h.pool.line away.waits } in
    subst (λ (x : ℕ). IsAway x h.pool) same there

-- nobody comes to wait by another event
no_wait : (key : ℕ) (d : Pool) → [] ≡ key ∷ [] → IsAway key d
no_wait key d is = absurd (let u : ⊥ = cc in u)

does_away : (key : ℕ) (h : Core) (event : Event) → MayDoAlone h event → comes_to_wait event ≡ key ∷ [] → IsAway key h.pool
does_away key h (pool.Waits k) may is = away_at key k h may.0 is
does_away key h (pool.Unwaits k) may is = no_wait key h.pool is
does_away key h pool.Serves may is = no_wait key h.pool is
does_away key h (pool.Brings gives way) may is = no_wait key h.pool is
does_away key h (pool.Does k action) may is = no_wait key h.pool is
does_away key h (pool.Leaves k gives way) may is = no_wait key h.pool is
does_away key h (pool.Renews k resumes) may is = no_wait key h.pool is
does_away key h (pool.Comes number part way) may is = no_wait key h.pool is
does_away key h (pool.Loses number) may is = no_wait key h.pool is

stops_away : (key k : ℕ) (d : Pool) (b : Bool) → WaitsAway key d (event_if b (pool.Does k pool.Stops))
stops_away key k d true = (no_wait key d, tt)
stops_away key k d false = tt

move_away : (key : ℕ) (h : Core) (move : Move) → MayMove h move → WaitsAway key h.pool (events_of h move)
move_away key h (core.Does event) may = (does_away key h event may, tt)
move_away key h (core.Sends k action) may = (no_wait key h.pool, tt)
move_away key h (core.LetsGo k parks gives way) may = (no_wait key h.pool, tt)
move_away key h (core.Loses number) may = (no_wait key h.pool, tt)
move_away key h (core.Replaces number) may = (no_wait key h.pool, tt)
move_away key h (core.Comes number part way) may = (no_wait key h.pool, tt)
move_away key h (core.Feeds k bytes) may = stops_away key k h.pool (stops_of bytes (end_at h.ends k))
move_away key h (core.Closes k) may = tt
move_away key h (core.Enters k ends) may = tt
move_away key h (core.Quits k gives way) may = (no_wait key h.pool, tt)

moves_away : (key : ℕ) (h : Core) (moves : List Move) → MayMoveAll h moves → WaitsAway key h.pool (events_along h moves)
moves_away key h [] may = tt
moves_away key h (move ∷ moves) may =
    waits_both key h.pool (events_of h move) (events_along (moved h move) moves) (move_away key h move may.0) (moves_away key (moved h move) moves may.1)

pool_along : (h : Core) (moves : List Move) → (moved_all h moves).pool ≡ pool_after h.pool (events_along h moves)
pool_along h [] = refl
pool_along h (move ∷ moves) = pool_along (moved h move) moves ∙ sym (pool_both h.pool (events_of h move) (events_along (moved h move) moves))

-- ---- A visit

pub away_where_it_enters : (sharing : Sharing) (key : ℕ) → Alone → ByHistory → Judging → (v : Visit sharing key) → IsAway key (pool_after (new_pool sharing) (done_before v))
away_where_it_enters sharing key alone by judges v =
    let c = came sharing key v in
    let is : (after_all (new_machine sharing) v.before).core ≡ moved_all (new_core sharing) (moves_in v.before) = core_after (new_machine sharing) v.before in
    let free : end_at (moved_all (new_core sharing) (moves_in v.before)).ends key ≡ None = ap (λ (h : Core). end_at h.ends key) (sym is) ∙ c.may_come.0.was_free in
    let at : Free sharing key alone by judges (done_before v) (moved_all (new_core sharing) (moves_in v.before)) =
    before sharing key alone by judges (moves_in v.before) (may_moves (new_machine sharing) v.before c.may_before) free in
    let away : IsAway key (moved_all (new_core sharing) (moves_in v.before)).pool =
    record { holds = theirs_none key (moved_all (new_core sharing) (moves_in v.before)).pool.holds at.gone.holds; waits = at.gone.waits } in
    subst (IsAway key) at.is away

-- its coming does nothing at the pool
pub pool_is : (sharing : Sharing) (key : ℕ) (v : Visit sharing key) → (machine_at_visit v).core.pool ≡ pool_after (new_pool sharing) (done_before v)
pool_is sharing key v =
    ap (λ (h : Machine). h.core.pool) (came sharing key v).machine_is ∙ ap (λ (h : Core). h.pool) (core_after (new_machine sharing) v.before) ∙ pool_along (new_core sharing) (moves_in v.before)

pub away_since : (sharing : Sharing) (key : ℕ) (v : Visit sharing key) → WaitsAway key (pool_after (new_pool sharing) (done_before v)) (done_since v)
away_since sharing key v =
    subst (λ (d : Pool). WaitsAway key d (done_since v)) (pool_is sharing key v) (moves_away key (machine_at_visit v).core (moves_in v.since) (may_moves (machine_at_visit v) v.since (came sharing key v).may_since))
