-- A visit's moments, in which an application comes to wait only where it's away.
use Rattle.std.proofs.Common.{◌≡◌, ◌∙◌, ℕ, Bool, List, [], ◌∷◌, refl, sym, ap, subst}
use Rattle.tds_relay.specs.Law.{IsAway, WaitsAway, done_before, done_since}
use Rattle.tds_relay.specs.Pool.{Pool, Event, Sharing, pool_after, new_pool, turn}
use Rattle.tds_relay.specs.Giving.{Visit}
use Rattle.laws_as_if_alone.specs.Alone.{AllOrderly, AsIfAlone}
use Rattle.laws_as_if_alone.specs.Serving.{Moment, Server, World, fresh, happens, new_world, world_after}
use Rattle.laws_as_if_alone.specs.Turns.{AllParkedFresh, AsIfUnparked}
use Rattle.laws_as_if_alone.specs.Visits.{AllSaid, Moments, events_in, world_in}
use Rattle.laws_as_if_alone.proofs.Told.{as_if_alone}
use Rattle.laws_as_if_alone.proofs.Turns.{alone_by_turns}

pub pool_along : {V : Type 0} (server : Server V) (w : World V) (ms : List (Moment V)) → (world_after turn server w ms).pool ≡ pool_after w.pool (events_in ms)
pool_along server w [] = refl
pool_along server w (m ∷ ms) = pool_along server (happens turn server w m) ms

all_orderly : {V : Type 0} (server : Server V) (key : ℕ) (w : World V) (ms : List (Moment V)) → WaitsAway key w.pool (events_in ms) → AllSaid turn key server w ms → AllOrderly turn key server w ms
all_orderly server key w [] waits said = tt
all_orderly server key w (m ∷ ms) waits said = (record { waits = waits.0; said = said.0 }, all_orderly server key (happens turn server w m) ms waits.1 said.1)

pub alone_in_visits : {V : Type 0} (server : Server V) (sharing : Sharing) (key : ℕ) (v : Visit sharing key) (ms : Moments V v)
    → IsAway key (pool_after (new_pool sharing) (done_before v)) → WaitsAway key (pool_after (new_pool sharing) (done_before v)) (done_since v)
    → AllSaid turn key server (world_in server ms) ms.since
    → AsIfAlone turn key server (fresh server) (world_in server ms) ms.since (world_after turn server (world_in server ms) ms.since)
alone_in_visits server sharing key v ms away waits said =
    let w = world_in server ms in
    let is : w.pool ≡ pool_after (new_pool sharing) (done_before v) = pool_along server (new_world server sharing) ms.before ∙ ap (pool_after (new_pool sharing)) ms.before_is in
    let waits_at : WaitsAway key w.pool (done_since v) = subst (λ (d : Pool). WaitsAway key d (done_since v)) (sym is) waits in
    let waits_in : WaitsAway key w.pool (events_in ms.since) = subst (λ (es : List Event). WaitsAway key w.pool es) (sym ms.since_is) waits_at in
    as_if_alone server sharing key ms.before ms.since (subst (IsAway key) (sym is) away) (all_orderly server key w ms.since waits_in said)

pub turns_in_visits : {V : Type 0} (server : Server V) (sharing : Sharing) (key : ℕ) (parks : Moment V → Bool) (v : Visit sharing key) (ms : Moments V v)
    → IsAway key (pool_after (new_pool sharing) (done_before v)) → WaitsAway key (pool_after (new_pool sharing) (done_before v)) (done_since v)
    → AllSaid turn key server (world_in server ms) ms.since → AllParkedFresh parks turn key server (world_in server ms) ms.since
    → AsIfUnparked parks turn key server (fresh server) (world_in server ms) ms.since (world_after turn server (world_in server ms) ms.since)
turns_in_visits server sharing key parks v ms away waits said all =
    let w = world_in server ms in
    let is : w.pool ≡ pool_after (new_pool sharing) (done_before v) = pool_along server (new_world server sharing) ms.before ∙ ap (pool_after (new_pool sharing)) ms.before_is in
    let waits_at : WaitsAway key w.pool (done_since v) = subst (λ (d : Pool). WaitsAway key d (done_since v)) (sym is) waits in
    let waits_in : WaitsAway key w.pool (events_in ms.since) = subst (λ (es : List Event). WaitsAway key w.pool es) (sym ms.since_is) waits_at in
    alone_by_turns server sharing key parks ms.before ms.since (subst (IsAway key) (sym is) away) (all_orderly server key w ms.since waits_in said) all
