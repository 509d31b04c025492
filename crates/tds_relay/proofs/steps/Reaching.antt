-- Pools that are reached by events.
use Rattle.std.proofs.Common.{◌≡◌, ◌∙◌, ℕ, List, [], ◌∷◌, ◌++◌, refl, sym, ap, subst}
use Rattle.std.specs.Prelude.{Result, Ok, Err, OnOk}
use Rattle.tds_relay.specs.Pool.{Pool, Event, Leaves, pool_after, new_pool, turn}
use Rattle.tds_relay.specs.Promises.{Each}
use Rattle.tds_relay.specs.Ties.{Application, Cause, Causes, LedTo, IsReached, Leaving, Reaches, Turns}

after_both : (d : Pool) (xs ys : List Event) → pool_after d (xs ++ ys) ≡ pool_after (pool_after d xs) ys
after_both d [] ys = refl
after_both d (x ∷ xs) ys = after_both (turn d x).pool xs ys

each_both : {X : Type 0} (P : X → Type 0) (xs ys : List X) → Each P xs → Each P ys → Each P (xs ++ ys)
each_both P [] ys h k = k
each_both P (x ∷ xs) ys h k = (h.0, each_both P xs ys h.1 k)

-- one more
pub reaches_turn : (by : Cause) (from old new : Pool) (event : Event) (before after : List ℕ) → Turns event old new before after → Causes by event → Reaches by from old → Reaches by from new
reaches_turn by from old new event before after t cause h = record {
  events = h.events ++ event ∷ [];
  are = after_both from h.events (event ∷ []) ∙ ap (λ (d : Pool). (turn d event).pool) h.are ∙ sym t.pool_is;
  caused = each_both (Causes by) h.events (event ∷ []) h.caused (cause, tt);
}

-- that one
pub reaches_turned : (by : Cause) (from old new : Pool) (event : Event) (before after : List ℕ) → Turns event old new before after → Reaches by from (turn old event).pool → Reaches by from new
reaches_turned by from old new event before after t h = subst (Reaches by from) (sym t.pool_is) h

-- one that is known by what it leaves
pub reaches_next : (by : Cause) (from old : Pool) (event : Event) → Causes by event → Reaches by from old → Reaches by from (turn old event).pool
reaches_next by from old event cause h = record {
  events = h.events ++ event ∷ [];
  are = after_both from h.events (event ∷ []) ∙ ap (λ (d : Pool). (turn d event).pool) h.are;
  caused = each_both (Causes by) h.events (event ∷ []) h.caused (cause, tt);
}

-- where it was reached from a new one, it is
pub reached_on : (by : Cause) (old new : Pool) → LedTo by old new → IsReached old → IsReached new
reached_on by old new g r =
    let h : Reaches by old new = g old (record { events = []; are = refl; caused = tt }) in
    (r.0, r.1 ++ h.events, after_both (new_pool r.0) r.1 h.events ∙ ap (λ (d : Pool). pool_after d h.events) r.2 ∙ h.are)

pub reached_turn : (old new : Pool) (event : Event) (before after : List ℕ) → Turns event old new before after → IsReached old → IsReached new
reached_turn old new event before after t r =
    (r.0, r.1 ++ event ∷ [], after_both (new_pool r.0) r.1 (event ∷ []) ∙ ap (λ (d : Pool). (turn d event).pool) r.2 ∙ sym t.pool_is)

pub reached_next : (d : Pool) (event : Event) → IsReached d → IsReached (turn d event).pool
reached_next d event r = (r.0, r.1 ++ event ∷ [], after_both (new_pool r.0) r.1 (event ∷ []) ∙ ap (λ (x : Pool). (turn x event).pool) r.2)

-- an application lets go what it holds
pub reaches_left : (key : ℕ) (from old new : Pool) → Leaving key old new → Reaches (Application key) from old → Reaches (Application key) from new
reaches_left key from old new l h = l.2 (Application key) from (reaches_next (Application key) from old (Leaves key l.0 l.1) refl h)

pub ok_if : {A E : Type 0} (r : Result A E) (P : Type 0) → P → OnOk r P
ok_if (Ok x) P h = h
ok_if (Err e) P h = tt

pub ok_more : {A E : Type 0} (r : Result A E) (P Q : Type 0) → (P → Q) → OnOk r P → OnOk r Q
ok_more (Ok x) P Q f h = f h
ok_more (Err e) P Q f h = tt

-- what is known of two things
pub ok_with : {A E : Type 0} (r : Result A E) (P Q R : Type 0) → (P → Q → R) → OnOk r P → OnOk r Q → OnOk r R
ok_with (Ok x) P Q R f h g = f h g
ok_with (Err e) P Q R f h g = tt
