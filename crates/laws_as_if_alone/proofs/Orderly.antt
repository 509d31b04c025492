-- What is to be shown of a play that is worked out: where its application comes to wait, and what comes to it.
use Rattle.std.proofs.Common.{◌≡◌, ◌∙◌, ◌==◌, ℕ, Bool, true, false, List, [], ◌∷◌, refl, sym, ap}
use Rattle.std.specs.Prelude.{Option, Some, None}
use Rattle.std.proofs.lemmas.Bool.{eq-eqb}
use Rattle.tds_relay.specs.Law.{IsAway}
use Rattle.tds_relay.specs.Pool as pool
use Rattle.tds_relay.specs.Pool.{Pool, Event, PoolTurn, whose}
use Rattle.tds_relay.specs.Promises.{comes_to_wait}
use Rattle.tds_relay.proofs.held.Ours.{same_number}
use Rattle.laws_as_if_alone.specs.Serving.{Moment, Server, World, happens}
use Rattle.laws_as_if_alone.specs.Alone.{AllOrderly, IsNextAt, IsSaid, heard_of, line_of}

abbrev IfIts : Bool → Type 0 → Type 0 → Type 0
IfIts true here rest = here × rest
IfIts false here rest = rest

abbrev is_its : ℕ → Option ℕ → Bool
is_its key None = false
is_its key (Some other) = other == key

abbrev Demand : {V : Type 0} → ℕ → World V → Event → Type 0 → Type 0
Demand key w (pool.Waits other) rest = IfIts (other == key) (IsAway key w.pool) rest
Demand key w (pool.Comes number part way) rest =
    IfIts (is_its key (whose w.pool number)) ((heard_of (line_of w.pool number) part ≡ pool.Wrong → ⊥) → IsNextAt (line_of w.pool number).stage part (w.ends number).due) rest
Demand key w event rest = rest

abbrev pub Demands : {V : Type 0} → (Pool → Event → PoolTurn) → ℕ → Server V → World V → List (Moment V) → Type 0
Demands turns key server w [] = Unit {0}
Demands turns key server w (m ∷ ms) = Demand key w m.event (Demands turns key server (happens turns server w m) ms)

-- ---- One moment

abbrev IsRight : {V : Type 0} → ℕ → World V → Event → Type 0
IsRight key w event = (comes_to_wait event ≡ key ∷ [] → IsAway key w.pool) × IsSaid key w event

nobody_waits : (key : ℕ) → ◌≡◌ {A = List ℕ} [] (key ∷ []) → ⊥
nobody_waits key e = let u : ⊥ = cc in u

waits_by : {V : Type 0} (key other : ℕ) (w : World V) (rest : Type 0) (b : Bool) → (other == key) ≡ b → IfIts b (IsAway key w.pool) rest → (other ∷ [] ≡ key ∷ [] → IsAway key w.pool) × rest
waits_by key other w rest true e d = (λ is. d.0, d.1)
waits_by key other w rest false e d = (
  λ is. absurd (let same : other ≡ key = cc in let yes : (other == key) ≡ true = eq-eqb other key same in let u : true ≡ false = sym yes ∙ e in let v : ⊥ = cc in v),
  d,
)

comes_by : (key : ℕ) (whom : Option ℕ) (next rest : Type 0) (b : Bool) → is_its key whom ≡ b → IfIts b next rest → (whom ≡ Some key → next) × rest
comes_by key whom next rest true e d = (λ is. d.0, d.1)
comes_by key whom next rest false e d = (
  λ is. absurd (let yes : is_its key whom ≡ true = ap (is_its key) is ∙ same_number key in let u : true ≡ false = sym yes ∙ e in let v : ⊥ = cc in v),
  d,
)

one : {V : Type 0} (key : ℕ) (w : World V) (event : Event) (rest : Type 0) → Demand key w event rest → IsRight key w event × rest
one key w (pool.Waits other) rest d = let s = waits_by key other w rest (other == key) refl d in ((s.0, tt), s.1)
one key w (pool.Unwaits other) rest d = ((λ is. absurd (nobody_waits key is), tt), d)
one key w pool.Serves rest d = ((λ is. absurd (nobody_waits key is), tt), d)
one key w (pool.Brings gives way) rest d = ((λ is. absurd (nobody_waits key is), tt), d)
one key w (pool.Does other action) rest d = ((λ is. absurd (nobody_waits key is), tt), d)
one key w (pool.Leaves other gives way) rest d = ((λ is. absurd (nobody_waits key is), tt), d)
one key w (pool.Renews other resumes) rest d = ((λ is. absurd (nobody_waits key is), tt), d)
one key w (pool.Comes number part way) rest d =
    let whom = whose w.pool number in
    let s = comes_by key whom ((heard_of (line_of w.pool number) part ≡ pool.Wrong → ⊥) → IsNextAt (line_of w.pool number).stage part (w.ends number).due) rest (is_its key whom) refl d in
    ((λ is. absurd (nobody_waits key is), s.0), s.1)
one key w (pool.Loses number) rest d = ((λ is. absurd (nobody_waits key is), tt), d)

-- ---- All of them

pub orderly : {V : Type 0} (turns : Pool → Event → PoolTurn) (key : ℕ) (server : Server V) (w : World V) (ms : List (Moment V)) → Demands turns key server w ms → AllOrderly turns key server w ms
orderly turns key server w [] d = tt
orderly turns key server w (m ∷ ms) d =
    let s = one key w m.event (Demands turns key server (happens turns server w m) ms) d in
    (record { waits = s.0.0; said = s.0.1 }, orderly turns key server (happens turns server w m) ms s.1)
