-- The moments of a visit to a relay.
use Rattle.std.specs.Prelude.{◌≡◌, ℕ, true, List, [], ◌∷◌, map}
use Rattle.tds_relay.specs.Law.{done_before, done_since}
use Rattle.tds_relay.specs.Pool as pool
use Rattle.tds_relay.specs.Pool.{Pool, Event, Sharing, PoolTurn}
use Rattle.tds_relay.specs.Giving.{Visit}
use Rattle.laws_as_if_alone.specs.Alone.{IsSaid}
use Rattle.laws_as_if_alone.specs.Serving.{Moment, Server, World, happens, reached}

abbrev pub events_in : {V : Type 0} → List (Moment V) → List Event
events_in {V} ms = map (λ (m : Moment V). m.event) ms

-- Those before an application came, and those since: in them there happens at the pool what the visit's steps do there.
pub record Moments (V : Type 0) {sharing : Sharing} {key : ℕ} (v : Visit sharing key) : Type 0 where
  pub before : List (Moment V)
  pub since : List (Moment V)
  pub before_is : events_in before ≡ done_before v
  pub since_is : events_in since ≡ done_since v

-- Memory is given to a renewal: so the reset by which an open transaction is kept isn't a full one.
abbrev pub HasMemory : Event → Type 0
HasMemory (pool.Renews key resumes) = resumes ≡ true
HasMemory _ = Unit {0}

-- where it has come
abbrev pub world_in : {V : Type 0} {sharing : Sharing} {key : ℕ} {v : Visit sharing key} → Server V → Moments V v → World V
world_in {V} {sharing} server ms = reached server sharing ms.before

-- What comes of an answer that it reads is what the server there says next, or a fault.
abbrev pub AllSaid : {V : Type 0} → (Pool → Event → PoolTurn) → ℕ → Server V → World V → List (Moment V) → Type 0
AllSaid turns key server w [] = Unit {0}
AllSaid turns key server w (m ∷ ms) = IsSaid key w m.event × AllSaid turns key server (happens turns server w m) ms
