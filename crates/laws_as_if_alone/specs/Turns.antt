-- An application that is parked while its session is as a reset would make it asks for none by that.
use Rattle.std.specs.Prelude.{◌≡◌, ℕ, Bool, true, List, [], ◌∷◌, ◌++◌, if◌then◌else◌}
use Rattle.tds_service.specs.Service.{Seat}
use Rattle.laws_conforming_server.specs.Lawful.{Session}
use Rattle.tds_relay.specs.declared.pool.Hold.{Hold}
use Rattle.tds_relay.specs.Pool as pool
use Rattle.tds_relay.specs.Pool.{Pool, Event, PoolTurn, Way}
use Rattle.laws_as_if_alone.specs.Alone.{IsAtRest, asks_at, count_behind, found_next, given, given_in, underway}
use Rattle.laws_as_if_alone.specs.Serving.{ServerAsk, Moment, Server, World, answers_alone, fresh, happens}

-- What it asks in a moment, where nothing is counted of its being parked.
abbrev pub asks_in : {V : Type 0} → (Moment V → Bool) → ℕ → Server V → World V → Moment V → ℕ → List (ServerAsk V)
asks_in parks key server w m count = if parks m then [] else asks_at key server w m count m.event

abbrev pub asks_but : {V : Type 0} → (Moment V → Bool) → (Pool → Event → PoolTurn) → ℕ → Server V → ℕ → World V → List (Moment V) → List (ServerAsk V)
asks_but parks turns key server count w [] = []
asks_but parks turns key server count w (m ∷ ms) =
    asks_in parks key server w m count
    ++ asks_but parks turns key server (count_behind count (asks_in parks key server w m count) (given_in key w.pool m.event)) (happens turns server w m) ms

-- It lets its connection go, asks nothing there, and its next request would find a new session.
pub record IsParkedFresh {V : Type 0} (key : ℕ) (server : Server V) (w : World V) (m : Moment V) : Type 0 where
  pub gives : Bool
  pub way : Way
  pub leaves : m.event ≡ pool.Leaves key gives way
  pub hold : Hold
  pub seat : Seat
  pub rests : IsAtRest key w.pool hold seat
  pub session : found_next server w hold seat ≡ fresh server

-- So it is in each moment in which it is parked.
abbrev pub AllParkedFresh : {V : Type 0} → (Moment V → Bool) → (Pool → Event → PoolTurn) → ℕ → Server V → World V → List (Moment V) → Type 0
AllParkedFresh parks turns key server w [] = Unit {0}
AllParkedFresh parks turns key server w (m ∷ ms) = (parks m ≡ true → IsParkedFresh key server w m) × AllParkedFresh parks turns key server (happens turns server w m) ms

-- What it was given, and what is underway to it, is what a server of its own answers to its requests and its own resets.
abbrev pub AsIfUnparked : {V : Type 0} → (Moment V → Bool) → (Pool → Event → PoolTurn) → ℕ → Server V → Session V → World V → List (Moment V) → World V → Type 0
AsIfUnparked parks turns key server s w ms behind =
    given turns key server w ms ++ underway key behind ≡ answers_alone server [] s (asks_but parks turns key server 0 w ms)
