-- No move changes the mode of a pool, and nothing but a packet which connection was the last that broke the rules.
use Rattle.std.proofs.Common.{◌≡◌, ◌∙◌, ℕ, Bool, true, false, List, [], ◌∷◌, refl, ap}
use Rattle.std.specs.Prelude.{Option, Some, None}
use Rattle.tds_wire.specs.declared.told.Token.{Token}
use Rattle.tds_service.specs.Parts.{Part}
use Rattle.tds_service.specs.Service as calls
use Rattle.tds_service.specs.Service.{Call, Service, lease_at, seat_numbered, step}
use Rattle.tds_relay.specs.declared.pool.Hold.{Hold}
use Rattle.tds_relay.specs.Pool as pool
use Rattle.tds_relay.specs.Pool.{Action, Pool, Event, Hearing, Loan, PoolTurn, Way, brings_by, last_broken, comes_by, pool_after, holder_does, find_key, hearing, keeps_by, leaves, lent_in, renews, renews_by, serves, serves_by, ticket_in, turn}
use Rattle.tds_relay.specs.Core.{Core, Move, dones_of_part, events_of, moved, moved_all}

abbrev Same : Pool → PoolTurn → Type 0
Same d t = (t.pool.mode ≡ d.mode) × (t.pool.broken ≡ d.broken)

served : (d : Pool) (key : ℕ) (others : List ℕ) (o : Option Loan) → Same d (serves_by d key others o)
served d key others None = (refl, refl)
served d key others (Some lent) = (refl, refl)

served_all : (d : Pool) (line : List ℕ) → Same d (serves d line)
served_all d [] = (refl, refl)
served_all d (key ∷ others) = served d key others (lent_in (step {T = Token} d.service calls.Lease).reply)

brought : (d : Pool) (s : Service) (gives : Bool) (way : Way) (o : Option Loan) → Same d (brings_by d s gives way o)
brought d s gives way None = (refl, refl)
brought d s gives way (Some lent) = (refl, refl)

done : (d : Pool) (action : Action) (o : Option Hold) → Same d (holder_does d action o)
done d action None = (refl, refl)
done d action (Some h) = (refl, refl)

left : (d : Pool) (key : ℕ) (gives : Bool) (way : Way) (o : Option Hold) → Same d (leaves d key gives way o)
left d key gives way None = (refl, refl)
left d key gives way (Some h) = (refl, refl)

renewed : (d : Pool) (h : Hold) (ticket : ℕ) (o : Option Loan) (resumes : Bool) → Same d (renews_by d h ticket o resumes)
renewed d h ticket o false = (refl, refl)
renewed d h ticket None true = (refl, refl)
renewed d h ticket (Some lent) true = (refl, refl)

kept : (d : Pool) (h : Hold) (resumes : Bool) (s : Service) (o : Option ℕ) → Same d (keeps_by d h resumes s o)
kept d h resumes s None = (refl, refl)
kept d h resumes s (Some ticket) = renewed d h ticket (lent_in (step {T = Token} s (calls.Resume ticket)).reply) resumes

renews_of : (d : Pool) (resumes : Bool) (o : Option Hold) → Same d (renews d resumes o)
renews_of d resumes None = (refl, refl)
renews_of d resumes (Some h) =
    let keeping = step {T = Token} d.service (calls.Keep h.lease) in
    kept d h resumes keeping.service (ticket_in keeping.reply)

heard_by : (d : Pool) (call : Call Token) (s : Service) (number : ℕ) (way : Way) (lease : Option ℕ) (h : Hearing) → Same d (comes_by d call s number way lease h)
heard_by d call s number way lease pool.Goes = (refl, refl)
heard_by d call s number way lease pool.Settled = (refl, refl)
heard_by d call s number way lease pool.Wrong = (refl, refl)

heard : (d : Pool) (number : ℕ) (part : Part Token) (way : Way)
    → Same d (comes_by d (calls.Came number part) (step {T = Token} d.service (calls.Came number part)).service number way (lease_at (seat_numbered number d.service.seats)) (hearing (dones_of_part d number part)))
heard d number part way =
    let come = step {T = Token} d.service (calls.Came number part) in
    heard_by d (calls.Came number part) come.service number way (lease_at (seat_numbered number d.service.seats)) (hearing come.dones)

-- no packet comes by it
abbrev pub IsNoPacket : Event → Type 0
IsNoPacket (pool.Comes number part way) = ⊥
IsNoPacket event = Unit {0}

quiet : (d : Pool) (event : Event) → IsNoPacket event → Same d (turn d event)
quiet d (pool.Waits key) q = (refl, refl)
quiet d (pool.Unwaits key) q = (refl, refl)
quiet d pool.Serves q = served_all d d.line
quiet d (pool.Brings gives way) q =
    let lent = step {T = Token} d.service calls.Lease in
    brought d lent.service gives way (lent_in lent.reply)
quiet d (pool.Does key action) q = done d action (find_key key d.holds)
quiet d (pool.Leaves key gives way) q = left d key gives way (find_key key d.holds)
quiet d (pool.Renews key resumes) q = renews_of d resumes (find_key key d.holds)
quiet d (pool.Comes number part way) q = absurd q
quiet d (pool.Loses number) q = (refl, refl)

pub broken_as : (d : Pool) (event : Event) → IsNoPacket event → (turn d event).pool.broken ≡ d.broken
broken_as d event q = (quiet d event q).1

pub broken_behind : (d : Pool) (number : ℕ) (part : Part Token) (way : Way) → (turn d (pool.Comes number part way)).pool.broken ≡ last_broken number (dones_of_part d number part) d.broken
broken_behind d number part way = ap (last_broken number (dones_of_part d number part)) (heard d number part way).1

turned : (d : Pool) (event : Event) → (turn d event).pool.mode ≡ d.mode
turned d (pool.Waits key) = refl
turned d (pool.Unwaits key) = refl
turned d pool.Serves = (quiet d pool.Serves tt).0
turned d (pool.Brings gives way) = (quiet d (pool.Brings gives way) tt).0
turned d (pool.Does key action) = (quiet d (pool.Does key action) tt).0
turned d (pool.Leaves key gives way) = (quiet d (pool.Leaves key gives way) tt).0
turned d (pool.Renews key resumes) = (quiet d (pool.Renews key resumes) tt).0
turned d (pool.Comes number part way) = (heard d number part way).0
turned d (pool.Loses number) = refl

after : (d : Pool) (events : List Event) → (pool_after d events).mode ≡ d.mode
after d [] = refl
after d (event ∷ events) = after (turn d event).pool events ∙ turned d event

pub mode_along : (h : Core) (moves : List Move) → (moved_all h moves).pool.mode ≡ h.pool.mode
mode_along h [] = refl
mode_along h (move ∷ moves) = mode_along (moved h move) moves ∙ after h.pool (events_of h move)
