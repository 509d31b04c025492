-- A pool's service is what the calls leave that its events make.
use Rattle.std.proofs.Common.{◌≡◌, ◌∙◌, ◌++◌, ℕ, Bool, true, false, List, [], ◌∷◌, refl, sym, ap}
use Rattle.std.specs.Prelude.{Option, Some, None}
use Rattle.tds_wire.specs.declared.told.Token.{Token}
use Rattle.tds_service.specs.Service as calls
use Rattle.tds_service.specs.Service.{Service, Call, lease_at, seat_numbered, service_after, step}
use Rattle.tds_relay.specs.declared.pool.Hold.{Hold}
use Rattle.tds_relay.specs.Pool as pool
use Rattle.tds_relay.specs.Pool.{Pool, Event, Hearing, Loan, PoolTurn, Way, brings_by, comes_by, pool_after, holder_does, find_key, hearing, keeps_by, leaves, lent_in, renews, renews_by, serves, serves_by, ticket_in, turn}
use Rattle.tds_relay.specs.Fronting.{calls_along}

abbrev Follows : Pool → PoolTurn → Type 0
Follows d t = t.pool.service ≡ service_after d.service t.calls

serves_lent : (d : Pool) (key : ℕ) (others : List ℕ) (lent : Option Loan) → Follows d (serves_by d key others lent)
serves_lent d key others None = refl
serves_lent d key others (Some lent) = refl

serves_follow : (d : Pool) (line : List ℕ) → Follows d (serves d line)
serves_follow d [] = refl
serves_follow d (key ∷ others) = serves_lent d key others (lent_in (step {T = Token} d.service calls.Lease).reply)

brings_follow : (d : Pool) (s : Service) (gives : Bool) (way : Way) (lent : Option Loan) → Follows d (brings_by d s gives way lent)
brings_follow d s gives way None = refl
brings_follow d s gives way (Some lent) = refl

does_follow : (d : Pool) (action : pool.Action) (o : Option Hold) → Follows d (holder_does d action o)
does_follow d action None = refl
does_follow d action (Some h) = refl

leaves_follow : (d : Pool) (key : ℕ) (gives : Bool) (way : Way) (o : Option Hold) → Follows d (leaves d key gives way o)
leaves_follow d key gives way None = refl
leaves_follow d key gives way (Some h) = refl

renewed_follow : (d : Pool) (h : Hold) (ticket : ℕ) (lent : Option Loan) (resumes : Bool) → Follows d (renews_by d h ticket lent resumes)
renewed_follow d h ticket lent false = refl
renewed_follow d h ticket None true = refl
renewed_follow d h ticket (Some lent) true = refl

keeps_follow : (d : Pool) (h : Hold) (resumes : Bool) (s : Service) (ticket : Option ℕ) → Follows d (keeps_by d h resumes s ticket)
keeps_follow d h resumes s None = refl
keeps_follow d h resumes s (Some ticket) = renewed_follow d h ticket (lent_in (step {T = Token} s (calls.Resume ticket)).reply) resumes

renews_follow : (d : Pool) (resumes : Bool) (o : Option Hold) → Follows d (renews d resumes o)
renews_follow d resumes None = refl
renews_follow d resumes (Some h) =
    let kept = step {T = Token} d.service (calls.Keep h.lease) in
    keeps_follow d h resumes kept.service (ticket_in kept.reply)

comes_follow : (d : Pool) (call : Call Token) (s : Service) (number : ℕ) (way : Way) (lease : Option ℕ) (h : Hearing) → Follows d (comes_by d call s number way lease h)
comes_follow d call s number way lease pool.Goes = refl
comes_follow d call s number way lease pool.Settled = refl
comes_follow d call s number way lease pool.Wrong = refl

follows : (d : Pool) (event : Event) → Follows d (turn d event)
follows d (pool.Waits key) = refl
follows d (pool.Unwaits key) = refl
follows d pool.Serves = serves_follow d d.line
follows d (pool.Brings gives way) =
    let lent = step {T = Token} d.service calls.Lease in
    brings_follow d lent.service gives way (lent_in lent.reply)
follows d (pool.Does key action) = does_follow d action (find_key key d.holds)
follows d (pool.Leaves key gives way) = leaves_follow d key gives way (find_key key d.holds)
follows d (pool.Renews key resumes) = renews_follow d resumes (find_key key d.holds)
follows d (pool.Comes number part way) =
    let heard = step {T = Token} d.service (calls.Came number part) in
    comes_follow d (calls.Came number part) heard.service number way (lease_at (seat_numbered number d.service.seats)) (hearing heard.dones)
follows d (pool.Loses number) = refl

after_calls : (s : Service) (xs ys : List (Call Token)) → service_after s (xs ++ ys) ≡ service_after (service_after s xs) ys
after_calls s [] ys = refl
after_calls s (x ∷ xs) ys = after_calls (step s x).service xs ys

pub service_along : (d : Pool) (events : List Event) → (pool_after d events).service ≡ service_after d.service (calls_along d events)
service_along d [] = refl
service_along d (event ∷ events) =
    service_along (turn d event).pool events
    ∙ ap (λ (s : Service). service_after s (calls_along (turn d event).pool events)) (follows d event)
    ∙ sym (after_calls d.service (turn d event).calls (calls_along (turn d event).pool events))
