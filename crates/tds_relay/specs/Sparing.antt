-- What one application does leaves the requests of all others as they are.
use Rattle.std.specs.Prelude.{◌≡◌, ◌≢◌, ◌<◌, ◌≤◌, ◌⊎◌, true, false, ◌++◌, ℕ, Bool, List, [], ◌∷◌, IsSome, Option, Some, None, option_map}
use Rattle.tds_client.specs.declared.message.MessageKind.{MessageKind}
use Rattle.tds_client.specs.Session.{ClientSession}
use Rattle.tds_client.specs.Streams.{opened}
use Rattle.tds_service.specs.declared.service.Service as services
use Rattle.tds_wire.specs.declared.told.Token.{Token}
use Rattle.tds_service.specs.Service as calls
use Rattle.tds_service.specs.Service.{Seat, Service, has_lease, step}
use Rattle.tds_service.specs.Table.{client_of, service_in}
use Rattle.tds_relay.specs.declared.pool.Pool as pools
use Rattle.tds_relay.specs.declared.pool.Hold.{Hold}
use Rattle.tds_relay.specs.declared.pool.leaving.Renewed.{Renewed}
use Rattle.tds_relay.specs.declared.pool.leaving.Renewed.TheVariants as renewals
use Rattle.tds_relay.specs.declared.relay.Relay as code
use Rattle.tds_relay.specs.Asking.{IsTakenBack}
use Rattle.tds_relay.specs.Bodies.{ArePut, Astray, Body, Closed, Going, Kept, Nowhere, Spared, Starts, body_of}
use Rattle.tds_relay.specs.Pool.{Pool, find_key, find_lease, ticket_in, without_lease}
use Rattle.tds_relay.specs.Fronts.{ends_in}
use Rattle.tds_relay.specs.Core.{end_at, holder, is_in}
use Rattle.tds_relay.specs.Promises.{Each}
use Rattle.tds_relay.specs.Reads.{open_at, reader_at, waits_on}
use Rattle.tds_relay.specs.Ties.{IsReached, pool_in}
use Rattle.tds_relay.specs.TokenParsers.{IsLed}

-- ---- At a pool

-- the connection that is held, by its number, and its client
abbrev pub HeldConnection : Type 0
HeldConnection = ℕ × ClientSession

abbrev pub held_with_client : services.Service → Option Hold → Option HeldConnection
held_with_client s None = None
held_with_client s (Some hold) = option_map (λ (client : ClientSession). let held : HeldConnection = (hold.number, client) in held) (client_of hold.lease s)

-- what this application holds
abbrev pub held_at : ℕ → pools.Pool → Option HeldConnection
held_at key d = held_with_client d.service (find_key key d.holds.items)

-- It holds what it held; where that was nothing, nothing is said.
abbrev pub HoldsOn : ℕ → pools.Pool → pools.Pool → Type 0
HoldsOn key old new = (held_at key new ≡ held_at key old) ⊎ (held_at key old ≡ None)

-- All others than this one do, at a pool that was reached by events.
pub record OthersHold (key : ℕ) (old new : pools.Pool) : Type 0 where
  pub hold : IsReached (pool_in old) → (other : ℕ) → other ≢ key → HoldsOn other old new

-- each does
pub record AllHold (old new : pools.Pool) : Type 0 where
  pub hold : IsReached (pool_in old) → (key : ℕ) → HoldsOn key old new

-- It doesn't hold the connection of this number.
abbrev pub IsOff : ℕ → ℕ → pools.Pool → Type 0
IsOff number key d = (client : ClientSession) → held_at key d ≢ Some (number, client)

-- All who don't hold it hold what they held.
pub record OffHold (number : ℕ) (old new : pools.Pool) : Type 0 where
  pub hold : IsReached (pool_in old) → (key : ℕ) → IsOff number key old → HoldsOn key old new

-- No connection of this lease has this number.
pub record IsAside (lease number : ℕ) (s : Service) : Type 0 where
  pub led : IsLed s
  pub given : lease ≤ s.given
  pub apart : Each (λ (c : Seat). has_lease lease c ≡ true → c.number ≢ number) s.seats

-- The client of each other lease than this one stays, of which no connection has this number.
abbrev pub AsideStay : ℕ → ℕ → services.Service → services.Service → Type 0
AsideStay but number old new =
    (lease : ℕ) (client : ClientSession) → lease ≢ but → IsAside lease number (service_in old) → client_of lease old ≡ Some client
    → client_of lease new ≡ Some client

-- Of each lease by which one is held the client stays, where no connection of this number has it.
abbrev pub AsideHeld : ℕ → List Hold → services.Service → services.Service → Type 0
AsideHeld number holds old new =
    (h : Hold) (client : ClientSession) → find_lease h.lease holds ≡ Some h → IsAside h.lease number (service_in old) → client_of h.lease old ≡ Some client
    → client_of h.lease new ≡ Some client

-- An application keeps its connection by another lease, the last one that is held; or nothing has changed.
abbrev pub IsRenewed : Renewed → ℕ → pools.Pool → pools.Pool → Type 0
IsRenewed (renewals.Kept hold) key old new =
    (was : Hold) × (find_key key old.holds.items ≡ Some was) × (hold.key ≡ key) × (new.holds.items ≡ without_lease was.lease old.holds.items ++ hold ∷ [])
IsRenewed renewals.NotKept key old new = pool_in new ≡ pool_in old

-- The service keeps the connection that this application holds.
abbrev pub MayKeep : Pool → ℕ → Type 0
MayKeep d key = (hold : Hold) × (find_key key d.holds ≡ Some hold) × IsSome (ticket_in (step {T = Token} d.service (calls.Keep hold.lease)).reply)

-- Where that is kept, it does.
abbrev pub IsKeptBy : Renewed → ℕ → Pool → Type 0
IsKeptBy (renewals.Kept hold) key d = MayKeep d key
IsKeptBy renewals.NotKept key d = Unit {0}

-- Where it is kept, it is by a lease that was given behind so many.
abbrev pub IsLentLater : ℕ → Renewed → Type 0
IsLentLater given (renewals.Kept hold) = given < hold.lease
IsLentLater given renewals.NotKept = Unit {0}

-- ---- At a relay

-- It stays, or its application is to be closed; of one that is astray nothing is said.
abbrev pub Rests : Body → Body → Type 0
Rests old new = Spared old new ⊎ (old ≡ Astray)

-- It holds what it held, by the same client, or is to be closed; where that was nothing, nothing is said.
abbrev pub HoldsStill : ℕ → code.Relay → code.Relay → Type 0
HoldsStill key old new = HoldsOn key old.pool new.pool ⊎ (body_of key new ≡ Closed)

-- Each request rests so, and each application holds what it held,
pub record AllRest (old new : code.Relay) : Type 0 where
  pub rest : (key : ℕ) → Rests (body_of key old) (body_of key new)
  pub holds : (key : ℕ) → HoldsStill key old new

-- or each but that of one application,
pub record OthersRest (key : ℕ) (old new : code.Relay) : Type 0 where
  pub rest : (other : ℕ) → other ≢ key → Rests (body_of other old) (body_of other new)
  pub holds : (other : ℕ) → other ≢ key → HoldsStill other old new

-- or each of one that waits for no connection.
pub record AwayRest (old new : code.Relay) : Type 0 where
  pub rest : (key : ℕ) → is_in key (pool_in old.pool).line ≡ false → Rests (body_of key old) (body_of key new)
  pub holds : (key : ℕ) → is_in key (pool_in old.pool).line ≡ false → HoldsStill key old new

-- Who waits for no connection, but these, holds what he held, by the same client, or is to be closed.
pub record ClientsStay (But : ℕ → Type 0) (old new : code.Relay) : Type 0 where
  pub stay : (key : ℕ) → ¬ But key → is_in key (pool_in old.pool).line ≡ false → HoldsStill key old new

-- Something was put on the connection of this number, and the pool is as it was; or all stay.
abbrev pub SendsOn : ℕ → code.Relay → code.Relay → Type 0
SendsOn number old new =
    ((new.pool ≡ old.pool) × ((other : ℕ) → other ≢ number → waits_on other new.links.items ≡ waits_on other old.links.items)) ⊎ AllRest old new

-- Each stays or starts, where the pool was reached by events.
pub record AllGo (old new : code.Relay) : Type 0 where
  pub go : IsReached (pool_in old.pool) → (key : ℕ) → Starts (body_of key old) (body_of key new)

-- or each but that of one application
pub record OthersGo (key : ℕ) (old new : code.Relay) : Type 0 where
  pub go : IsReached (pool_in old.pool) → (other : ℕ) → other ≢ key → Starts (body_of other old) (body_of other new)

-- or each but this one, if there is one, that doesn't hold the connection of this number; and unless its application waits, that holds what it held
pub record OffGo (number : ℕ) (who : Option ℕ) (old new : code.Relay) : Type 0 where
  pub go : IsReached (pool_in old.pool) → (key : ℕ) → who ≢ Some key → holder (pool_in old.pool) number ≢ Some key → Starts (body_of key old) (body_of key new)
  pub holds : IsReached (pool_in old.pool) → (key : ℕ) → who ≢ Some key → holder (pool_in old.pool) number ≢ Some key → is_in key (pool_in old.pool).line ≡ false → HoldsStill key old new

-- ---- A request that has waited

abbrev pub IsKept : Body → Type 0
IsKept (Kept kind bytes whole) = Unit {0}
IsKept _ = ⊥

abbrev pub IsUnkept : Body → Type 0
IsUnkept (Kept kind bytes whole) = ⊥
IsUnkept _ = Unit {0}

-- It goes on, or its application is to be closed.
abbrev pub HasGone : Body → Type 0
HasGone Closed = Unit {0}
HasGone Nowhere = ⊥
HasGone (Kept kind bytes whole) = ⊥
HasGone Astray = ⊥
HasGone (Going number client waits) = Unit {0}

-- It waits: what its application took back isn't acknowledged yet, or the connection that this holds isn't open.
pub data IsHeldBack (key : ℕ) (r : code.Relay) : Type 0 where
  Drains : IsTakenBack (end_at (ends_in r.applications) key) → IsHeldBack key r
  Opens : (hold : Hold) → find_key key r.pool.holds.items ≡ Some hold → open_at hold.number r.links.items ≡ None → IsHeldBack key r

-- As it starts, but what is put of it waits behind this, once, and nothing else does.
pub data StartsBehind (waited : Option (List ℕ)) : Body → Body → Type 0 where
  Stays : {b : Body} → StartsBehind waited b b
  Closes : {b : Body} → StartsBehind waited b Closed
  Goes : {kind : MessageKind} {bytes : List ℕ} {whole : Bool} {number : ℕ} {to : ClientSession} (was out : List ℕ) (from : ClientSession)
      → waited ≡ Some was → ArePut whole bytes (opened from kind) to out → StartsBehind waited (Kept kind bytes whole) (Going number to (was ++ out))

-- behind what waited on the connection that its application holds
abbrev pub StartsThere : ℕ → code.Relay → code.Relay → Type 0
StartsThere key old new =
    (hold : Hold) → find_key key old.pool.holds.items ≡ Some hold → StartsBehind (waits_on hold.number old.links.items) (body_of key old) (body_of key new)

-- One that was kept for the connection of this number goes on there now, behind what waited there; but where what its application took back
-- isn't acknowledged yet, and where there is no such connection.
pub record StartsOn (number : ℕ) (old new : code.Relay) : Type 0 where
  pub start : (key : ℕ) (client : ClientSession) → held_at key old.pool ≡ Some (number, client) → IsKept (body_of key old)
      → (HasGone (body_of key new) × StartsBehind (waits_on number old.links.items) (body_of key old) (body_of key new)) ⊎ (IsTakenBack (end_at (ends_in old.applications) key) ⊎ (reader_at number old.links.items ≡ None))

-- ---- Over calls

-- It was put as it was kept, all of it, by a client that began a request of its kind.
pub record IsPut (kind : MessageKind) (bytes : List ℕ) (whole : Bool) (new : Body) : Type 0 where
  pub number : ℕ
  pub from : ClientSession
  pub to : ClientSession
  pub waits : List ℕ
  pub out : List ℕ
  pub is : new ≡ Going number to (waits ++ out)
  pub put : ArePut whole bytes (opened from kind) to out

-- It is where it was, or its application is to be closed; or what was kept was put. Of one that is astray nothing is said.
abbrev pub IsLeft : Body → Body → Type 0
IsLeft Closed new = new ≡ Closed
IsLeft Nowhere new = (new ≡ Nowhere) ⊎ (new ≡ Closed)
IsLeft (Kept kind bytes whole) new = (new ≡ Kept kind bytes whole) ⊎ ((new ≡ Closed) ⊎ IsPut kind bytes whole new)
IsLeft Astray new = Unit {0}
IsLeft (Going number client waits) new = (new ≡ Going number client waits) ⊎ (new ≡ Closed)

-- Calls of which each lets all requests stay or start led from one relay to the next.
abbrev pub AreCalls : code.Relay → List code.Relay → Type 0
AreCalls r [] = Unit {0}
AreCalls r (next ∷ more) = IsReached (pool_in r.pool) × AllGo r next × AreCalls next more

-- the last one
abbrev pub behind_all : code.Relay → List code.Relay → code.Relay
behind_all r [] = r
behind_all r (next ∷ more) = behind_all next more
