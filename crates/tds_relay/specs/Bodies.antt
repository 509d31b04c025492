-- Where the body of an application's request is: kept while that waits, or put by the client of the
-- connection that its application holds.
use Rattle.std.specs.Prelude.{◌≡◌, ◌⊎◌, ◌-◌, ℕ, Bool, true, false, List, [], ◌∷◌, ◌++◌, drop, length, take, Option, Some, None, Ok, option_map, if◌then◌else◌}
use Rattle.slab.specs.Slab.{Slab, get}
use Rattle.tds_packet.specs.declared.kind.Kind.{Kind}
use Rattle.tds_client.specs.declared.message.MessageKind.{MessageKind}
use Rattle.tds_client.specs.Session.{ClientSession}
use Rattle.tds_client.specs.Streamed.{Streams}
use Rattle.tds_client.specs.Streams.{opened, packets_are, put}
use Rattle.tds_front.specs.declared.front.Said.{Said}
use Rattle.tds_front.specs.declared.front.Said.TheVariants as said
use Rattle.tds_front.specs.Bytes.{fed}
use Rattle.tds_service.specs.declared.service.Service as services
use Rattle.tds_service.specs.Table.{TurnsInto, client_of}
use Rattle.tds_service.specs.Ties.{cancel_out}
use Rattle.tds_relay.specs.declared.application.Application.{Application}
use Rattle.tds_relay.specs.declared.state.Asking.{Asking}
use Rattle.tds_relay.specs.declared.state.Asking.TheVariants as asking
use Rattle.tds_relay.specs.declared.pool.Pool as pools
use Rattle.tds_relay.specs.declared.pool.Hold.{Hold}
use Rattle.tds_relay.specs.declared.link.Link.{Link}
use Rattle.tds_relay.specs.declared.relay.Relay as code
use Rattle.tds_relay.specs.Asking.{said_of}
use Rattle.tds_relay.specs.Pool.{find_key}
use Rattle.tds_relay.specs.Fronts.{ends_in}
use Rattle.tds_relay.specs.Core.{End, Open, Over, end_at}
use Rattle.tds_relay.specs.Machine.{Machine, Step, Takes, after}
use Rattle.tds_relay.specs.Reads.{StaysAt, waits_on}
use Rattle.tds_relay.specs.Taking.{IsDeaf, Tells, count_by}
use Rattle.tds_relay.specs.Places.{is_closed, own_asking, own_held}

pub data Body : Type 0 where
  -- its application is to be closed, or isn't there
  Closed : Body
  -- there is none: nothing is asked
  Nowhere : Body
  -- its request waits, with these bytes of it; all has come or not
  Kept : (kind : MessageKind) (bytes : List ℕ) (whole : Bool) → Body
  -- it is said to go on, and there is no connection on which it does: no call leads to that
  Astray : Body
  -- it goes on, by this client, on the connection of this number, on which these bytes wait to be
  -- sent
  Going : (number : ℕ) (client : ClientSession) (waits : List ℕ) → Body

-- ---- In a relay

abbrev pub going_by : ℕ → Option ClientSession → Option (List ℕ) → Body
going_by number None waits = Astray
going_by number (Some client) None = Astray
going_by number (Some client) (Some bytes) = Going number client bytes

abbrev pub going : services.Service → List Link → Option Hold → Body
going s links None = Astray
going s links (Some hold) =
    going_by hold.number (client_of hold.lease s) (waits_on hold.number links)

abbrev pub body_by : Asking → List ℕ → Body → Body
body_by asking.Nothing held goes = Nowhere
body_by (asking.Waits kind whole) held goes = Kept kind held whole
body_by asking.Goes held goes = goes

-- by what an application asks: where that goes on, it is this
abbrev pub body_in : Option Application → Body → Body
body_in None goes = Closed
body_in (Some a) goes = if is_closed a then Closed else body_by (own_asking a) (own_held a) goes

-- what goes on where it holds a connection
abbrev pub going_of : ℕ → code.Relay → Body
going_of key r = going r.pool.service r.links.items (find_key key r.pool.holds.items)

-- that of the request of the application by this key
abbrev pub body_of : ℕ → code.Relay → Body
body_of key r = body_in (get r.applications key) (going_of key r)

-- It stays, or its application is to be closed.
abbrev pub Spared : Body → Body → Type 0
Spared old new = (new ≡ old) ⊎ (new ≡ Closed)

-- Each application asks what it asked.
abbrev pub AskAsBefore : Slab Application → Slab Application → Type 0
AskAsBefore old new =
    (key : ℕ) (goes : Body) → body_in (get new key) goes ≡ body_in (get old key) goes

-- Or it is to be closed.
abbrev pub AskOn : Slab Application → Slab Application → Type 0
AskOn old new =
    (key : ℕ) (goes : Body) → Spared (body_in (get old key) goes) (body_in (get new key) goes)

-- Nothing of it goes on.
abbrev pub IsUnsent : Body → Type 0
IsUnsent Closed = Unit {0}
IsUnsent Nowhere = Unit {0}
IsUnsent (Kept kind bytes whole) = Unit {0}
IsUnsent Astray = ⊥
IsUnsent (Going number client waits) = ⊥

-- ---- What becomes of one

-- These bytes are put by a client, and with them its message is finished or not: the client behind
-- that, and what goes out.
abbrev pub ArePut : Bool → List ℕ → ClientSession → ClientSession → List ℕ → Type 0
ArePut false more from to out =
    put from more ≡ Ok (record { answer = tt; session = to; bytes = out })
ArePut true more from to out = Streams from (more ∷ []) out to

-- It stays, or its application is to be closed; of one that is astray nothing is said. Or one that
-- has waited is put as it was kept, all of it, by a client that begins a request of its kind; what
-- goes out by that waits last on its connection, behind some bytes (which those are,
-- `StartsInPlace` says).
pub data Starts : Body → Body → Type 0 where
  Stays : {b : Body} → Starts b b
  Closes : {b : Body} → Starts b Closed
  Strays : {b : Body} → Starts Astray b
  Goes : {kind : MessageKind} {bytes : List ℕ} {whole : Bool} {number : ℕ} {to : ClientSession}
      (waits out : List ℕ)
      (from : ClientSession) → ArePut whole bytes (opened from kind) to out
      → Starts (Kept kind bytes whole) (Going number to (waits ++ out))

-- These bytes of it have come, with which it is whole or not: they are kept behind the others, or
-- put. Or its application is to be closed.
pub data Grows (whole : Bool) (more : List ℕ) : Body → Body → Type 0 where
  Keeps : {kind : MessageKind} {bytes : List ℕ} {was : Bool}
      → Grows whole more (Kept kind bytes was) (Kept kind (bytes ++ more) whole)
  Sends : {number : ℕ} {to : ClientSession} (waits out : List ℕ)
      (from : ClientSession) → ArePut whole more from to out
      → Grows whole more (Going number from waits) (Going number to (waits ++ out))
  Drifts : {b : Body} → Grows whole more Astray b
  Shuts : {b : Body} → Grows whole more b Closed

-- It goes on, and is cancelled by its client: what goes out by that, an attention, and before it
-- the end of a request that was out in part, waits once behind what waited on its connection. What
-- hasn't begun to go on stays. Or its application is to be closed.
pub data Halts : Body → Body → Type 0 where
  ByClient : {number : ℕ} {to : ClientSession} (waits : List ℕ) (from : ClientSession)
      → Halts (Going number from waits) (Going number to (waits ++ cancel_out from.stage))
  Before : {b : Body} → IsUnsent b → Halts b b
  OfAstray : {b : Body} → Halts Astray b
  ByClosing : {b : Body} → Halts b Closed

-- A request of packets of this type begins, with nothing of its body; or its application is to be
-- closed.
pub data BeginsBody (kind : Kind) : Body → Type 0 where
  Asks : (message : MessageKind) → packets_are message ≡ kind
      → BeginsBody kind (Kept message [] false)
  Refuses : BeginsBody kind Closed

-- ---- Piece by piece

-- the last of these bytes
abbrev pub last_of : ℕ → List ℕ → List ℕ
last_of count bytes = drop (length bytes - count) bytes

-- What becomes of a body by bytes that are taken of its application, of which this is said.
abbrev pub Becomes : Said → List ℕ → Body → Body → Type 0
Becomes said.Nothing taken old new = new ≡ old
Becomes (said.Begin kind reset) taken old new = BeginsBody kind new
Becomes (said.Body count) taken old new = Grows false (last_of count taken) old new
Becomes (said.End count) taken old new = Grows true (last_of count taken) old new
Becomes (said.Forget gone) taken old new = new ≡ Nowhere
Becomes said.Acknowledge taken old new = new ≡ Nowhere
Becomes said.HandOn taken old new = Halts old new

-- the bytes that an end takes of these at once
abbrev pub taken_of : List ℕ → Option End → List ℕ
taken_of bytes None = []
taken_of bytes (Some (Open front withdrawn asks)) =
    take (count_by (fed front bytes).brings bytes) bytes
taken_of bytes (Some (Over why)) = []

-- It is Closed only where nothing more is taken of its application.
abbrev pub IsClosedAsEnd : Option End → Body → Type 0
IsClosedAsEnd end Closed = IsDeaf end
IsClosedAsEnd end _ = Unit {0}

-- Piece by piece of what steps take of an application, from the one body to the other; before each
-- and behind the last it may start. Before each it is Closed only as its application's end is.
abbrev pub AreFollowed : ℕ → Machine → List Step → Body → Body → Type 0
AreFollowed key h [] old new = Starts old new
AreFollowed key h (Takes other bytes ∷ steps) old new =
    (from : Body) × (to : Body) × Starts old from × IsClosedAsEnd (end_at h.core.ends key) from
    × Becomes (said_of bytes (end_at h.core.ends key)) (taken_of bytes (end_at h.core.ends key))
    from to
    × AreFollowed key (after h (Takes other bytes)) steps to new
AreFollowed key h (step ∷ steps) old new = AreFollowed key (after h step) steps old new

-- An application's bytes are taken, up to these, and its request's body follows them, and is Closed
-- behind them only as its application's end is.
pub record Carries (key : ℕ) (old : Machine) (bytes left : List ℕ) (from to : Body) (new : Machine)
    : Type 0 where
  pub tells : Tells key old bytes left new
  pub followed : AreFollowed key old tells.steps from to
  pub closed : IsClosedAsEnd (end_at new.core.ends key) to

-- Whatever was taken before, these bytes are taken behind it, up to these.
abbrev pub CarriesOn : ℕ → List ℕ → List ℕ → Body → Body → Machine → Machine → Type 0
CarriesOn key left rest from to old new = (first : Machine) (bytes : List ℕ) (at : Body)
    → Carries key first bytes left at from old → Carries key first bytes rest at to new

-- What becomes of it by them, and then it may start
pub record Obeys (answer : Said) (taken : List ℕ) (old new : Body) : Type 0 where
  pub mid : Body
  pub does : Becomes answer taken old mid
  pub starts : Starts mid new

-- ---- What goes out for what is taken back

-- where the body of an application's request is, and what waits on each connection
abbrev pub BodyAndWaits : Type 0
BodyAndWaits = Body × (ℕ → Option (List ℕ))

abbrev pub standing_in : ℕ → code.Relay → BodyAndWaits
standing_in key r = (body_of key r, λ (number : ℕ). waits_on number r.links.items)

-- Nothing of it goes on, and its application isn't to be closed: there is none, or it is kept.
abbrev pub IsStill : Body → Type 0
IsStill Nowhere = Unit {0}
IsStill (Kept kind bytes whole) = Unit {0}
IsStill _ = ⊥

-- As it starts, but what is put of it waits behind what waited on its connection, once, and nothing
-- else does.
pub data StartsInPlace (waits : ℕ → Option (List ℕ)) : Body → Body → Type 0 where
  Remains : {b : Body} → StartsInPlace waits b b
  Closing : {b : Body} → StartsInPlace waits b Closed
  Wanders : {b : Body} → StartsInPlace waits Astray b
  Follows : {kind : MessageKind} {bytes : List ℕ} {whole : Bool} {number : ℕ} {to : ClientSession}
      (was out : List ℕ) (from : ClientSession)
      → waits number ≡ Some was → ArePut whole bytes (opened from kind) to out
      → StartsInPlace waits (Kept kind bytes whole) (Going number to (was ++ out))

-- It starts so; where nothing of it goes on, nothing is put.
pub record PutsFrom (waits : ℕ → Option (List ℕ)) (mid : Body) (new : BodyAndWaits) : Type 0 where
  pub starts : StartsInPlace waits mid new.0
  pub still : IsStill mid → IsStill new.0 → (number : ℕ) → StaysAt (waits number) (new.1 number)

abbrev pub GoesFrom : BodyAndWaits → BodyAndWaits → Type 0
GoesFrom old new = PutsFrom old.1 old.0 new

-- where these bytes of it have come
abbrev pub GrowsFrom : Bool → List ℕ → BodyAndWaits → BodyAndWaits → Type 0
GrowsFrom whole more old new = (mid : Body) × Grows whole more old.0 mid × PutsFrom old.1 mid new

-- where it is taken back, and nothing of it goes on: nothing is put
abbrev pub PutsNothing : BodyAndWaits → BodyAndWaits → Type 0
PutsNothing old new = IsStill old.0 → (number : ℕ) → StaysAt (old.1 number) (new.1 number)

-- Where it went on, what cancels it by its client waits behind what waited on its connection, once,
-- and nothing else; or its application is to be closed, and stays so.
abbrev pub IsStoppedOnce : Body → BodyAndWaits → Type 0
IsStoppedOnce Closed new = new.0 ≡ Closed
IsStoppedOnce (Going number client waits) new =
    (new.1 number ≡ Some (waits ++ cancel_out client.stage)) ⊎ (new.0 ≡ Closed)
IsStoppedOnce _ new = Unit {0}

-- So it is where it is taken back by what is said.
abbrev pub CancelsSaid : Said → Body → BodyAndWaits → Type 0
CancelsSaid (said.Forget gone) old new = IsStoppedOnce old new
CancelsSaid said.Acknowledge old new = IsStoppedOnce old new
CancelsSaid _ old new = Unit {0}

-- ---- As the code has it

-- what is kept of an application's request
abbrev pub held_of : Option Application → List ℕ
held_of None = []
held_of (Some a) = own_held a

-- The client of the connection that an application holds puts these bytes, with which its message
-- is finished or not.
pub record ClientPuts (whole : Bool) (more : List ℕ) (key : ℕ) (old new : pools.Pool)
    (before after : List ℕ) : Type 0 where
  pub hold : Hold
  pub its : find_key key old.holds.items ≡ Some hold
  pub same : new.holds.items ≡ old.holds.items
  pub from : ClientSession
  pub to : ClientSession
  pub moves : TurnsInto hold.lease old.service new.service from to
  pub out : List ℕ
  pub put_is : ArePut whole more from to out
  pub appended : after ≡ before ++ out

-- The client of the connection that an application holds cancels.
pub record ClientStops (key : ℕ) (old new : pools.Pool) (before after : List ℕ) : Type 0 where
  pub hold : Hold
  pub its : find_key key old.holds.items ≡ Some hold
  pub same : new.holds.items ≡ old.holds.items
  pub from : ClientSession
  pub to : ClientSession
  pub moves : TurnsInto hold.lease old.service new.service from to
  pub appended : after ≡ before ++ cancel_out from.stage

-- Something was put on the connection of this number, behind what waited there, and the pool and
-- what is asked are as they were; or the application is to be closed.
abbrev pub StopsOn : ℕ → ℕ → code.Relay → code.Relay → Type 0
StopsOn number key old new =
    IsDeaf (end_at (ends_in new.applications) key)
    ⊎ ((new.pool ≡ old.pool) × AskAsBefore old.applications new.applications
    × (waits_on number new.links.items
    ≡ option_map (λ (waits : List ℕ). waits ++ old.outbox.items) (waits_on number old.links.items)))

-- What an application's cancel puts out is to be sent on the connection of this number, which it
-- holds.
pub record IsHalting (number key : ℕ) (old new : code.Relay) : Type 0 where
  pub hold : Hold
  pub its : find_key key old.pool.holds.items ≡ Some hold
  pub number_is : number ≡ hold.number
  pub stops : ClientStops key old.pool new.pool [] new.outbox.items

-- They are put where an application's request goes on, asked or not; or that is to be closed.
abbrev pub PutsOn : Bool → List ℕ → ℕ → code.Relay → code.Relay → Type 0
PutsOn whole more key old new =
    (body_of key new ≡ Closed)
    ⊎ (((goes : Body)
    → body_in (get new.applications key) goes ≡ body_in (get old.applications key) goes)
    × Grows whole more (going_of key old) (going_of key new))
