-- That no request is forgotten which waits, and whom a call closes: who is turned away as its connection opens, or is lent one that doesn't take
-- what it asks; and by a piece of what it says, or a packet.
use Rattle.tds_front.specs.declared.front.Said.TheVariants as said
use Rattle.tds_relay.specs.declared.state.Asking.TheVariants as asking
use Rattle.tds_relay.specs.declared.pool.coming.What.TheVariants as whats
use Rattle.tds_relay.specs.declared.relay.Relay as code
use Rattle.tds_relay.specs.declared.pool.Pool as pools
use Rattle.tds_relay.specs.declared.pool.Hold.{Hold}
use Rattle.tds_relay.specs.Pool as pool
use Rattle.std.specs.Prelude.{◌≡◌, ◌≢◌, ◌≤◌, ◌⊎◌, ◌++◌, ℕ, Bool, true, false, length, List, [], IsSome, Option, Some, None}
use Rattle.tds_packet.specs.declared.status.Reset.TheVariants.{KeepTransaction}
use Rattle.tds_client.specs.declared.message.MessageKind.{MessageKind}
use Rattle.tds_front.specs.declared.front.Said.{Said}
use Rattle.tds_relay.specs.declared.application.Application.{Application}
use Rattle.tds_relay.specs.declared.pool.coming.Heard.{Heard}
use Rattle.tds_relay.specs.declared.link.Link.{Link}
use Rattle.tds_relay.specs.Bodies.{Astray, Body, IsStill, IsUnsent, Kept, body_of, last_of, Carries, standing_in}
use Rattle.tds_relay.specs.Waking.{HeedsAll}
use Rattle.tds_relay.specs.Closings.{IsWho, IsWaiting}
use Rattle.tds_relay.specs.Pool.{find_key, find_number, Sharing, without}
use Rattle.tds_relay.specs.Fronts.{own_end, ends_in, told_by, MovedOn, core_in, machine_in}
use Rattle.tds_relay.specs.Queues.{queues_in}
use Rattle.tds_relay.specs.Cleaning.{CleansAlone}
use Rattle.tds_relay.specs.Handing.{heard_key}
use Rattle.tds_relay.specs.Core.{AsksFor, IfOpen, IsBegun, end_at, holder, is_in}
use Rattle.tds_relay.specs.Reads.{open_at, opened_at, queue_on, Opens, OpensOne, OpensOthers, LinksStay, StreamsAll, StaysAt, answer_at, waits_on}
use Rattle.tds_relay.specs.Reasons.{HasNoRoom, HasTakenBack, IsLeftOpen, IsTurnedAway, IsTurnedAwayAt, IsUnheld, LosesFor, ResumesNot, GivesReason, IsReadyThere, ItselfFor, LosesOn}
use Rattle.tds_relay.specs.Sparing.{IsHeldBack, IsUnkept, AllGo, IsKept, OffGo}
use Rattle.tds_relay.specs.Taking.{IsDeaf}
use Rattle.tds_relay.specs.Ties.{pool_in, Cause, IsReached, Neither, Turns}
use Rattle.tds_relay.specs.Told.{room_to_keep}
use Rattle.tds_relay.specs.Coming.{GoesAlong, StreamsAnew}
use Rattle.tds_relay.specs.Few.{IsSeated}
use Rattle.tds_relay.specs.Lent.{AsksBehind, AsksLent, FirstKeeps, IsAskedOn, IsWithHolder, MayBeLent, OthersKeepAt, ShutElse}
use Rattle.tds_relay.specs.Machine.{IsLedTo, Steps}
use Rattle.tds_relay.specs.Places.{is_closed, own_asking, own_held}

-- It goes on, or waits for its connection to open, or for the acknowledgement of what its application took back.
abbrev pub GoesOrWaits : ℕ → code.Relay → Type 0
GoesOrWaits key r = IsUnkept (body_of key r) ⊎ IsHeldBack key r

-- Once that is acknowledged it goes on so, unless it asks for the reset that keeps its transaction.
abbrev pub Resumes : ℕ → code.Relay → code.Relay → Type 0
Resumes key old new = AsksFor KeepTransaction (end_at (ends_in old.applications) key) ⊎ GoesOrWaits key new

-- Its application stands in the line; or is to be closed, or holds a connection.
pub data StandsInLine (key : ℕ) (r : code.Relay) : Type 0 where
  Stands : is_in key r.pool.line.items ≡ true → StandsInLine key r
  Closes : IsDeaf (end_at (ends_in r.applications) key) → StandsInLine key r
  Holds : IsSome (find_key key r.pool.holds.items) → StandsInLine key r

-- What was heard of a packet, if something was, acknowledges nothing.
abbrev pub IsNotAcknowledged : Option Heard → Type 0
IsNotAcknowledged None = Unit {0}
IsNotAcknowledged (Some heard) = heard.what ≢ whats.Acknowledged

-- By what is heard of a packet nothing is put on others than this one, but where what somebody took
-- back is acknowledged: then on none that isn't open.
pub record RestsElse (heard : Option Heard) (number : ℕ) (old new : List Link) : Type 0 where
  pub same : IsNotAcknowledged heard → (other : ℕ) → other ≢ number
      → waits_on other new ≡ waits_on other old
  pub still : ShutElse number old new

-- These bytes of a request that has begun and stands in the line are kept behind the others, where they are no more than may be kept.
abbrev pub KeepsInLine : Bool → List ℕ → Option Application → Body → Type 0
KeepsInLine whole more None new = Unit {0}
KeepsInLine whole more (Some a) new =
    is_closed a ≡ false → length more ≤ room_to_keep a → (kind : MessageKind) (was : Bool) → own_asking a ≡ asking.Waits kind was → IfOpen IsBegun (Some (own_end a))
    → new ≡ Kept kind (own_held a ++ more) whole

-- So are those of one that goes on or ends, by what is said of them.
abbrev pub KeepsSaid : Said → List ℕ → Option Application → Body → Type 0
KeepsSaid (said.Body count) taken old new = KeepsInLine false (last_of count taken) old new
KeepsSaid (said.End count) taken old new = KeepsInLine true (last_of count taken) old new
KeepsSaid _ taken old new = Unit {0}

-- ---- As a connection opens

-- That of this number is open now, and the same waits on each.
pub record IsOpened (number : ℕ) (old new : List Link) : Type 0 where
  pub opens : (other : ℕ) → open_at other new ≡ opened_at number other old
  pub queues : (other : ℕ) → queue_on other new ≡ queue_on other old

-- Who holds it is turned away there.
abbrev pub OpensFor : ℕ → code.Relay → ℕ → Type 0
OpensFor number r other =
    IsWho (holder (pool_in r.pool) number) other × (links : List Link) × IsOpened number r.links.items links × IsTurnedAway other (end_at (ends_in r.applications) other) r.pool links (body_of other r)

-- Of who holds it, by a lease that was given before, waited for none, and isn't to be closed: where
-- what he asks stays, and nothing of it goes on, the same waits there; or the connection is there no
-- more.
abbrev pub RestsForHolder : ℕ → code.Relay → code.Relay → Type 0
RestsForHolder number old new =
    (hold : Hold) → find_number number new.pool.holds.items ≡ Some hold
    → hold.lease ≤ old.pool.service.given → is_in hold.key (pool_in old.pool).line ≡ false
    → body_of hold.key new ≡ body_of hold.key old → IsStill (body_of hold.key new)
    → StaysAt (waits_on number old.links.items) (waits_on number new.links.items)

-- ---- As the code has it

-- The same waits on each, and each that is open was so.
pub record KeepsQueues (old new : List Link) : Type 0 where
  pub queues : (number : ℕ) → queue_on number new ≡ queue_on number old
  pub opens : (number : ℕ) → IsSome (open_at number new) → IsSome (open_at number old)

-- Where nothing goes on behind it of what the holder of this one asks, that stayed, and the same
-- waits on each.
abbrev pub RestsIfStill : ℕ → code.Relay → code.Relay → Type 0
RestsIfStill number old new =
    (key : ℕ) → holder (pool_in old.pool) number ≡ Some key → IsStill (body_of key new)
    → (body_of key new ≡ body_of key old)
    × ((n : ℕ) → StaysAt (waits_on n old.links.items) (waits_on n new.links.items))

-- An application holds none; or it is turned away.
abbrev pub IsUnheldOrTurnedAway : ℕ → code.Relay → Type 0
IsUnheldOrTurnedAway key r = IsUnheld key r.pool ⊎ IsTurnedAwayAt key r

-- ---- By a packet that has been handed on

-- Where nothing goes out by it, what its application asks behind what it took back doesn't go on.
abbrev pub ResumesAt : ℕ → Option Heard → code.Relay → ℕ → Type 0
ResumesAt number None r other = ⊥
ResumesAt number (Some heard) r other =
    (heard.what ≡ whats.Acknowledged) × HasTakenBack heard.key (ends_in r.applications)
    × (r.outbox.items ≡ [] → ResumesNot number heard.key (told_by (Some heard) (ends_in r.applications)) r.pool r.links.items (body_of other r) other)

-- It closes this one; or what goes out by it to who holds the connection doesn't fit, where that stays.
abbrev pub LosesAt : ℕ → Option Heard → code.Relay → ℕ → Type 0
LosesAt number heard r other =
    LosesFor number heard (pool_in r.pool) (ends_in r.applications) (queues_in r.applications) other
    ⊎ ((IsWho (holder (pool_in r.pool) number) other × (IsLeftOpen heard → (r.outbox.items ≢ []) × HasNoRoom number r.outbox.items r.links.items)) ⊎ ResumesAt number heard r other)

-- ---- By a loan

-- One that waits, and holds no connection, is lent one in turn, and turned away there: by the first one that it is lent, wherever steps led to
-- the relay from a new one. Each that is open was so, and what waited there waits still; on this one nothing else does, unless who waits held it.
pub record IsLentInVain (r : code.Relay) (other : ℕ) : Type 0 where
  pub waits : IsWaiting (pool_in r.pool).line other
  pub free : pools.Pool
  pub first : (sharing : Sharing) → IsLedTo sharing (machine_in r) → find_key other free.holds.items ≡ None
  pub at : code.Relay
  pub lent : Turns pool.Serves (pool_in free) (pool_in at.pool) [] []
  pub moved : MovedOn (core_in r) (core_in at)
  pub goes : AllGo r at
  pub opens : Opens r.links.items at.links.items
  pub queues : IsReached (pool_in r.pool) → (number : ℕ) → MayBeLent number r.pool.line.items r.pool.holds.items r.links.items free.holds.items at.links.items
  pub turned : IsTurnedAwayAt other at

-- So it is behind what this causes, by which nobody is lent one: these wait then, the connections are so, and but on these the same waits, and who
-- holds them does so still.
pub record IsLentAfter (by : Cause) (line : List ℕ) (Links : List Link → List Link → Type 0) (But : ℕ → Type 0) (r : code.Relay) (other : ℕ) : Type 0 where
  pub was : IsWaiting (pool_in r.pool).line other
  pub mid : code.Relay
  pub steps : Steps by (machine_in r) (machine_in mid)
  pub waiting : mid.pool.line.items ≡ line
  pub links : Links r.links.items mid.links.items
  pub goes : AllGo r mid
  pub keeps : IsReached (pool_in r.pool) → FirstKeeps But r mid
  pub lent : IsLentInVain mid other

-- behind an application that lets its connection go
abbrev pub IsLentByParting : Cause → ℕ → code.Relay → ℕ → Type 0
IsLentByParting by key r other = IsLentAfter by (without key r.pool.line.items) LinksStay (λ number. holder (pool_in r.pool) number ≡ Some key) r other

-- Who holds a connection that is lost is closed; or one that waits is lent one in vain behind that.
abbrev pub LosesOrLends : ℕ → code.Relay → ℕ → Type 0
LosesOrLends number r other = IsWho (holder (pool_in r.pool) number) other ⊎ IsLentAfter Neither r.pool.line.items LinksStay (λ n. n ≡ number) r other

-- Who holds one that opens is turned away there; or one that waits is lent one in vain behind that.
abbrev pub OpensOrLends : ℕ → code.Relay → ℕ → Type 0
OpensOrLends number r other = OpensFor number r other ⊎ IsLentAfter Neither r.pool.line.items (OpensOne number) (IsWithHolder number r) r other

-- ---- By what an application says

-- Its request isn't kept where the connection that it holds is ready for it.
abbrev pub IsRightlyKept : ℕ → code.Relay → Type 0
IsRightlyKept key r = IsKept (body_of key r) → ¬ IsReadyThere key (end_at (ends_in r.applications) key) r.pool r.links.items

-- These bytes may have been taken up to these, as far as this says: its request's body follows them, and what goes out for what it takes back. No
-- connection was opened or filled by them; what waited on one waits still, and more may, but on those that it doesn't hold. Where its request was
-- kept for a cause, it is.
pub record IsTakenTo (key : ℕ) (bytes left : List ℕ) (r mid : code.Relay) : Type 0 where
  pub carries : Carries key (machine_in r) bytes left (body_of key r) (body_of key mid) (machine_in mid)
  pub heeds : HeedsAll key (machine_in r) bytes left (standing_in key r) (standing_in key mid) (machine_in mid)
  pub stays : LinksStay r.links.items mid.links.items
  pub aside : IsReached (pool_in r.pool) → OthersKeepAt key r mid
  pub right : IsRightlyKept key r → IsRightlyKept key mid

-- Behind all of them one that waits is lent a connection in vain.
pub record IsLentBehind (key : ℕ) (bytes : List ℕ) (r : code.Relay) (other : ℕ) : Type 0 where
  pub mid : code.Relay
  pub taken : IsTakenTo key bytes [] r mid
  pub lent : IsLentInVain mid other

-- Where an application speaks, one that is lent this connection asks behind what waited there: another, that waited before; or itself, as its
-- request stands behind all of its bytes.
pub data AsksSaying (key : ℕ) (bytes : List ℕ) (number other : ℕ) (old new : code.Relay) : Type 0 where
  OfAnother : other ≢ key → is_in other old.pool.line.items ≡ true → AsksLent number other old new → (IsStill (body_of other old) → IsAskedOn number other new) → AsksSaying key bytes number other old new
  OfItself : (mid : code.Relay) → other ≡ key → IsTakenTo key bytes [] old mid → IsUnsent (body_of key mid) ⊎ (body_of key mid ≡ Astray)
      → AsksBehind (waits_on number old.links.items) (waits_on number new.links.items) (body_of key mid) (body_of key new)
      → (IsStill (body_of key mid) → IsAskedOn number key new) → AsksSaying key bytes number other old new

-- So does whoever is lent one that was there, and that nobody held.
abbrev pub LendsSaying : ℕ → List ℕ → code.Relay → code.Relay → Type 0
LendsSaying key bytes old new = (number other : ℕ) → number ≤ old.pool.service.last → holder (pool_in old.pool) number ≡ None
    → holder (pool_in new.pool) number ≡ Some other → AsksSaying key bytes number other old new

-- By one piece of these, behind others; or behind them it is lent a connection in vain.
pub data HasReason (key : ℕ) (bytes : List ℕ) (r : code.Relay) : Type 0 where
  ByPiece : (mid : code.Relay) (left : List ℕ) → IsTakenTo key bytes left r mid → GivesReason left key mid → HasReason key bytes r
  ByLoan : IsLentBehind key bytes r key → HasReason key bytes r

-- An application's bytes close it for a reason that they have; of others only one that waited, and is lent a connection behind them in vain.
abbrev pub ForReasonOrWaiting : ℕ → List ℕ → code.Relay → ℕ → Type 0
ForReasonOrWaiting key bytes r other = ItselfFor key (HasReason key bytes r) other ⊎ ((other ≢ key) × IsWaiting (pool_in r.pool).line other × IsLentBehind key bytes r other)

-- ---- By bytes that come

-- The connection of this number, or one that this application holds, if there is one.
abbrev pub IsOnOrHeld : ℕ → Option ℕ → code.Relay → ℕ → Type 0
IsOnOrHeld number who r other =
    (other ≡ number) ⊎ (IsSome who × (holder (pool_in r.pool) other ≡ who))

-- or one of who holds it
abbrev pub IsItsHolders : ℕ → code.Relay → ℕ → Type 0
IsItsHolders number r other = IsOnOrHeld number (holder (pool_in r.pool) number) r other

-- Where packets come on this connection, which this application holds behind them: it held it
-- before, and waits for none if it didn't. Its request goes along; what is kept of it was kept so.
-- Where that stays, and nothing of it goes on, the same waits there.
pub record StaysThere (number key : ℕ) (old new : code.Relay) : Type 0 where
  pub held : holder (pool_in old.pool) number ≡ Some key
  pub away : is_in key (pool_in new.pool).line ≡ true → is_in key (pool_in old.pool).line ≡ true
  pub along : GoesAlong (body_of key old) (body_of key new)
  pub kept : IsKept (body_of key new) → body_of key new ≡ body_of key old
  pub waits : body_of key new ≡ body_of key old → IsStill (body_of key new)
      → StaysAt (waits_on number old.links.items) (waits_on number new.links.items)

-- Where this application holds it, it stays so.
abbrev pub KeepsWaiting : ℕ → code.Relay → code.Relay → ℕ → Type 0
KeepsWaiting number old new key =
    holder (pool_in new.pool) number ≡ Some key → StaysThere number key old new

-- What is done behind a packet of which this was heard. So it is for whom that tells, or anybody
-- where it tells nobody; where the connection stays, nothing may go out by it.
pub record KeepsHeard (number : ℕ) (heard : Option Heard) (old new : code.Relay) : Type 0 where
  pub others : FirstKeeps (IsOnOrHeld number (heard_key heard) old) old new
  pub rests : (IsLeftOpen heard → old.outbox.items ≡ []) → (key : ℕ)
      → ((whose : ℕ) → heard_key heard ≡ Some whose → whose ≡ key) → KeepsWaiting number old new key

-- Packets were heard on it, by which none was opened or filled. What others than its holder ask
-- stays, or starts. On each that isn't its holder's the same waits, and who holds it does so still.
-- On this one, where nobody held it, cleanings alone were put, no more than leases were given, also
-- by loans; and while what its holder asks stays, and nothing of it goes on, the same waits.
pub record IsHeardTo (number : ℕ) (r mid : code.Relay) : Type 0 where
  pub opens : OpensOthers number r.links.items mid.links.items
  pub goes : OffGo number None r mid
  pub keeps : FirstKeeps (IsItsHolders number r) r mid
  pub cleans : holder (pool_in r.pool) number ≡ None
      → CleansAlone r.pool.service.given mid.pool.service.given
      (waits_on number r.links.items) (waits_on number mid.links.items)
  pub rests : (key : ℕ) → KeepsWaiting number r mid key

-- They come behind others. Or all have come, and one that waits is lent a connection in vain.
pub data IsClosedByHearing (number : ℕ) (bytes : List ℕ) (r : code.Relay) (other : ℕ) : Type 0 where
  ByPacket : (mid : code.Relay) (left : List ℕ)
      → StreamsAnew number (answer_at number r.links.items) (open_at number r.links.items)
      (machine_in r) r.pool.service bytes left (answer_at number mid.links.items)
      (open_at number mid.links.items) (machine_in mid) mid.pool.service
      → IsHeardTo number r mid → LosesOn number left mid other
      → IsClosedByHearing number bytes r other
  InLine : (mid : code.Relay)
      → StreamsAll number (open_at number r.links.items) (machine_in r) r.pool.service bytes
      (open_at number mid.links.items) (machine_in mid) mid.pool.service
      → IsHeardTo number r mid → IsLentInVain mid other → IsClosedByHearing number bytes r other

-- What waited on this connection, where packets came on that one: what waited before; and where it is that one, cleanings behind it, no more than
-- leases were given.
abbrev pub CleansOrStays : ℕ → ℕ → code.Relay → code.Relay → Option (List ℕ) → Type 0
CleansOrStays number n old new waited =
    ((n ≢ number) × (waited ≡ waits_on n old.links.items))
    ⊎ ((n ≡ number) × CleansAlone old.pool.service.given new.pool.service.given (waits_on n old.links.items) waited)

-- Where packets come on that one, an application that is lent this one asks behind what waited there, as its request stood behind the packets.
pub record AsksSince (number n key : ℕ) (old new : code.Relay) : Type 0 where
  pub waited : Option (List ℕ)
  pub cleans : CleansOrStays number n old new waited
  pub mid : Body
  pub along : GoesAlong (body_of key old) mid
  pub unsent : IsUnsent mid ⊎ (mid ≡ Astray)
  pub asks : AsksBehind waited (waits_on n new.links.items) mid (body_of key new)
  pub asked : IsStill mid → IsAskedOn n key new

-- So does whoever is lent a connection that was there, and that nobody held.
abbrev pub LendsHearing : ℕ → code.Relay → code.Relay → Type 0
LendsHearing number old new = (n key : ℕ) → n ≤ old.pool.service.last → holder (pool_in old.pool) n ≡ None
    → holder (pool_in new.pool) n ≡ Some key → AsksSince number n key old new

-- where the service has the connections that the relay has, as it has behind each call
abbrev pub HeardFor : ℕ → List ℕ → code.Relay → ℕ → Type 0
HeardFor number bytes r other = IsSeated r → IsClosedByHearing number bytes r other
