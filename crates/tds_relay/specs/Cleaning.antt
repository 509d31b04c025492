-- What the relay puts on a connection itself, where an application lets that go: what cancels its request, and a cleaning.
use Rattle.std.specs.Prelude.{◌≡◌, ◌≤◌, ◌⊎◌, ◌==◌, ◌+◌, ℕ, suc, codes, Bool, true, false, List, [], ◌∷◌, ◌++◌, Option, Some, None, IsSome, length, option_map}
use Rattle.tds_client.specs.declared.message.MessageKind.TheVariants.{Batch}
use Rattle.tds_client.specs.Session as session
use Rattle.tds_client.specs.Session.{ClientSession, Stage}
use Rattle.tds_packet.specs.declared.status.Reset.TheVariants.{Full}
use Rattle.tds_client.specs.Streams.{opened}
use Rattle.tds_wire.specs.declared.told.Token.{Token}
use Rattle.tds_service.specs.declared.service.Service as services
use Rattle.tds_service.specs.Service as calls
use Rattle.tds_service.specs.Service.{Seat, Service, seat_numbered, step}
use Rattle.tds_service.specs.Table.{client_of}
use Rattle.tds_service.specs.Ties.{cancel_out}
use Rattle.tds_relay.specs.declared.pool.Hold.{Hold}
use Rattle.tds_relay.specs.declared.pool.Pool as pools
use Rattle.tds_relay.specs.declared.pool.coming.Heard.{Heard}
use Rattle.tds_relay.specs.declared.pool.coming.What.{What}
use Rattle.tds_relay.specs.declared.pool.coming.What.TheVariants as whats
use Rattle.tds_relay.specs.declared.pool.leaving.Left.{Left}
use Rattle.tds_relay.specs.declared.link.Link.{Link}
use Rattle.tds_relay.specs.declared.relay.Relay as code
use Rattle.tds_relay.specs.Bodies.{ArePut}
use Rattle.tds_relay.specs.Closings.{IsWaiting, Register, Settings, register_in}
use Rattle.tds_relay.specs.Pool.{Pool, find_key, next}
use Rattle.tds_relay.specs.Queues.{Queue, fits, empty_queue}
use Rattle.tds_relay.specs.Lent.{HasClosed, IsMade}
use Rattle.tds_relay.specs.Reads.{StaysAt, open_at, queue_on, reader_at, waits_on}
use Rattle.tds_relay.specs.Core.{holder}
use Rattle.tds_relay.specs.Ties.{IsReached, pool_in}

-- ---- What a cleaning says

-- two bytes for each unit of a text, the lower one first
unfoldable pub two_bytes_each : List ℕ → List ℕ
two_bytes_each [] = []
two_bytes_each (unit ∷ units) = unit ∷ 0 ∷ two_bytes_each units

-- The reset that goes with a cleaning leaves the isolation level as it is.
unfoldable pub text_of_cleaning : List ℕ
text_of_cleaning = two_bytes_each (codes "set transaction isolation level read committed")

-- ---- What is put

-- These bytes are a whole batch of this text, by a client that begins it.
pub record IsBatch (text out : List ℕ) : Type 0 where
  pub from : ClientSession
  pub to : ClientSession
  pub put : ArePut true text (opened from Batch) to out

-- And it asks for the full reset.
pub record IsCleaning (text out : List ℕ) : Type 0 where
  pub batch : IsBatch text out
  pub full : batch.from.heard.mark ≡ Some Full

-- What is so was put behind what there was.
pub record IsPutBehind (Is : List ℕ → Type 0) (before after : List ℕ) : Type 0 where
  pub out : List ℕ
  pub is : Is out
  pub appended : after ≡ before ++ out

-- A cleaning was, where this is nobody; or nothing, also where the pool has begun one.
abbrev pub MayClean : Option ℕ → List ℕ → List ℕ → Type 0
MayClean who before after = (after ≡ before) ⊎ ((who ≡ None) × IsPutBehind (IsCleaning text_of_cleaning) before after)

-- Nothing more goes out; or a lease was given, from so many to so many.
abbrev pub PutsByLease : List ℕ → List ℕ → ℕ → ℕ → Type 0
PutsByLease before after from to = (after ≡ before) ⊎ (suc from ≤ to)

-- These are so many cleanings, one behind the other.
pub data AreCleanings : ℕ → List ℕ → Type 0 where
  NoCleaning : AreCleanings 0 []
  AndACleaning : (count : ℕ) (out more : List ℕ) → AreCleanings count out
      → IsCleaning text_of_cleaning more → AreCleanings (suc count) (out ++ more)

-- They are, and no more than leases were given, from so many to so many, also by loans. There may be
-- fewer.
pub record AreByLeases (from to : ℕ) (out : List ℕ) : Type 0 where
  pub count : ℕ
  pub are : AreCleanings count out
  pub by_leases : from + count ≤ to

-- Cleanings alone were put there so, behind what waited; or the connection is there no more.
abbrev pub CleansAlone : ℕ → ℕ → Option (List ℕ) → Option (List ℕ) → Type 0
CleansAlone from to old None = Unit {0}
CleansAlone from to None (Some new) = ⊥
CleansAlone from to (Some waits) (Some new) =
    (out : List ℕ) × AreByLeases from to out × (new ≡ waits ++ out)

-- And more may wait behind them, where it is lent to somebody since.
abbrev pub CleansOn : ℕ → ℕ → Type 0 → Option (List ℕ) → Option (List ℕ) → Type 0
CleansOn from to lent old None = Unit {0}
CleansOn from to lent None (Some new) = ⊥
CleansOn from to lent (Some waits) (Some new) =
    (out : List ℕ) × (more : List ℕ) × AreByLeases from to out
    × (new ≡ (waits ++ out) ++ more) × ((more ≡ []) ⊎ lent)

-- Whether nothing is to come any more once what is underway is cancelled.
abbrev pub rests_once : Stage → Bool
rests_once session.Idle = true
rests_once (session.Sending kind left packets) = packets == 0
rests_once session.Reading = false
rests_once session.Cancelling = false
rests_once (session.Broken fault) = false

-- A cleaning of this text is put then, or none yet.
abbrev pub CleansOnce : Bool → List ℕ → List ℕ → List ℕ → Type 0
CleansOnce true text before after = IsPutBehind (IsCleaning text) before after
CleansOnce false text before after = after ≡ before

-- What goes out where a client's connection is let go: what cancels its request, if one is out; and behind that a cleaning of this text, but
-- none yet exactly while something is still to come there.
pub record GoesOutAtEnd (text : List ℕ) (client : Option ClientSession) (out : List ℕ) : Type 0 where
  pub session : ClientSession
  pub was : client ≡ Some session
  pub does : CleansOnce (rests_once session.stage) text (cancel_out session.stage) out

-- of a connection that an application held, where it is there still
abbrev pub GoesOutBy : services.Service → Option Hold → Option Left → List ℕ → List ℕ → Type 0
GoesOutBy s None left before after = Unit {0}
GoesOutBy s (Some hold) None before after = Unit {0}
GoesOutBy s (Some hold) (Some left) before after = left.is_there ≡ true → IsPutBehind (GoesOutAtEnd text_of_cleaning (client_of hold.lease s)) before after

-- of one that is brought, where it is there still: a cleaning alone
abbrev pub CleansFirst : List ℕ → List ℕ → Left → Type 0
CleansFirst before after left = left.is_there ≡ true → IsPutBehind (IsCleaning text_of_cleaning) before after

-- It waits there, behind what waited; or the connection is there no more.
pub data WaitsAtEnd (client : Option ClientSession) (old : Option (List ℕ)) : Option (List ℕ) → Type 0 where
  IsShut : WaitsAtEnd client old None
  HasMore : (waits out : List ℕ) → old ≡ Some waits → GoesOutAtEnd text_of_cleaning client out → WaitsAtEnd client old (Some (waits ++ out))

-- The same waits there, or what goes out where a client's connection is let go waits behind that; or
-- it is there no more.
abbrev pub LeavesAt : Option (List ℕ) → Option (List ℕ) → Type 0
LeavesAt old None = Unit {0}
LeavesAt None (Some new) = ⊥
LeavesAt (Some old) (Some new) = (new ≡ old) ⊎ ((client : ClientSession) × (out : List ℕ)
    × CleansOnce (rests_once client.stage) text_of_cleaning (cancel_out client.stage) out
    × (new ≡ old ++ out))

-- So it is on each connection.
abbrev pub LeavesAll : (ℕ → Option (List ℕ)) → (ℕ → Option (List ℕ)) → Type 0
LeavesAll old new = (number : ℕ) → LeavesAt (old number) (new number)

-- And more may wait behind it, where it is lent to somebody since.
pub data WaitsBehindEnd (lent : Type 0) (client : Option ClientSession) (old : Option (List ℕ)) : Option (List ℕ) → Type 0 where
  IsShutSince : WaitsBehindEnd lent client old None
  HasMoreSince : (waits out more : List ℕ) → old ≡ Some waits → GoesOutAtEnd text_of_cleaning client out → (more ≡ []) ⊎ lent
      → WaitsBehindEnd lent client old (Some ((waits ++ out) ++ more))

-- where an application held one
abbrev pub OfItsHold : (Option ClientSession → Option (List ℕ) → Option (List ℕ) → Type 0) → ℕ → code.Relay → (ℕ → Option (List ℕ)) → Type 0
OfItsHold Left key old now = (hold : Hold) → find_key key old.pool.holds.items ≡ Some hold → Left (client_of hold.lease old.pool.service) (waits_on hold.number old.links.items) (now hold.number)

-- Where an application held one, that waits there; on each other the same does.
abbrev pub LetsGoBy : ℕ → pools.Pool → List Link → List Link → Type 0
LetsGoBy key d old new = (number : ℕ) → (waits_on number new ≡ waits_on number old)
    ⊎ ((hold : Hold) × (find_key key d.holds.items ≡ Some hold) × (hold.number ≡ number)
    × WaitsAtEnd (client_of hold.lease d.service) (waits_on number old) (waits_on number new))

abbrev pub LetsGoAt : ℕ → code.Relay → code.Relay → Type 0
LetsGoAt key old new = LetsGoBy key old.pool old.links.items new.links.items

abbrev pub LeavesAllAt : code.Relay → code.Relay → Type 0
LeavesAllAt old new =
    LeavesAll (λ number. waits_on number old.links.items) (λ number. waits_on number new.links.items)

abbrev pub WaitsSinceEnd : ℕ → code.Relay → code.Relay → Type 0
WaitsSinceEnd key old new = (hold : Hold) → find_key key old.pool.holds.items ≡ Some hold
    → WaitsBehindEnd (IsSome (holder (pool_in new.pool) hold.number))
    (client_of hold.lease old.pool.service) (waits_on hold.number old.links.items)
    (waits_on hold.number new.links.items)

-- ---- How often

-- how many connections that were let go are cleaned, and how many were closed instead
abbrev pub cleaned_in : code.Relay → ℕ × ℕ
cleaned_in r = (r.cleanings, r.failed)

-- One is counted so, once, as far as it is counted;
abbrev pub CountsOnce : ℕ × ℕ → ℕ × ℕ → Type 0
CountsOnce old new = (new ≡ (next old.0, old.1)) ⊎ (new ≡ (old.0, next old.1))

-- where one was held,
abbrev pub CountsHold : Option Hold → ℕ × ℕ → ℕ × ℕ → Type 0
CountsHold None old new = new ≡ old
CountsHold (Some hold) old new = CountsOnce old new

-- or was brought.
abbrev pub CountsBrought : Option ℕ → ℕ × ℕ → ℕ × ℕ → Type 0
CountsBrought None old new = new ≡ old
CountsBrought (Some number) old new = CountsOnce old new

-- Where it is there still, what goes out by that waits: it is counted as cleaned; and as closed instead where it isn't there, for this reason.
abbrev pub CountsSent : Type 0 → Option (List ℕ) → ℕ × ℕ → ℕ × ℕ → Type 0
CountsSent Fails None old new = (new ≡ (old.0, next old.1)) × Fails
CountsSent Fails (Some waits) old new = new ≡ (next old.0, old.1)

-- These bytes don't fit there.
abbrev pub IsUnfit : List ℕ → Option Queue → Type 0
IsUnfit out queue = option_map (λ (p : Queue). fits p out) queue ≡ Some false

-- The protocol's rules were broken on it.
abbrev pub HasBroken : Stage → Type 0
HasBroken (session.Broken fault) = Unit {0}
HasBroken _ = ⊥

-- This client's connection is closed as it is let go: they were broken there.
abbrev pub IsBrokenFor : Option ClientSession → Type 0
IsBrokenFor client =
    (broken : ClientSession) × (client ≡ Some broken) × HasBroken broken.stage

-- So it is with what an application held, where it is there no more.
abbrev pub IsShutFor : services.Service → Option Hold → Option Left → Type 0
IsShutFor s None left = Unit {0}
IsShutFor s (Some hold) None = Unit {0}
IsShutFor s (Some hold) (Some left) =
    left.is_there ≡ false → IsBrokenFor (client_of hold.lease s)

-- What this held can't be cleaned: the rules were broken there, or what goes out there doesn't fit.
abbrev pub CannotClean : Hold → code.Relay → Type 0
CannotClean hold old =
    IsBrokenFor (client_of hold.lease old.pool.service)
    ⊎ ((out : List ℕ) × GoesOutAtEnd text_of_cleaning (client_of hold.lease old.pool.service) out
    × IsUnfit out (queue_on hold.number old.links.items))

-- It is counted so where an application held one that was there, and for that as closed instead.
abbrev pub CountsAtEnd : ℕ → code.Relay → code.Relay → Type 0
CountsAtEnd key old new = (hold : Hold) → find_key key old.pool.holds.items ≡ Some hold → IsSome (waits_on hold.number old.links.items)
    → CountsSent (CannotClean hold old) (waits_on hold.number new.links.items) (cleaned_in old) (cleaned_in new)

-- Then those who wait are served: what is counted as cleaned is there, or was lost with one of them; what is counted as closed is so for this
-- reason, and isn't there.
pub data CountsSince (Fails Lost : Type 0) (number : ℕ) (old new : ℕ × ℕ) (ls : List Link) : Type 0 where
  IsCleaned : new ≡ (next old.0, old.1) → IsSome (waits_on number ls) ⊎ Lost → CountsSince Fails Lost number old new ls
  IsFailed : new ≡ (old.0, next old.1) → waits_on number ls ≡ None → Fails
      → CountsSince Fails Lost number old new ls

-- one of them is closed since
abbrev pub LosesWaiting : Register → code.Relay → code.Relay → Type 0
LosesWaiting was old new = HasClosed (IsWaiting (pool_in old.pool).line) was (register_in new)

abbrev pub CountsSinceEnd : ℕ → Register → code.Relay → code.Relay → Type 0
CountsSinceEnd key was old new = (hold : Hold) → find_key key old.pool.holds.items ≡ Some hold → IsSome (waits_on hold.number old.links.items)
    → CountsSince (CannotClean hold old) (LosesWaiting was old new) hold.number (cleaned_in old) (cleaned_in new) new.links.items

-- A cleaning doesn't fit where nothing waits, behind packets of this size.
abbrev pub IsTooLong : ℕ → Type 0
IsTooLong size = (out : List ℕ) × IsCleaning text_of_cleaning out × (fits (empty_queue size) out ≡ false)

-- Nothing is counted; or one more was counted as closed instead, and the connection of this number is there no more.
abbrev pub CountsLost : ℕ → code.Relay → code.Relay → Type 0
CountsLost number old new = (cleaned_in new ≡ cleaned_in old) ⊎ ((cleaned_in new ≡ (old.cleanings, next old.failed)) × (reader_at number new.links.items ≡ None))

-- or it isn't open
abbrev pub CountsGone : ℕ → code.Relay → code.Relay → Type 0
CountsGone number old new = (cleaned_in new ≡ cleaned_in old) ⊎ ((cleaned_in new ≡ (old.cleanings, next old.failed)) × (open_at number new.links.items ≡ None))

-- It is exactly where what came of it closes it, and is nobody's.
abbrev pub CountsWhat : What → Option ℕ → ℕ → code.Relay → code.Relay → Type 0
CountsWhat whats.Goes key number old new = cleaned_in new ≡ cleaned_in old
CountsWhat whats.Finished key number old new = cleaned_in new ≡ cleaned_in old
CountsWhat whats.Acknowledged key number old new = cleaned_in new ≡ cleaned_in old
CountsWhat whats.Closed (Some key) number old new = cleaned_in new ≡ cleaned_in old
CountsWhat whats.Closed None number old new = (cleaned_in new ≡ (old.cleanings, next old.failed)) × (reader_at number new.links.items ≡ None)

abbrev pub CountsHeard : ℕ → Option Heard → code.Relay → code.Relay → Type 0
CountsHeard number None old new = cleaned_in new ≡ cleaned_in old
CountsHeard number (Some heard) old new = CountsWhat heard.what heard.key number old new

-- ---- One that has come before any application asked is cleaned first

-- This is the one that a service lends.
abbrev pub IsLentBy : ℕ → Service → Type 0
IsLentBy number s = (lease : ℕ) × (had : Bool) × ((step {T = Token} s calls.Lease).reply ≡ calls.Lent lease number had)

-- As many of a service's connections are in use as may be.
abbrev pub LendsNone : Service → Type 0
LendsNone s = (step {T = Token} s calls.Lease).reply ≡ calls.AllInUse

-- There were connections before, or the service lends none; and the pool is as it was.
abbrev pub IsNotBrought : List Link → Pool → Pool → Type 0
IsNotBrought links old new = (((length links == 0) ≡ false) ⊎ LendsNone old.service) × (new ≡ old)

-- One is behind them that is open and called so, made as the relay was told; or none is.
abbrev pub IsFirst : ℕ → Settings → List Link → List Link → Type 0
IsFirst tag s old new =
    (new ≡ old) ⊎ ((l : Link) × (new ≡ old ++ l ∷ []) × (l.tag ≡ Some tag)
    × (l.is_open ≡ true) × IsMade s.size s.features l)

-- A cleaning waits there, and nothing else but where it is lent to somebody since; or it is there no more.
pub data CleaningWaits (lent : Type 0) : Option (List ℕ) → Type 0 where
  IsGone : CleaningWaits lent None
  IsThere : (out more : List ℕ) → IsCleaning text_of_cleaning out → (more ≡ []) ⊎ lent → CleaningWaits lent (Some (out ++ more))

-- ---- Of one that is being cleaned, what waits there

-- The connection of this number is being cleaned, by this lease.
abbrev pub IsCleanedBy : ℕ → ℕ → Service → Type 0
IsCleanedBy number lease s = option_map (λ (c : Seat). c.place) (seat_numbered number s.seats) ≡ Some (calls.Cleaning lease)

-- What is put ends in a cleaning; how many there are, and what stands before it, isn't said.
abbrev pub EndsCleaning : List ℕ → List ℕ → List ℕ → Type 0
EndsCleaning text before after = (more : List ℕ) × IsPutBehind (IsCleaning text) (before ++ more) after

-- Each that is being cleaned was so before, by the same lease; or what is put ends in a cleaning.
pub record CleansIfPut (text before after : List ℕ) (old new : Service) : Type 0 where
  pub each : (number lease : ℕ) → IsCleanedBy number lease new
      → IsCleanedBy number lease old ⊎ EndsCleaning text before after

-- Where this one is being cleaned: it was so, by the same lease, and nothing is put; or just a
-- cleaning is, and this is nobody.
pub record CleansHere (who : Option ℕ) (number : ℕ) (before after : List ℕ) (old new : Service)
    : Type 0 where
  pub here : (lease : ℕ) → IsCleanedBy number lease new
      → (IsCleanedBy number lease old × (after ≡ before))
      ⊎ ((who ≡ None) × IsPutBehind (IsCleaning text_of_cleaning) before after)

-- Where this one is being cleaned it is nobody's; and it was so, by the same lease, and nothing is
-- put, or just a cleaning is.
pub record CleansNobodys (who : Option ℕ) (number : ℕ) (before after : List ℕ) (old new : Service)
    : Type 0 where
  pub here : (lease : ℕ) → IsCleanedBy number lease new
      → (who ≡ None) × ((IsCleanedBy number lease old × (after ≡ before))
      ⊎ IsPutBehind (IsCleaning text_of_cleaning) before after)

-- What waits there ends in a cleaning; or the connection is there no more.
abbrev pub EndsInCleaning : Option (List ℕ) → Type 0
EndsInCleaning None = Unit {0}
EndsInCleaning (Some waits) = EndsCleaning text_of_cleaning [] waits

-- Of each that is being cleaned behind a call: a cleaning is the last that waits there; or it was
-- being cleaned before, by the same lease, and the same waits. Or it is there no more.
pub record CleaningsWait (d : Pool) (old : List Link) (e : Pool) (new : List Link) : Type 0 where
  pub each : IsReached d → (number lease : ℕ) → IsCleanedBy number lease e.service
      → EndsInCleaning (waits_on number new)
      ⊎ (IsCleanedBy number lease d.service
      × StaysAt (waits_on number old) (waits_on number new))

abbrev pub CleaningsWaitAt : code.Relay → code.Relay → Type 0
CleaningsWaitAt old new =
    CleaningsWait (pool_in old.pool) old.links.items (pool_in new.pool) new.links.items
