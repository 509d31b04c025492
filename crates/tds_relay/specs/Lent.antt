-- Connections where one is lent: what is known of the message that comes there, which are there still, and on which something is put.
use Rattle.std.specs.Prelude.{◌≡◌, ◌≢◌, ◌≤◌, ◌⊎◌, ℕ, true, false, IfSome, IsSome, List, [], ◌∷◌, Option, Some, None, option_map}
use Rattle.tds_wire.specs.declared.features.Features.{Features}
use Rattle.tds_service.specs.Beginning.{Begins}
use Rattle.tds_relay.specs.Cutting.{at_its_beginning}
use Rattle.tds_relay.specs.declared.pool.Hold.{Hold}
use Rattle.tds_relay.specs.declared.link.Link.{Link}
use Rattle.tds_relay.specs.declared.link.TheConstants.{COLUMNS}
use Rattle.tds_relay.specs.declared.news.Known.TheVariants as knowns
use Rattle.tds_relay.specs.declared.relay.Relay as code
use Rattle.tds_relay.specs.Asking.{IsTakenBack}
use Rattle.tds_relay.specs.Bodies.{Astray, Body, IsStill, body_of}
use Rattle.tds_relay.specs.Closings.{Register, open_name}
use Rattle.tds_relay.specs.Fronts.{ends_in}
use Rattle.tds_relay.specs.Pool.{find_key, find_number, key_of, without_number}
use Rattle.tds_relay.specs.Core.{end_at, holder, is_in}
use Rattle.tds_relay.specs.Reads.{FillsAt, MayBegin, Seen, StaysAt, answer_at, bytes_on, carried_there, fullness_at, link_at, open_at, opened_seen, seen_at, waits_on}
use Rattle.tds_relay.specs.Sparing.{HeldConnection, IsKept, StartsBehind, held_at}
use Rattle.tds_relay.specs.Taking.{IsDeaf}
use Rattle.tds_relay.specs.Ties.{pool_in}

-- It stays on each, or the connection is there no more.
pub record KeepsAnswers (old new : List Link) : Type 0 where
  pub keeps : (number : ℕ) → StaysAt (answer_at number old) (answer_at number new)

-- A message begins on this one, whatever has come there before; or it is there no more.
abbrev pub BeginsOn : ℕ → List Link → List Link → Type 0
BeginsOn number old new = StaysAt (option_map at_its_beginning (answer_at number old)) (answer_at number new)

-- On each connection that somebody holds by a lease which the service had given before, the same is
-- known of the message that comes there; or it is there no more.
abbrev pub AnewIfLent : code.Relay → code.Relay → Type 0
AnewIfLent old new = (number : ℕ) (hold : Hold)
    → find_number number new.pool.holds.items ≡ Some hold → hold.lease ≤ old.pool.service.given
    → StaysAt (answer_at number old.links.items) (answer_at number new.links.items)

-- Packets of this size are read there, set anew, and sent. Its login acknowledged these features,
-- no message has begun, and nothing waits there, nor was there anything that didn't fit.
abbrev pub IsMade : ℕ → Features → Link → Type 0
IsMade size features l =
    (l.reader.size ≡ size) × (l.answer.size ≡ size) × (l.out.size ≡ size)
    × Begins COLUMNS features l.answer.parser × (l.answer.known ≡ knowns.None)
    × (l.out.is_full ≡ false) × (bytes_on l ≡ [])

abbrev pub IsMadeOn : ℕ → Features → ℕ → List Link → Type 0
IsMadeOn size features number ls = IfSome (link_at number ls) (IsMade size features)

-- ---- Which are there

-- Each that was there is there.
abbrev pub AllLast : List Link → List Link → Type 0
AllLast old new = (number : ℕ) → waits_on number new ≡ None → waits_on number old ≡ None

-- One of these applications is to be closed, and wasn't before.
pub record HasClosed (May : ℕ → Type 0) (old new : Register) : Type 0 where
  pub key : ℕ
  pub may : May key
  pub tag : ℕ
  pub was : open_name key old ≡ Some tag
  pub closed : open_name key new ≡ None

-- Each that was there is there; or one of these applications is closed, and then any may be gone.
abbrev pub LastBut : (ℕ → Type 0) → Register → Register → Type 0
LastBut May old new = AllLast old.links new.links ⊎ HasClosed May old new

-- So is each but these, which may be there no more.
abbrev pub AllLastBut : (ℕ → Type 0) → List Link → List Link → Type 0
AllLastBut But old new = (number : ℕ) → waits_on number new ≡ None → (waits_on number old ≡ None) ⊎ But number

abbrev pub LastBesides : (ℕ → Type 0) → (ℕ → Type 0) → Register → Register → Type 0
LastBesides But May old new = AllLastBut But old.links new.links ⊎ HasClosed May old new

-- ---- Those that were there before a call, open or yet to be opened

-- It is called so still, and is open or not as it was; or it is there no more.
abbrev pub StaysCalled : Option Seen → Option Seen → Type 0
StaysCalled old None = Unit {0}
StaysCalled None (Some new) = ⊥
StaysCalled (Some old) (Some new) = (new.1 ≡ old.1) × (new.2 ≡ old.2)

-- Each whose number is one of those up to this one is called as it was, and open or not; what
-- waited there waits still, with more behind it or not; and it is as full. Or it is there no more,
-- and no other is by its number. Of these ones its reader has what it had, and what is known of a
-- message stays, or the next one begins.
pub record GivenStay (last : ℕ) (These : ℕ → Type 0) (was : ℕ → Option Seen) (old new : List Link)
    : Type 0 where
  pub called : (number : ℕ) → number ≤ last → StaysCalled (was number) (seen_at number new)
  pub seen : (number : ℕ) → number ≤ last → These number
      → StaysAt (was number) (seen_at number new)
  pub begins : (number : ℕ) → number ≤ last → These number
      → MayBegin (answer_at number old) (answer_at number new)
  pub fills : (number : ℕ) → number ≤ last
      → FillsAt (waits_on number old) (waits_on number new)
  pub fullness : (number : ℕ) → number ≤ last
      → StaysAt (fullness_at number old) (fullness_at number new)

-- what is seen on each
abbrev pub seen_in : List Link → ℕ → Option Seen
seen_in ls number = seen_at number ls

abbrev pub Any : ℕ → Type 0
Any number = Unit {0}

-- It is another one, or not open, so that nothing comes there.
abbrev pub ElseThanHeard : ℕ → List Link → ℕ → Type 0
ElseThanHeard number ls other = (other ≢ number) ⊎ (open_at number ls ≡ None)

-- The service gives no number twice. So it is with each one that the service had given;
abbrev pub KeepsGiven : code.Relay → code.Relay → Type 0
KeepsGiven old new =
    GivenStay old.pool.service.last Any (seen_in old.links.items) old.links.items new.links.items

-- where bytes come on this one;
abbrev pub HearsGiven : ℕ → code.Relay → code.Relay → Type 0
HearsGiven number old new =
    GivenStay old.pool.service.last (ElseThanHeard number old.links.items) (seen_in old.links.items)
    old.links.items new.links.items

-- and where this one is opened.
abbrev pub OpensGiven : ℕ → code.Relay → code.Relay → Type 0
OpensGiven number old new =
    GivenStay old.pool.service.last Any (λ other. opened_seen number other old.links.items)
    old.links.items new.links.items

-- Where one of these isn't open, nothing is put; or it is there no more.
pub record ShutStay (These : ℕ → Type 0) (old new : List Link) : Type 0 where
  pub stays : (number : ℕ) → These number → open_at number old ≡ None
      → (waits_on number new ≡ None) ⊎ (waits_on number new ≡ waits_on number old)

-- So it is with those that the service had given,
abbrev pub ShutGiven : code.Relay → code.Relay → Type 0
ShutGiven old new =
    ShutStay (λ number. number ≤ old.pool.service.last) old.links.items new.links.items

-- and with others than this one.
abbrev pub ShutElse : ℕ → List Link → List Link → Type 0
ShutElse number old new = ShutStay (λ other. other ≢ number) old new

-- ---- Those that are new behind it

-- It is as it was made, yet to be opened, and has no name; or none is there.
abbrev pub IsDialled : ℕ → Features → Option Link → Type 0
IsDialled size features None = Unit {0}
IsDialled size features (Some l) =
    IsMade size features l × (l.is_open ≡ false) × (l.tag ≡ None) × (l.reader.taken ≡ [])

-- Where none was, none is or such a one.
abbrev pub DialsNew : ℕ → Features → List Link → List Link → Type 0
DialsNew size features old new = (number : ℕ) → link_at number old ≡ None
    → IsDialled size features (link_at number new)

abbrev pub DialsNewAt : code.Relay → code.Relay → Type 0
DialsNewAt old new = DialsNew old.size old.features old.links.items new.links.items

-- The first one of all has come: it is called so, open, and as it was made. It stays as one does
-- that was there, and each other is new.
pub record FirstStays (tag number : ℕ) (old new : code.Relay) : Type 0 where
  pub first : Link
  pub numbered : first.number ≡ number
  pub named : first.tag ≡ Some tag
  pub is_open : first.is_open ≡ true
  pub made : IsMade old.size old.features first
  pub stays : GivenStay number Any (seen_in (first ∷ [])) (first ∷ []) new.links.items
  pub others : DialsNew old.size old.features (first ∷ []) new.links.items

-- ---- As the code has it

-- Of any numbers.
abbrev pub HearsAny : ℕ → List Link → List Link → Type 0
HearsAny number old new = (last : ℕ) → GivenStay last (ElseThanHeard number old) (seen_in old) old new

-- Such a one is there still, or none, where such a one was.
abbrev pub StaysDialled : ℕ → Features → List Link → List Link → Type 0
StaysDialled size features old new = (number : ℕ)
    → IsDialled size features (link_at number old) → IsDialled size features (link_at number new)

abbrev pub StaysDialledAt : code.Relay → code.Relay → Type 0
StaysDialledAt old new = StaysDialled old.size old.features old.links.items new.links.items

-- But on this one the same waits, and the same is known of the message that comes there;
pub record OffRest (number : ℕ) (old new : List Link) : Type 0 where
  pub rest : (other : ℕ) → other ≢ number
      → carried_there other new ≡ carried_there other old

-- but on what this application holds;
abbrev pub OffHoldRests : ℕ → code.Relay → code.Relay → Type 0
OffHoldRests key old new = (hold : Hold) → find_key key old.pool.holds.items ≡ Some hold
    → OffRest hold.number old.links.items new.links.items

-- and on each that isn't open.
pub record ShutRest (old new : List Link) : Type 0 where
  pub rest : (number : ℕ) → open_at number old ≡ None
      → carried_there number new ≡ carried_there number old

-- Or this application is to be closed.
abbrev pub LastOrDeaf : ℕ → List Link → code.Relay → Type 0
LastOrDeaf key old new = AllLast old new.links.items ⊎ IsDeaf (end_at (ends_in new.applications) key)

-- ---- What is put

-- What waited there waits, and nothing else, and is as full, and the same is known of the message that comes there; or the connection is there no
-- more.
abbrev pub KeepsWaits : ℕ → List Link → List Link → Type 0
KeepsWaits number old new = (carried_there number new ≡ None) ⊎ (carried_there number new ≡ carried_there number old)

-- Nothing is put, and no message begins anew, on the connection that somebody holds who waits for none, but on these; and where nobody held one,
-- only where somebody does now.
pub record PutsOnly (But : ℕ → Type 0) (old new : code.Relay) : Type 0 where
  pub held : (key : ℕ) (at : HeldConnection) → is_in key (pool_in old.pool).line ≡ false → held_at key old.pool ≡ Some at → But at.0 ⊎ KeepsWaits at.0 old.links.items new.links.items
  pub free : (number : ℕ) → holder (pool_in old.pool) number ≡ None
      → But number ⊎ (KeepsWaits number old.links.items new.links.items ⊎ IsSome (holder (pool_in new.pool) number))

-- ---- What one application does

-- On each connection that this one doesn't hold the same waits, the same is known of the message, and who holds it does so still.
abbrev pub OthersKeep : ℕ → List Hold → List Link → List Hold → List Link → Type 0
OthersKeep key had old holds new =
    (number : ℕ) → key_of (find_number number had) ≢ Some key → (find_number number holds ≡ find_number number had) × (carried_there number new ≡ carried_there number old)

-- Who holds a connection does so still; or it is there no more.
abbrev pub HoldsOrGone : List Hold → List Hold → List Link → Type 0
HoldsOrGone had holds new = (number : ℕ) → (find_number number holds ≡ find_number number had) ⊎ ((find_number number holds ≡ None) × (carried_there number new ≡ None))

pub record KeepsToItsOwn (key : ℕ) (had : List Hold) (old : List Link) (holds : List Hold) (new : List Link) : Type 0 where
  pub others : OthersKeep key had old holds new
  pub own : HoldsOrGone had holds new

abbrev pub IsOnItsOwn : ℕ → code.Relay → code.Relay → Type 0
IsOnItsOwn key old new = KeepsToItsOwn key old.pool.holds.items old.links.items new.pool.holds.items new.links.items

abbrev pub OthersKeepAt : ℕ → code.Relay → code.Relay → Type 0
OthersKeepAt key old new = OthersKeep key old.pool.holds.items old.links.items new.pool.holds.items new.links.items

-- They stay, or what is held of the connection of this number isn't held any more.
abbrev pub MayForget : ℕ → List Hold → List Hold → Type 0
MayForget number had holds = (holds ≡ had) ⊎ (holds ≡ without_number number had)

-- Nobody holds any more what this application held.
abbrev pub IsLetGo : ℕ → List Hold → List Hold → Type 0
IsLetGo key had holds = (hold : Hold) → find_key key had ≡ Some hold → find_number hold.number holds ≡ None

-- But on these connections the same waits, the same is known of the message, and who holds them does so still.
abbrev pub FirstKeeps : (ℕ → Type 0) → code.Relay → code.Relay → Type 0
FirstKeeps But old new = (number : ℕ)
    → But number ⊎ ((find_number number new.pool.holds.items ≡ find_number number old.pool.holds.items) × (carried_there number new.links.items ≡ carried_there number old.links.items))

-- ---- Where those who wait are lent connections

-- It was held by one of these, who wait; or who holds it does so still, nothing was put there, and no message begins anew; or it was lent.
pub data MayBeLent (number : ℕ) (line : List ℕ) (had : List Hold) (old : List Link) (holds : List Hold) (new : List Link) : Type 0 where
  OfWaiting : (hold : Hold) → find_number number had ≡ Some hold → is_in hold.key line ≡ true → MayBeLent number line had old holds new
  Keeps : find_number number holds ≡ find_number number had → KeepsWaits number old new → MayBeLent number line had old holds new
  Lends : find_number number had ≡ None → IsSome (find_number number holds) → MayBeLent number line had old holds new

abbrev pub LendsInLine : code.Relay → code.Relay → Type 0
LendsInLine old new = (number : ℕ) → MayBeLent number old.pool.line.items old.pool.holds.items old.links.items new.pool.holds.items new.links.items

-- What was kept of a request goes on behind what waited on the connection that its application is lent, once; or, where nothing of it goes
-- on, nothing is put there; or that application is to be closed. Of one that was astray nothing is said.
pub record AsksBehind (waited now : Option (List ℕ)) (old new : Body) : Type 0 where
  pub starts : StartsBehind waited old new ⊎ (old ≡ Astray)
  pub still : IsStill old → IsStill new → StaysAt waited now

-- this application, on the connection of this number
abbrev pub AsksLent : ℕ → ℕ → code.Relay → code.Relay → Type 0
AsksLent number key old new = AsksBehind (waits_on number old.links.items) (waits_on number new.links.items) (body_of key old) (body_of key new)

-- What this application asks isn't kept where this connection is open, unless what it took back isn't acknowledged yet.
abbrev pub IsAskedOn : ℕ → ℕ → code.Relay → Type 0
IsAskedOn number key r = IsKept (body_of key r) → IsTakenBack (end_at (ends_in r.applications) key) ⊎ (open_at number r.links.items ≡ None)

-- Whoever is lent a connection that was there, and that nobody held, waited, and asks so on it, where that may be.
abbrev pub LendsBehind : code.Relay → code.Relay → Type 0
LendsBehind old new = (number key : ℕ) → number ≤ old.pool.service.last → holder (pool_in old.pool) number ≡ None → holder (pool_in new.pool) number ≡ Some key
    → (is_in key old.pool.line.items ≡ true) × AsksLent number key old new × (IsStill (body_of key old) → IsAskedOn number key new)

-- This connection is that one, where somebody holds it, or another of its holder's.
abbrev pub IsWithHolder : ℕ → code.Relay → ℕ → Type 0
IsWithHolder number r other = IsSome (holder (pool_in r.pool) number) × (holder (pool_in r.pool) other ≡ holder (pool_in r.pool) number)
