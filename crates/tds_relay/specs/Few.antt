-- How many connections there may be, which a call of its own changes: none is opened where as many are there; and which there are: the
-- service has those that the relay has, by their numbers, and no other.
use Rattle.std.specs.Prelude.{◌≡◌, ◌≤◌, ◌<◌, ◌+◌, ◌⊎◌, ℕ, suc, Bool, true, false, List, [], None, is_some, length, ◌≢◌, Option, Some, ◌&&◌}
use Rattle.tds_service.specs.Service.{find_by, is_lendable, Seat, Service, has_lease, seat_numbered}
use Rattle.tds_relay.specs.declared.link.Link.{Link}
use Rattle.tds_relay.specs.declared.relay.Relay as code
use Rattle.tds_relay.specs.Pool.{Pool}
use Rattle.tds_relay.specs.Promises.{one_if}
use Rattle.tds_relay.specs.Reads.{waits_on}
use Rattle.tds_relay.specs.Ties.{IsServed, pool_in, IsReached}
use Rattle.tds_relay.specs.declared.pool.coming.Heard.{Heard}
use Rattle.tds_relay.specs.declared.pool.coming.What.{What}
use Rattle.tds_relay.specs.declared.pool.coming.What.TheVariants as whats
use Rattle.tds_relay.specs.declared.pool.leaving.Left.{Left}
use Rattle.tds_relay.specs.declared.pool.leaving.Renewed.{Renewed}
use Rattle.tds_relay.specs.declared.pool.leaving.Renewed.TheVariants as renewals
use Rattle.tds_relay.specs.Told.{is_there}

-- whether one is free
abbrev pub has_free : Pool → Bool
has_free d = is_some (find_by is_lendable d.service.seats)

-- As many are there as may be, and none is free.
pub record IsCrowded (most : ℕ) (links : List Link) (d : Pool) : Type 0 where
  pub many : most ≤ length links
  pub none : has_free d ≡ false

-- Nobody waits, or as many are in use as may be: by the service's own number, or by this one.
abbrev pub NobodyWaits : code.Relay → Type 0
NobodyWaits r = IsServed (pool_in r.pool).line (pool_in r.pool).service ⊎ IsCrowded r.most r.links.items (pool_in r.pool)

-- Nobody waits, fewer are there than may be, or one is free.
abbrev pub MayServe : ℕ → List Link → Pool → Type 0
MayServe most links d = (d.line ≡ []) ⊎ ((length links < most) ⊎ (has_free d ≡ true))

-- None is there that wasn't.
abbrev pub NoneNew : List Link → List Link → Type 0
NoneNew old new = (number : ℕ) → waits_on number old ≡ None → waits_on number new ≡ None

-- None is there that wasn't; or none since there were no more than may be.
abbrev pub Few : ℕ → List Link → List Link → Type 0
Few most old new = NoneNew old new ⊎ ((then : List Link) × (length then ≤ most) × NoneNew then new)

-- One that somebody had before was lent, or a new one.
abbrev pub FewBy : Bool → List Link → List Link → Type 0
FewBy true old new = NoneNew old new
FewBy false old new = length new ≡ suc (length old)

-- ---- Which there are

-- whether a service has a connection of this number
abbrev pub has_seat : ℕ → Service → Bool
has_seat number s = is_some (seat_numbered number s.seats)

-- The pool was reached by events, and its service has a connection of each number of these, and of no other number; there are no more of these
-- than it has, so that each is there once.
pub record AreSeated (d : Pool) (ls : List Link) : Type 0 where
  pub reached : IsReached d
  pub each : (number : ℕ) → has_seat number d.service ≡ is_there number ls
  pub few : length ls ≤ length d.service.seats

abbrev pub IsSeated : code.Relay → Type 0
IsSeated r = AreSeated (pool_in r.pool) r.links.items

-- ---- Where one comes or goes

-- So it is with all but this one,
pub record AreSeatedOff (number : ℕ) (d : Pool) (ls : List Link) : Type 0 where
  pub reached : IsReached d
  pub others : (other : ℕ) → other ≢ number → has_seat other d.service ≡ is_there other ls
  pub few : length ls + one_if (has_seat number d.service) ≤ length d.service.seats + one_if (is_there number ls)

abbrev pub IsSeatedOff : ℕ → code.Relay → Type 0
IsSeatedOff number r = AreSeatedOff number (pool_in r.pool) r.links.items

-- which the service has or not; where it has it, none of these is of its number.
pub record AreSeatedBut (number : ℕ) (has : Bool) (d : Pool) (ls : List Link) : Type 0 where
  pub off : AreSeatedOff number d ls
  pub here : has_seat number d.service ≡ has
  pub new : has ≡ true → is_there number ls ≡ false

abbrev pub IsSeatedBut : ℕ → Bool → code.Relay → Type 0
IsSeatedBut number has r = AreSeatedBut number has (pool_in r.pool) r.links.items

-- with this one too, or not
abbrev pub IsSeatedIf : Bool → ℕ → Bool → code.Relay → Type 0
IsSeatedIf true number has r = IsSeated r
IsSeatedIf false number has r = IsSeatedBut number has r

-- whether the connection is there behind what was heard of a packet
abbrev pub is_left : What → Bool
is_left whats.Goes = true
is_left whats.Finished = true
is_left whats.Acknowledged = true
is_left whats.Closed = false

abbrev pub IsSeatedBehind : Option Heard → ℕ → code.Relay → Type 0
IsSeatedBehind None number r = IsSeated r
IsSeatedBehind (Some heard) number r = IsSeatedIf (is_left heard.what) number false r

-- One fewer at least is there, where this one was; else no more.
abbrev pub TakenOut : ℕ → List Link → List Link → Type 0
TakenOut number old new = length new + one_if (is_there number old) ≤ length old

-- ---- In a service

-- It has the connections that it had.
abbrev pub KeepsSeats : Service → Service → Type 0
KeepsSeats old new = (number : ℕ) → has_seat number new ≡ has_seat number old

-- So it has all others; and this one, where it had that and it stays.
pub record SeatStays (stays : Bool) (number : ℕ) (old new : Service) : Type 0 where
  pub here : has_seat number new ≡ (stays && has_seat number old)
  pub others : (other : ℕ) → other ≢ number → has_seat other new ≡ has_seat other old

-- and this one, or not
pub record SeatIs (has : Bool) (number : ℕ) (old new : Service) : Type 0 where
  pub here : has_seat number new ≡ has
  pub others : (other : ℕ) → other ≢ number → has_seat other new ≡ has_seat other old

-- What this lease holds is the connection of this number.
abbrev pub HasNumber : ℕ → ℕ → Service → Type 0
HasNumber lease number s = (c : Seat) → find_by (has_lease lease) s.seats ≡ Some c → c.number ≡ number

-- A connection that is let go stays, or is there no more;
abbrev pub LeavesSeat : Option Left → Service → Service → Type 0
LeavesSeat None old new = KeepsSeats old new
LeavesSeat (Some left) old new = SeatStays left.is_there left.number old new

-- one that is brought is there, or was given up;
abbrev pub BringsSeat : Option Left → Service → Service → Type 0
BringsSeat None old new = KeepsSeats old new
BringsSeat (Some left) old new = SeatIs left.is_there left.number old new

-- one that is renewed stays;
abbrev pub RenewsSeat : Renewed → Service → Service → Type 0
RenewsSeat (renewals.Kept hold) old new = KeepsSeats old new
RenewsSeat renewals.NotKept old new = KeepsSeats old new

-- and so does one of which a packet was heard.
abbrev pub HearsSeat : Option Heard → ℕ → Service → Service → Type 0
HearsSeat None number old new = KeepsSeats old new
HearsSeat (Some heard) number old new = SeatStays (is_left heard.what) number old new
