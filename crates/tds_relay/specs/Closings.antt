-- Who is closed by a call, and that he is ordered closed.
use Rattle.std.specs.Prelude.{◌≡◌, ◌≢◌, ◌⊎◌, ◌==◌, ℕ, suc, Bool, true, false, not, List, [], ◌∷◌, Option, Some, None, if◌then◌else◌, slice_index_or, slice_set}
use Rattle.tds_packet.specs.declared.kind.Kind.{Kind}
use Rattle.tds_packet.specs.declared.kind.Kind.TheVariants as kinds
use Rattle.tds_wire.specs.declared.features.Features.{Features}
use Rattle.tds_relay.specs.declared.fault.Refused.{Refused}
use Rattle.tds_relay.specs.declared.link.Link.{Link}
use Rattle.tds_relay.specs.declared.order.Order.{Order}
use Rattle.tds_relay.specs.declared.order.Order.TheVariants as orders
use Rattle.tds_relay.specs.declared.relay.Relay as code
use Rattle.tds_relay.specs.Fronts.{ends_in}
use Rattle.tds_relay.specs.Core.{End, EndList, Open, Over, end_at, is_in}
use Rattle.tds_relay.specs.Ordering.{IsOrdered, StayOrdered}
use Rattle.tds_relay.specs.Queues.{HasAll, Queue, Queues, names_of, queue_at, queues_in}
use Rattle.tds_relay.specs.Reads.{Seen, seen_at}
use Rattle.tds_relay.specs.Sending.{IsWritten, called_at, sending_at}

-- How many connections there may be, how long packets are, and what the connections' logins acknowledge.
pub record Settings : Type 0 where
  pub most : ℕ
  pub size : ℕ
  pub features : Features

-- Which connection is the last that was closed for a packet's header, and what the relay was told of all.
pub record KeptBeside : Type 0 where
  pub refused : Option Refused
  pub settings : Settings

-- The ends of all applications, and what waits for them, by their keys; the connections; what is ordered; and what is kept beside that.
pub record Register : Type 0 where
  pub ends : EndList
  pub queues : Queues
  pub links : List Link
  pub orders : List Order
  pub kept : KeptBeside

abbrev pub settings_in : code.Relay → Settings
settings_in r = record { most = r.most; size = r.size; features = r.features }

abbrev pub register_in : code.Relay → Register
register_in r =
    record { ends = ends_in r.applications; queues = queues_in r.applications; links = r.links.items; orders = r.orders.items; kept = record { refused = r.refused; settings = settings_in r } }

-- one of them is there no more
abbrev pub without_key : ℕ → Register → Register
without_key key r = record { ends = slice_set r.ends key None; queues = slice_set r.queues key None; links = r.links; orders = r.orders; kept = r.kept }

-- these are the connections
abbrev pub with_links : List Link → Register → Register
with_links links r = record { ends = r.ends; queues = r.queues; links = links; orders = r.orders; kept = r.kept }

-- so many connections may be there
abbrev pub with_most : ℕ → Register → Register
with_most most r =
    record { ends = r.ends; queues = r.queues; links = r.links; orders = r.orders; kept = record { refused = r.kept.refused; settings = record r.kept.settings { most = most } } }

-- what waits for applications, and why a connection was closed, as another has it
abbrev pub but_told : Register → Register → Register
but_told by r = record { ends = r.ends; queues = by.queues; links = r.links; orders = r.orders; kept = record { refused = by.kept.refused; settings = r.kept.settings } }

abbrev pub name_with : Option End → Option (Option ℕ) → Option ℕ
name_with None name = None
name_with (Some (Open front withdrawn asks)) None = None
name_with (Some (Open front withdrawn asks)) (Some name) = name
name_with (Some (Over why)) name = None

-- what an application is called that isn't to be closed
abbrev pub open_name : ℕ → Register → Option ℕ
open_name key r = name_with (end_at r.ends key) (slice_index_or (names_of r.queues) key None)

-- The connection of this number is there, and isn't open yet.
abbrev pub is_shut : Option Seen → Bool
is_shut None = false
is_shut (Some seen) = not seen.1

abbrev pub is_shut_at : ℕ → Register → Bool
is_shut_at number r = is_shut (seen_at number r.links)

-- It is right to close what is called so: one of these applications is to be closed now and wasn't
-- before; or a connection is called so no more.
pub data IsDue (May : ℕ → Type 0) (tag : ℕ) (old new : Register) : Type 0 where
  OfApplication : (key : ℕ) → May key → open_name key old ≡ Some tag → open_name key new ≡ None → IsDue May tag old new
  OfConnection : (number : ℕ) → called_at number old.links ≡ Some tag → called_at number new.links ≡ None → IsDue May tag old new

-- ---- How often

pub data Named : Type 0 where
  AnApplication : (key : ℕ) → Named
  AConnection : (number : ℕ) → Named

-- what an application is called that isn't to be closed, or a connection that is there
abbrev pub name_in_register : Named → Register → Option ℕ
name_in_register (AnApplication key) r = open_name key r
name_in_register (AConnection number) r = called_at number r.links

-- Nothing but one is called so.
abbrev pub IsOneCalled : ℕ → Register → Type 0
IsOneCalled tag r = (x y : Named) → name_in_register x r ≡ Some tag → name_in_register y r ≡ Some tag → x ≡ y

-- how often what is called so is ordered closed
abbrev pub times_closed : ℕ → List Order → ℕ
times_closed tag [] = 0
times_closed tag (orders.Open number ∷ all) = times_closed tag all
times_closed tag (orders.Write named ∷ all) = times_closed tag all
times_closed tag (orders.Close named ∷ all) = if named == tag then suc (times_closed tag all) else times_closed tag all

-- As often as before; or once more, where one was called so, and nothing is now.
abbrev pub ClosesOnce : ℕ → Register → Register → Type 0
ClosesOnce tag old new =
    (times_closed tag new.orders ≡ times_closed tag old.orders)
    ⊎ ((times_closed tag new.orders ≡ suc (times_closed tag old.orders)) × ((x : Named) × (name_in_register x old ≡ Some tag)) × ((x : Named) → name_in_register x new ≢ Some tag))

-- ---- What is done

-- All that waits for whoever is called so fits, and is ordered to be written.
abbrev pub IsToWriteAll : Option ℕ → Option Queue → List Order → Type 0
IsToWriteAll None queue all = Unit {0}
IsToWriteAll (Some tag) queue all = HasAll queue × IsOrdered (orders.Write tag) all

-- What was ordered stays so. Whoever is to be closed now and wasn't before is one of these, and is ordered closed; and a connection that is to
-- be opened now and wasn't before is ordered opened. Why one was closed for a packet's header is told as before; as many may be
-- there, packets are as long, and the logins acknowledge the same.
pub record ClosesOnly (May : ℕ → Type 0) (old new : Register) : Type 0 where
  pub ordered : StayOrdered old.orders new.orders
  pub told : new.kept ≡ old.kept
  pub closes : (key tag : ℕ) → open_name key old ≡ Some tag → (open_name key new ≡ Some tag) ⊎ (May key × IsOrdered (orders.Close tag) new.orders)
  pub opens : (number : ℕ) → is_shut_at number new ≡ true → (is_shut_at number old ≡ true) ⊎ IsOrdered (orders.Open number) new.orders
  -- a connection that is called so no more is ordered closed; and nobody else is than those, and
  -- these applications
  pub cuts : (number tag : ℕ) → called_at number old.links ≡ Some tag → (called_at number new.links ≡ Some tag) ⊎ IsOrdered (orders.Close tag) new.orders
  pub due : (tag : ℕ) → IsOrdered (orders.Close tag) new.orders → IsOrdered (orders.Close tag) old.orders ⊎ IsDue May tag old new
  -- and each once, where no two are called so
  pub once : (tag : ℕ) → IsOneCalled tag old → ClosesOnce tag old new
  -- whoever something more waits for is ordered written to, and all of it fits; so is each connection on which more waits
  pub writes : (key : ℕ) → (queue_at new.queues key ≡ queue_at old.queues key) ⊎ IsToWriteAll (open_name key new) (queue_at new.queues key) new.orders
  pub writes_on : (number : ℕ) → (sending_at number new.links ≡ sending_at number old.links) ⊎ IsWritten (sending_at number new.links) new.orders
  -- nobody comes, and none is called anew
  pub were_open : (key tag : ℕ) → open_name key new ≡ Some tag → open_name key old ≡ Some tag
  pub were_called : (number tag : ℕ) → called_at number new.links ≡ Some tag → called_at number old.links ≡ Some tag

-- packets of this type are no request
abbrev pub IsNoRequest : Kind → Type 0
IsNoRequest kinds.Answer = Unit {0}
IsNoRequest kinds.Attention = Unit {0}
IsNoRequest _ = ⊥

-- ---- Whom it may close

abbrev pub NoKey : ℕ → Type 0
NoKey other = ⊥

abbrev pub Itself : ℕ → ℕ → Type 0
Itself key other = other ≡ key

abbrev pub IsWho : Option ℕ → ℕ → Type 0
IsWho who other = who ≡ Some other

-- whose requests wait for a connection
abbrev pub IsWaiting : List ℕ → ℕ → Type 0
IsWaiting line other = is_in other line ≡ true

-- What comes of a connection closes who holds that, or who waits and is lent one.
abbrev pub WhoOrWaiting : Option ℕ → List ℕ → ℕ → Type 0
WhoOrWaiting who line other = IsWho who other ⊎ IsWaiting line other
