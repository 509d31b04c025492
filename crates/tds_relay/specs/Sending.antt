-- What waits to be sent on connections, by what whoever carries their bytes calls them, and who is ordered to be written to.
use Rattle.std.specs.Prelude.{◌≡◌, ◌⊎◌, ℕ, List, [], Option, Some, None, option_map}
use Rattle.tds_relay.specs.declared.link.Link.{Link}
use Rattle.tds_relay.specs.declared.order.Order.{Order}
use Rattle.tds_relay.specs.declared.order.Order.TheVariants as orders
use Rattle.tds_relay.specs.Ordering.{IsOrdered}
use Rattle.tds_relay.specs.Reads.{bytes_on, link_at}

-- its name, once there is one, and what waits there
abbrev pub NamedWaiting : Type 0
NamedWaiting = Option ℕ × List ℕ

abbrev pub sending_of : Link → NamedWaiting
sending_of l = (l.tag, bytes_on l)

abbrev pub sending_at : ℕ → List Link → Option NamedWaiting
sending_at number ls = option_map sending_of (link_at number ls)

abbrev pub name_in : Option NamedWaiting → Option ℕ
name_in None = None
name_in (Some s) = s.0

-- what the connection of this number is called, if it is there and has a name
abbrev pub called_at : ℕ → List Link → Option ℕ
called_at number ls = name_in (sending_at number ls)

-- Whoever carries its bytes is ordered to write them, where it has a name.
abbrev pub IsToWrite : Option ℕ → List Order → Type 0
IsToWrite None all = Unit {0}
IsToWrite (Some tag) all = IsOrdered (orders.Write tag) all

-- Nothing waits there, or this is ordered.
abbrev pub IsWritten : Option NamedWaiting → List Order → Type 0
IsWritten None all = Unit {0}
IsWritten (Some s) all = (s.1 ≡ []) ⊎ IsToWrite s.0 all
