-- What is to be done stays so, in order, until it is taken: no call takes any of it away but `orders`.
use Rattle.std.specs.Prelude.{◌≡◌, ◌<◌, ◌≤◌, ◌+◌, ℕ, suc, length, Bool, true, false, List, [], ◌∷◌, ◌++◌, Option, Some, None}
use Rattle.tds_relay.specs.declared.order.Order.{Order}
use Rattle.tds_relay.specs.declared.order.Order.TheVariants as orders
use Rattle.tds_relay.specs.declared.relay.Relay as code

-- More may be behind it.
abbrev pub StayOrdered : List Order → List Order → Type 0
StayOrdered old new = (more : List Order) × (new ≡ old ++ more)

pub record IsOrdered (order : Order) (all : List Order) : Type 0 where
  pub before : List Order
  pub behind : List Order
  pub are : all ≡ before ++ order ∷ behind

-- ---- Which connections are opened

-- those that are ordered opened, in order
abbrev pub opens_in : List Order → List ℕ
opens_in [] = []
opens_in (orders.Open number ∷ all) = number ∷ opens_in all
opens_in (orders.Write tag ∷ all) = opens_in all
opens_in (orders.Close tag ∷ all) = opens_in all

-- They rise between these two.
abbrev pub Rise : ℕ → ℕ → List ℕ → Type 0
Rise low high [] = low ≤ high
Rise low high (n ∷ ns) = (low < n) × Rise n high ns

-- More were ordered opened since, each once, and by a number that none had before.
pub record OpensNew (old new : code.Relay) : Type 0 where
  pub more : List ℕ
  pub are : opens_in new.orders.items ≡ opens_in old.orders.items ++ more
  pub rise : Rise old.pool.service.last new.pool.service.last more

-- More were ordered opened since, each once, and by a number above this one.
pub record OpensAbove (number : ℕ) (old new : code.Relay) : Type 0 where
  pub more : List ℕ
  pub are : opens_in new.orders.items ≡ opens_in old.orders.items ++ more
  pub rise : Rise number new.pool.service.last more

-- As many more as were ordered opened since have come to be there, at most.
abbrev pub GrowsByOrders : code.Relay → code.Relay → Type 0
GrowsByOrders old new = length new.links.items + length (opens_in old.orders.items) ≤ length old.links.items + length (opens_in new.orders.items)

-- So it is where none is brought; where one is, that has come besides.
abbrev pub GrowsBrought : Option ℕ → code.Relay → code.Relay → Type 0
GrowsBrought None old new = GrowsByOrders old new
GrowsBrought (Some number) old new =
    length new.links.items + length (opens_in old.orders.items) ≤ suc (length old.links.items + length (opens_in new.orders.items))

-- One that somebody had before isn't opened, a new one is.
abbrev pub opens_if : Bool → ℕ → List ℕ
opens_if true number = []
opens_if false number = number ∷ []
