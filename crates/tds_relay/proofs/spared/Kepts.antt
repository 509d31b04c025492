-- What is kept of a request isn't what goes on.
use Rattle.tds_relay.specs.Bodies.{Astray, Body, Closed, Going, Kept, Nowhere}
use Rattle.tds_relay.specs.Sparing.{IsKept, IsUnkept}

pub kept_not : (b : Body) → IsUnkept b → IsKept b → ⊥
kept_not Closed u k = k
kept_not Nowhere u k = k
kept_not (Kept kind bytes whole) u k = u
kept_not Astray u k = k
kept_not (Going number client waits) u k = k
