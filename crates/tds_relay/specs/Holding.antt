-- Who holds what, found by application, by lease and by connection: beside the list, in the order of lending, stand three by rising
-- numbers.
use Rattle.std.specs.Prelude.{◌≡◌, ℕ, ◌==◌, List, filter}
use Rattle.tds_relay.specs.declared.pool.Hold.{Hold}
use Rattle.tds_relay.specs.declared.index.Indexed.{Indexed}
use Rattle.tds_relay.specs.Sorted.{Climbs, ids_in, under}

-- what is held, in the order of lending, and for how many more there is room
pub record Held : Type 0 where
  pub items : List Hold
  pub room : ℕ

-- these stand by ids that don't fall, and under each is what has it, in the order of lending
pub record IsIndexBy (id_of : Hold → ℕ) (hs : List Hold) (es : List (Indexed Hold)) : Type 0 where
  pub climbs : Climbs (ids_in es)
  pub finds : (id : ℕ) → under id es ≡ filter (λ (h : Hold). id_of h == id) hs

abbrev pub key_in : Hold → ℕ
key_in h = h.key

abbrev pub lease_in : Hold → ℕ
lease_in h = h.lease

abbrev pub number_in : Hold → ℕ
number_in h = h.number

pub record AreIndexed (hs : List Hold) (keys leases numbers : List (Indexed Hold)) : Type 0 where
  pub by_key : IsIndexBy key_in hs keys
  pub by_lease : IsIndexBy lease_in hs leases
  pub by_number : IsIndexBy number_in hs numbers
