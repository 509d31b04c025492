-- Which connection an event is about, by its number or as the next one that is lent.
use Rattle.std.specs.Prelude.{ℕ, ◌≡◌, zero, suc, nat_lt, Bool, true, false, List, length, filter, position, if◌then◌else◌, Option, Some, None, Result, Ok, Err}
use Rattle.tds_world.specs.declared.outcome.Refusal.{Refusal}
use Rattle.tds_world.specs.declared.outcome.Refusal.TheVariants.{AllInUse}
use Rattle.tds_world.specs.declared.report.Place.{Place}
use Rattle.tds_world.specs.Connection.{Standing, In, Cut}
use Rattle.tds_world.specs.Pool.{is_free}
use Rattle.tds_world.specs.World as world
use Rattle.tds_world.specs.World.{World, numbered, next_number}
use Rattle.tds_play.specs.Seats.{Seated}

-- The connection that an event is about: none, the one at this place, counted from 0, or a new one.
pub data Found : Type 0 where
  Missing : (why : Refusal) → Found
  Here : (place : ℕ) → Found
  Opens : Found

-- The same of what a play finds by a number.
abbrev pub found_by : Result ℕ Refusal → Found
found_by (Ok place) = Here place
found_by (Err why) = Missing why

-- Where a connection stands: one that is cut is out of the pool.
abbrev pub standing_by : Bool → Place → Standing
standing_by true place = Cut
standing_by false place = In place

abbrev pub standing_of : {E S : Type 0} → Seated E S → Standing
standing_of x = standing_by x.link.is_cut x.seat.place

abbrev pub is_in_pool : Standing → Bool
is_in_pool (In place) = true
is_in_pool Cut = false

-- The first free connection; else a new one, where fewer than so many are in the pool.
abbrev pub lent_by : Option ℕ → ℕ → ℕ → Found
lent_by (Some place) count max = Here place
lent_by None count max = if nat_lt count max then Opens else Missing AllInUse

-- What the next lease gets: the free connection with the lowest number, or else a new one, if the
-- pool has room.
abbrev pub lent : List Standing → ℕ → Found
lent standings max = lent_by (position is_free standings) (length (filter is_in_pool standings)) max

-- The connection of this number, counted from 1, of so many.
abbrev pub numbered_of : ℕ → ℕ → Refusal → Found
numbered_of count zero why = Missing why
numbered_of count (suc place) why = if nat_lt place count then Here place else Missing why

-- What a lease of the play finds and what one of the model finds, in this world, are the same.
abbrev pub RefinesFound : World → Found → world.Found → Type 0
RefinesFound w (Missing why) (world.Missing because) = why ≡ because
RefinesFound w (Missing why) (world.Here n c) = ⊥
RefinesFound w (Missing why) (world.Opens n) = ⊥
RefinesFound w (Here place) (world.Missing because) = ⊥
RefinesFound w (Here place) (world.Here n c) =
    (n ≡ suc place) × (numbered w.connections n ≡ Some c)
RefinesFound w (Here place) (world.Opens n) = ⊥
RefinesFound w Opens (world.Missing because) = ⊥
RefinesFound w Opens (world.Here n c) = ⊥
RefinesFound w Opens (world.Opens n) = n ≡ next_number w.connections
