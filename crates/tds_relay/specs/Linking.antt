-- Connections, found by their numbers: beside the list, in the order in which they came, stand their places by rising numbers.
use Rattle.std.specs.Prelude.{◌≡◌, ℕ, List, length}
use Rattle.tds_relay.specs.declared.index.Indexed.{Indexed}
use Rattle.tds_relay.specs.declared.link.Link.{Link}
use Rattle.tds_relay.specs.Reads.{place_of}
use Rattle.tds_relay.specs.Sorted.{Climbs, first, ids_in, under}

-- the connections, in the order in which they came
pub record Linked : Type 0 where
  pub items : List Link

-- Each has an entry, these stand by numbers that don't fall, and what stands first under a number is the place of the first that has it.
pub record ArePlaced (ls : List Link) (es : List (Indexed ℕ)) : Type 0 where
  pub climbs : Climbs (ids_in es)
  pub count : length es ≡ length ls
  pub finds : (number : ℕ) → first (under number es) ≡ place_of number ls
