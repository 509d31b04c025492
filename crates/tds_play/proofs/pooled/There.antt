-- What stands at a place of a player: its number, how it is tied, and that the pool has it.
use Rattle.std.proofs.Common.{◌≡◌, ◌∙◌, ℕ, suc, ◌+◌, ◌<◌, length, List, Bool, get_or, Option, Some, false, ap}
use Rattle.std.proofs.lemmas.Option.{get_or_from_slice_get}
use Rattle.std.specs.List.{slice_get}
use Rattle.std.specs.Prelude.{option_map}
use Rattle.tds_pool.specs.Connections.{connections, numbered}
use Rattle.tds_play.specs.declared.player.Player.{Player}
use Rattle.tds_play.specs.declared.seat.Held.{Held}
use Rattle.tds_play.specs.Failures.{LiveAreSound}
use Rattle.tds_play.specs.Pipe.{BegunEvent, Pipe}
use Rattle.tds_play.specs.Player.{AreHeld, all_of}
use Rattle.tds_play.specs.Pooled.{IsThere, seated_in}
use Rattle.tds_play.specs.Seats.{Seated}
use Rattle.tds_play.specs.Ties.{AreTied, IsJustTold, IsTied, IsUnasked}
use Rattle.tds_play.proofs.Unasked.{unasked_at}
use Rattle.tds_play.proofs.pooled.Acted.{there_at}
use Rattle.tds_play.proofs.pooled.Seated.{seated_get}
use Rattle.tds_play.proofs.pooled.Steps.{within_all}
use Rattle.tds_play.proofs.pooled.Unseen.{number_at, read_at, tied_at}

pub record StandsThere {E S : Type 0} (player : Player E S) (place : ℕ) (h : Held E S) (pipes : ℕ → Option Pipe) : Type 0 where
  pub at : slice_get player.links.items place ≡ Some h
  pub number : h.link.number ≡ suc place
  pub tied : IsTied h.link (pipes h.link.number)
  pub there : IsThere h player.pool

pub stands_there : {E S : Type 0} (player : Player E S) (place : ℕ) (h : Held E S) (pipes : ℕ → Option Pipe) → AreTied (all_of player) pipes → AreHeld player → place < length player.links.items → h ≡ get_or player.links.items place h → StandsThere player place h pipes
stands_there {E} {S} player place h pipes tied held within is =
    let at : slice_get player.links.items place ≡ Some h = read_at player.links.items place h within is in
    let number : h.link.number ≡ suc place = number_at player place h pipes tied at in
    record {
      at = at;
      number = number;
      tied = tied_at player place h pipes tied at;
      there = there_at player.max player.size place player.links.items h player.pool held.pooled at number;
    }

-- Nothing was asked of its connection since the carrier was told of the event.
pub unasked_there : {E S : Type 0} {is_told : Bool} (player : Player E S) (place : ℕ) (h : Held E S) (told : List BegunEvent) (pipes : ℕ → Option Pipe)
    → AreTied (all_of player) pipes → IsJustTold is_told told pipes → LiveAreSound (all_of player) pipes → slice_get player.links.items place ≡ Some h → h.link.is_cut ≡ false → IsUnasked is_told told pipes h.link.number
unasked_there {E} {S} player place h told pipes tied just sound at live =
    let x : Seated E S = seated_in h (numbered (1 + place) (connections player.pool)) in
    let there : slice_get (all_of player) place ≡ Some x =
    seated_get 1 place player.links.items (connections player.pool)
    ∙ ap (option_map (λ (k : Held E S). seated_in k (numbered (1 + place) (connections player.pool)))) at in
    unasked_at (all_of player) place h.link.number x x told pipes just sound (within_all player place h at) (get_or_from_slice_get (all_of player) place x x there) live (number_at player place h pipes tied at)
