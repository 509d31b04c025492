-- Which connection an event is about: that of its lease, of its ticket, or the one that it names.
use Rattle.std.proofs.Common.{◌≡◌, ◌∙◌, length, map}
use Rattle.std.proofs.lemmas.List.{length-map}
use Rattle.tds_play.specs.declared.player.Player.{Player}
use Rattle.tds_play.specs.Lending.{standing_of}
use Rattle.tds_play.specs.Player.{all_of}
use Rattle.tds_play.proofs.pooled.Steps.{many_of}

-- There are as many standings as links.
pub many_standings : {E S : Type 0} (player : Player E S) → length (map standing_of (all_of player)) ≡ length player.links.items
many_standings player = length-map (all_of player) standing_of ∙ many_of player
