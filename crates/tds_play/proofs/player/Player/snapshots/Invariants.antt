use Rattle.std.proofs.Common.{◌≡◌, take}
use Rattle.std.specs.List.{filter_map}
use Rattle.tds_pool.specs.Calls.{all_numbers}
use Rattle.tds_pool.specs.Connections.{connections}
use Rattle.tds_play.specs.Player.{all_of}
use Rattle.tds_play.specs.Seen.{seen_at}
use Rattle.tds_play.proofs.player.Player.snapshots.Given as goal

abbrev pub invariant-numbers : goal.invariant-numbers
invariant-numbers g l =
    l.snapshots.items ≡ filter_map (seen_at (all_of l.self)) (take l.number-index (all_numbers (connections l.self.pool)))
