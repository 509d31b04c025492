use Rattle.std.proofs.Common.{◌≡◌, map}
use Rattle.tds_play.specs.Links.{newest_held}
use Rattle.tds_play.proofs.player.ending.all_records.Given as goal

abbrev pub invariant-links : goal.invariant-links
invariant-links g l = map (λ v. v.items) l.records.items ≡ map newest_held l.yielded
