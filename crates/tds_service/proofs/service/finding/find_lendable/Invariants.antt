use Rattle.std.proofs.Common.{◌≡◌, ℕ, ◌<◌, false}
use Rattle.tds_service.specs.Service.{is_lendable}
use Rattle.tds_service.specs.Table.{met}
use Rattle.tds_service.proofs.service.finding.find_lendable.Given as goal

abbrev pub invariant-loop-index : goal.invariant-loop-index
invariant-loop-index l = (k : ℕ) → k < l.index → met is_lendable l.seats k ≡ false
