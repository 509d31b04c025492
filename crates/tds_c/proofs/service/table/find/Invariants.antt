use Rattle.std.proofs.Common.{◌≡◌, ℕ, ◌<◌, false}
use Rattle.tds_c.specs.service.Table.{met, wanted_test}
use Rattle.tds_c.proofs.service.table.find.Given as goal

abbrev pub invariant-loop-index : goal.invariant-loop-index
invariant-loop-index l = (k : ℕ) → k < l.index → met (wanted_test l.wanted) l.seats k ≡ false
