use Rattle.std.proofs.Common.{◌≡◌, ◌++◌, length}
use Rattle.tds_token.specs.Texts.{ints_of}
use Rattle.tds_token.proofs.row.values_from.Given as goal

abbrev pub invariant-values : goal.invariant-values
invariant-values l = l.values.items ++ ints_of l.rest ≡ ints_of l.bytes

abbrev pub decreases-values : goal.decreases-values
decreases-values l = length l.rest
