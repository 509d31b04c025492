use Rattle.std.proofs.Common.{◌≡◌, ◌-◌}
use Rattle.tds_token.specs.Reading.{after_of, columns_at}
use Rattle.tds_token.proofs.reading.tables.skip_columns.Given as goal

abbrev pub invariant-columns : goal.invariant-columns
invariant-columns l = after_of (columns_at (l.count - l.counter) l.rest) ≡ after_of (columns_at l.count l.bytes)
