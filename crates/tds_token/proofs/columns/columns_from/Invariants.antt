use Rattle.std.proofs.Common.{◌≡◌, ◌-◌}
use Rattle.tds_token.specs.Reading.{columns_at}
use Rattle.tds_token.proofs.Skipping.{grown}
use Rattle.tds_token.proofs.columns.columns_from.Given as goal

-- what was read, and behind it what is still to be read
abbrev pub invariant-columns : goal.invariant-columns
invariant-columns l = grown l.columns.items (columns_at (l.count - l.counter) l.rest) ≡ columns_at l.count l.bytes
