use Rattle.std.proofs.Common.{◌≡◌, ◌≤◌, ◌+◌, ◌-◌, ◌*◌}
use Rattle.tds_wire.specs.Told.{digits}
use Rattle.tds_wire.proofs.told.reading.digits.Given as goal

-- the digits that are left go on with the number so far
abbrev pub invariant-digits : goal.invariant-digits
invariant-digits l = record {
  does : digits l.fn.count l.fn.head 5 0 ≡ digits (l.fn.count - l.place) l.fn.head (5 + 2 * l.place) l.value;
  within : l.place ≤ l.fn.count;
}

abbrev pub decreases-digits : goal.decreases-digits
decreases-digits l = l.fn.count - l.place
