-- The loop over the units of a text.
use Rattle.std.proofs.Common.{◌≡◌, ◌++◌, ◌+◌, ◌*◌, ◌-◌, ◌≤◌, length, take}
use Rattle.std.specs.Vec.{vec_len, vec_capacity}
use Rattle.tds_request.specs.Layout.{text_bytes}
use Rattle.tds_request.proofs.encoding.put_units.Given as goal

-- the units so far are spelled, and there is room for the others
abbrev pub invariant-units : goal.invariant-units
invariant-units l = record {
  spelled : l.out.items ≡ l.fn.out.items ++ text_bytes (take l.unit-index l.units);
  room : vec_len l.out + 2 * (length l.units - l.unit-index) ≤ vec_capacity l.out;
}
