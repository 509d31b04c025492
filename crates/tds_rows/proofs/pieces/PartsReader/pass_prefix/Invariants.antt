use Rattle.std.proofs.Common.{◌-◌, ◌≡◌, ◌≤◌, [], length, take}
use Rattle.tds_rows.specs.Pieces.{own_bytes, parts_after, parts_at}
use Rattle.tds_rows.proofs.pieces.PartsReader.pass_prefix.Given as goal

abbrev pub invariant-prefix : goal.invariant-prefix
invariant-prefix l = record {
  to : parts_after (parts_at l.fn.self) (take l.done l.bytes) ≡ parts_at l.self;
  own : own_bytes (parts_at l.fn.self) (take l.done l.bytes) ≡ [];
  within : l.done ≤ length l.bytes;
}

abbrev pub decreases-prefix : goal.decreases-prefix
decreases-prefix l = length l.bytes - l.done
