use Rattle.std.proofs.Common.{length, take, ◌-◌, ◌≡◌, ◌≤◌}
use Rattle.tds_wire.specs.Lent.{head_of}
use Rattle.tds_wire.specs.Reading.{kept}
use Rattle.tds_wire.proofs.head.Head.keep.Given as goal

-- so far all have been kept, or as many as there is room for
abbrev pub invariant-bytes : goal.invariant-bytes
invariant-bytes l = record {
  items : head_of l.self ≡ kept (head_of l.fn.self) (take l.place l.bytes);
  within : l.place ≤ length l.bytes;
}

abbrev pub decreases-bytes : goal.decreases-bytes
decreases-bytes l = length l.bytes - l.place
