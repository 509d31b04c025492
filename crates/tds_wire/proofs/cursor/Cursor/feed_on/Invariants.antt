use Rattle.tds_wire.specs.Memory.{walk_of}
use Rattle.std.proofs.Common.{◌≡◌, ◌-◌, ◌≤◌, length, drop}
use Rattle.tds_wire.specs.Bytes.{onward, standing}
use Rattle.tds_wire.specs.declared.fault.WireFault.{WireFault}
use Rattle.tds_wire.specs.declared.due.Standing.TheVariants.{Failing}
use Rattle.tds_wire.proofs.cursor.Cursor.feed_on.Given as goal

-- what is left of the piece does what all of it is to do
abbrev pub invariant-bytes : goal.invariant-bytes
invariant-bytes l = record {
  does : onward (walk_of l.fn.self l.fn.memory) l.piece ≡ onward (walk_of l.self l.memory) (drop l.done l.piece);
  within : l.done ≤ length l.piece;
  on : (fault : WireFault) → standing l.self.at.due ≡ Failing fault → ⊥;
}

abbrev pub decreases-bytes : goal.decreases-bytes
decreases-bytes l = length l.piece - l.done
