use Rattle.std.proofs.Common.{◌≡◌, ◌≤◌, drop, length}
use Rattle.tds_wire.specs.Layout.{parts}
use Rattle.tds_rows.proofs.parts.parts_length.Given as goal

-- the parts that are left, of which there are no more than so many
abbrev pub invariant-parts : goal.invariant-parts
invariant-parts l = record {
  done : l.done ≤ length l.bytes;
  parts : parts l.most (drop l.done l.bytes) ≡ parts (length l.bytes) l.bytes;
}

abbrev pub decreases-parts : goal.decreases-parts
decreases-parts l = l.most
