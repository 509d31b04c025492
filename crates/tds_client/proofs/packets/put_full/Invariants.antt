-- The loop over the packets.
use Rattle.std.proofs.Common.{◌≡◌, ◌≤◌, ◌+◌, ◌*◌, ◌++◌, List, ℕ, length}
use Rattle.tds_client.specs.Streams.{packets_of}
use Rattle.tds_client.proofs.packets.put_full.Given as goal

-- what is appended so far, and the packets that are still to be, are all of them
abbrev pub invariant-packets : goal.invariant-packets
invariant-packets l = record {
  all : l.out.items ++ packets_of l.filling.room l.filling.kind l.filling.mark l.before l.count l.left
      ≡ l.fn.out.items ++ packets_of l.fn.filling.room l.fn.filling.kind l.fn.filling.mark l.fn.before l.fn.count l.fn.bytes;
  more : (more : List ℕ) × (l.out.items ≡ l.fn.out.items ++ more);
  enough : l.count * l.filling.room ≤ length l.left;
  counted : l.before + l.count ≡ l.fn.before + l.fn.count;
  same : l.filling ≡ l.fn.filling;
}

abbrev pub decreases-packets : goal.decreases-packets
decreases-packets l = l.count
