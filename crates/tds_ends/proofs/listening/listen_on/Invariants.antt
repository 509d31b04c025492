use Rattle.std.proofs.Common.{◌≡◌, ◌≤◌, ◌+◌, ◌-◌, length}
use Rattle.tds_packet.specs.declared.kind.Direction.TheVariants.{ToClient}
use Rattle.tds_ends.specs.Light.{TellsEmpty}
use Rattle.tds_ends.proofs.FedClient.{Listening}
use Rattle.tds_ends.proofs.listening.listen_on.Given as goal

abbrev pub invariant-packets : goal.invariant-packets
invariant-packets l = record {
  reads : l.reader.direction ≡ ToClient;
  size : l.reader.size ≡ l.fn.reader.size;
  within : l.count ≤ length l.piece;
  empty : TellsEmpty l.fn.was_empty l.fn.reader.taken → TellsEmpty l.is_empty l.reader.taken;
  so_far : Listening l.fn.reader l.reader l.piece l.count l.fn.client l.client l.fn.told.items l.told.items l.settled;
}

abbrev pub decreases-packets : goal.decreases-packets
decreases-packets l = length l.reader.taken + (length l.piece - l.count)
