use Rattle.std.proofs.Common.{◌≤◌, ◌-◌, length}
use Rattle.tds_packet.specs.declared.kind.Direction.TheVariants.{ToClient}
use Rattle.tds_ends.specs.AllBytes.{new_reader}
use Rattle.tds_ends.proofs.FedClient.{Listening}
use Rattle.tds_ends.proofs.listening.listen_lent.Given as goal

abbrev pub invariant-packets : goal.invariant-packets
invariant-packets l = record {
  within : l.count ≤ length l.piece;
  so_far : Listening (new_reader ToClient l.size) (new_reader ToClient l.size) l.piece l.count l.fn.client l.client l.fn.told.items l.told.items l.settled;
}

abbrev pub decreases-packets : goal.decreases-packets
decreases-packets l = length l.piece - l.count
