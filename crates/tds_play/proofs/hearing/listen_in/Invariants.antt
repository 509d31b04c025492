use Rattle.std.proofs.Common.{◌≡◌, ◌≤◌, ◌+◌, ◌-◌, length}
use Rattle.tds_packet.specs.declared.kind.Direction.TheVariants.{ToClient}
use Rattle.tds_ends.proofs.FedClient.{Listening}
use Rattle.tds_pool.specs.Cleaning.{client_at}
use Rattle.tds_pool.specs.Connections.{connections}
use Rattle.tds_play.specs.Pooled.{ChangesClient}
use Rattle.tds_play.proofs.hearing.listen_in.Given as goal

abbrev pub invariant-packets : goal.invariant-packets
invariant-packets l = record {
  reads : l.reader.direction ≡ ToClient;
  size : l.reader.size ≡ l.fn.reader.size;
  within : l.count ≤ length l.piece;
  so_far : Listening l.fn.reader l.reader l.piece l.count (client_at l.number (connections l.fn.pool)) (client_at l.number (connections l.pool)) l.fn.told.items l.told.items l.settled;
  client : ChangesClient l.number l.fn.pool l.pool;
}

abbrev pub decreases-packets : goal.decreases-packets
decreases-packets l = length l.reader.taken + (length l.piece - l.count)
