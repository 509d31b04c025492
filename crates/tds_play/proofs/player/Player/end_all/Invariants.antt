use Rattle.std.proofs.Common.{◌≡◌}
use Rattle.tds_play.specs.Holdings.{all_ended}
use Rattle.tds_play.proofs.pooled.Closing.{LosesNone, ended_to}
use Rattle.tds_play.proofs.player.Player.end_all.Given as goal

abbrev pub invariant-leases : goal.invariant-leases
invariant-leases g l = record {
  leases : l.self.leases ≡ ended_to l.place l.fn.self.leases;
  rest : l.self ≡ record l.fn.self { pool = l.self.pool; leases = l.self.leases };
  pool : LosesNone l.fn.self.pool l.self.pool;
}

abbrev pub invariant-tickets : goal.invariant-tickets
invariant-tickets g l = record {
  leases : l.self.leases ≡ all_ended l.fn.self.leases;
  tickets : l.self.tickets ≡ ended_to l.place l.fn.self.tickets;
  rest : l.self ≡ record l.fn.self { pool = l.self.pool; leases = l.self.leases; tickets = l.self.tickets };
  pool : LosesNone l.fn.self.pool l.self.pool;
}
