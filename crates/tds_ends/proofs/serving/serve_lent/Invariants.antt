use Rattle.std.proofs.Common.{◌≡◌, ◌≤◌, ◌+◌, ◌-◌, ◌*◌, length}
use Rattle.tds_packet.specs.declared.kind.Direction.TheVariants.{ToServer}
use Rattle.tds_session.specs.Answer.{answer_of}
use Rattle.tds_ends.specs.AllBytes.{new_reader}
use Rattle.tds_ends.proofs.FedServer.{Serving}
use Rattle.tds_ends.proofs.serving.serve_lent.Given as goal

abbrev pub invariant-packets : goal.invariant-packets
invariant-packets g l = record {
  engine : l.server.engine ≡ l.fn.server.engine;
  on_attention : l.server.on_attention ≡ l.fn.server.on_attention;
  within : l.count ≤ length l.piece;
  short : 8 * length l.reply.items ≤ 8 * length l.fn.reply.items + 35 * l.count;
  so_far : Serving (answer_of (g.E.Engine.statements_of l.fn.server.engine) (g.E.Engine.step_of l.fn.server.engine))
      (new_reader ToServer l.size) (new_reader ToServer l.size) l.piece l.count l.fn.server l.server l.fn.reply.items l.reply.items;
}

abbrev pub decreases-packets : goal.decreases-packets
decreases-packets g l = length l.piece - l.count
