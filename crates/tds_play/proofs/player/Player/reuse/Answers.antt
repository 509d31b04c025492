use Rattle.std.proofs.Common.{◌-◌, ◌<◌, length, refl, arith}
use Rattle.tds_play.proofs.pooled.Unseen.{read_at}
use Rattle.tds_play.proofs.player.Player.reuse.Goals as goal

pub returns-clause-reuses : goal.returns-clause-reuses
returns-clause-reuses g c =
    let first = c.requires.there.0 in
    let last = c.requires.there.1 in
    let within : c.args.conn - 1 < length c.args.self.now.links.items = omega (arith, first, last) in
    record {
      place = c.args.conn - 1;
      conn_is = omega (arith, first);
      was = c.index_mut.result.now;
      at = read_at c.args.self.now.links.items (c.args.conn - 1) c.index_mut.result.now within c.index_mut.ensures.value;
      links = refl;
      rest = refl;
    }
