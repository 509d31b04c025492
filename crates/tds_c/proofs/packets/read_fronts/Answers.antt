use Rattle.tds_c.proofs.Fronts.{fronts_on, no_fronts}
use Rattle.tds_c.proofs.packets.read_fronts.Goals as goal

pub packets-init : goal.packets-init
packets-init c = no_fronts c.args.direction c.args.size c.args.bytes.now c.args.packets.now

pub packets-preserved : goal.packets-preserved
packets-preserved c =
    fronts_on _ _ _ _ _ _ _ _ _ _ _ c.packets-test.true c.in-Ok.ensures.packet c.packet_of.ensures (rw c.from.ensures at c.behind-rest.ensures) c.packets.invariant
