use Rattle.tds_c.specs.Packets.{HaveFronts}
use Rattle.tds_c.proofs.packets.read_fronts.Given as goal

abbrev pub invariant-packets : goal.invariant-packets
invariant-packets l = HaveFronts l.direction l.size l.bytes l.rest (record { before = l.fn.packets; after = l.packets; count = l.i })
