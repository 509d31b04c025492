use Rattle.std.proofs.Common.{[], refl}
use Rattle.tds_relay.proofs.bytes.Taking.{less, nothing_less}
use Rattle.tds_relay.proofs.reading.reads_packets.Goals as goal

pub returns : goal.returns
returns c = record {
  less = less c.whatever_follows.ensures c.any_cutting.ensures;
  nothing = nothing_less;
  one = λ r one other first second p q. let same = c.one_packet.ensures r.direction r.size r.taken r.taken [] [] first second one other p q refl in (same.1, same.2);
}
