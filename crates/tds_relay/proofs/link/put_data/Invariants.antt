use Rattle.std.proofs.Common.{length}
use Rattle.tds_relay.proofs.bytes.Anew.{Laid}
use Rattle.tds_relay.proofs.link.put_data.Given as goal

abbrev pub decreases-packets : goal.decreases-packets
decreases-packets l = length l.rest

abbrev pub invariant-packets : goal.invariant-packets
invariant-packets l = Laid l.fn.size l.packet_id l.fn.on.items l.on.items l.fn.«data» l.rest
