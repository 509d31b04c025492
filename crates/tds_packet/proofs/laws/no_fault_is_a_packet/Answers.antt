use Rattle.tds_packet.proofs.Lawful.{no_fault_is_a_packet}
use Rattle.tds_packet.proofs.laws.no_fault_is_a_packet.Goals as goal

pub returns : goal.returns
returns c = no_fault_is_a_packet
