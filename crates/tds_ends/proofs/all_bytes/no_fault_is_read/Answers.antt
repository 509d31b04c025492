use Rattle.tds_ends.proofs.AllBytes.{read_lawful}
use Rattle.tds_ends.proofs.all_bytes.no_fault_is_read.Goals as goal

pub returns : goal.returns
returns c = read_lawful c.one_packet.ensures c.fronts.ensures
