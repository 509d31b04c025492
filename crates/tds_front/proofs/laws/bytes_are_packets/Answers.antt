use Rattle.tds_front.proofs.Packets.{fits}
use Rattle.tds_front.proofs.laws.bytes_are_packets.Goals as goal

pub returns-clause-stage : goal.returns-clause-stage
returns-clause-stage c = λ front bytes. (fits front bytes).0

pub returns-clause-says : goal.returns-clause-says
returns-clause-says c = λ front bytes. (fits front bytes).1

pub returns-clause-ends : goal.returns-clause-ends
returns-clause-ends c = λ front bytes. (fits front bytes).2
