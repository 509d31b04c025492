use Rattle.tds_relay.proofs.bytes.Rereading.{reads_called, reads_came, reads_new, visits}
use Rattle.tds_relay.proofs.laws.read_from_new.Goals as goal

pub returns-clause-new : goal.returns-clause-new
returns-clause-new c = reads_new

pub returns-clause-called : goal.returns-clause-called
returns-clause-called c = reads_called

pub returns-clause-came : goal.returns-clause-came
returns-clause-came c = reads_came

pub returns-clause-visit : goal.returns-clause-visit
returns-clause-visit c = visits
