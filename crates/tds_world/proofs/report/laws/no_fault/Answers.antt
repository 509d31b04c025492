use Rattle.tds_world.proofs.reports.NoFault as fault
use Rattle.tds_world.proofs.report.laws.no_fault.Goals as goal

pub returns : goal.returns
returns c = fault.no_fault
