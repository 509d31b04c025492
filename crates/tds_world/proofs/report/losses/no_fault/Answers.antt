use Rattle.tds_world.proofs.plays.Reports as reports
use Rattle.tds_world.proofs.report.losses.no_fault.Goals as goal

pub returns : goal.returns
returns c = reports.no_fault
