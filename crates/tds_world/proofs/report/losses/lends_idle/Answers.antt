use Rattle.tds_world.proofs.plays.Reports as reports
use Rattle.tds_world.proofs.report.losses.lends_idle.Goals as goal

pub returns : goal.returns
returns c = reports.lends_idle
