use Rattle.tds_world.proofs.plays.Reports as reports
use Rattle.tds_world.proofs.report.losses.fresh_start.Goals as goal

pub returns : goal.returns
returns c = reports.fresh_start
