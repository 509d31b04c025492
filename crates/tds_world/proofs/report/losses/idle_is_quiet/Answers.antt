use Rattle.tds_world.proofs.plays.Reports as reports
use Rattle.tds_world.proofs.report.losses.idle_is_quiet.Goals as goal

pub returns : goal.returns
returns c = reports.idle_is_quiet
