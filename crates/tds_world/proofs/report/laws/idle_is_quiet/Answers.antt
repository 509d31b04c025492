use Rattle.tds_world.proofs.reports.Reports as reports
use Rattle.tds_world.proofs.report.laws.idle_is_quiet.Goals as goal

pub returns : goal.returns
returns c = reports.idle_is_shown_quiet
