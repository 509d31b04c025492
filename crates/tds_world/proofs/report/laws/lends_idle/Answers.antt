use Rattle.tds_world.proofs.reports.Lends as lends
use Rattle.tds_world.proofs.report.laws.lends_idle.Goals as goal

pub returns : goal.returns
returns c = lends.lends_idle_is_shown
