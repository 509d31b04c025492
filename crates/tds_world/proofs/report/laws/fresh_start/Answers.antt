use Rattle.tds_world.proofs.reports.Leased as leased
use Rattle.tds_world.proofs.report.laws.fresh_start.Goals as goal

pub returns : goal.returns
returns c = leased.fresh_start_is_shown
