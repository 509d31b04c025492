use Rattle.tds_world.proofs.plays.Reports as reports
use Rattle.tds_world.proofs.report.losses.nothing_after_cancel.Goals as goal

pub returns : goal.returns
returns c = reports.nothing_after_cancel
