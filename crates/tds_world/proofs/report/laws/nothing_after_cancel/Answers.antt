use Rattle.tds_world.proofs.reports.NoMore as more
use Rattle.tds_world.proofs.report.laws.nothing_after_cancel.Goals as goal

pub returns : goal.returns
returns c = more.nothing_after_cancel_is_shown
