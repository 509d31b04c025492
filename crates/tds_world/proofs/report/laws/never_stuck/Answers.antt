use Rattle.tds_world.proofs.reports.Rest as rest
use Rattle.tds_world.proofs.report.laws.never_stuck.Goals as goal

pub returns : goal.returns
returns c = rest.never_stuck_is_shown
