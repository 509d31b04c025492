use Rattle.tds_world.proofs.reports.Reports as reports
use Rattle.tds_world.proofs.report.laws.few_underway.Goals as goal

pub returns : goal.returns
returns c = reports.few_are_shown_underway
