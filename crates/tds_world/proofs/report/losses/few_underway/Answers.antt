use Rattle.tds_world.proofs.plays.Reports as reports
use Rattle.tds_world.proofs.report.losses.few_underway.Goals as goal

pub returns : goal.returns
returns c = reports.few_underway
