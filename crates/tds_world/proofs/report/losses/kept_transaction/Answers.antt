use Rattle.tds_world.proofs.plays.Reports as reports
use Rattle.tds_world.proofs.report.losses.kept_transaction.Goals as goal

pub returns : goal.returns
returns c = reports.kept_transaction
