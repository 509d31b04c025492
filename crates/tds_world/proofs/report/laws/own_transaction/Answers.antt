use Rattle.tds_world.proofs.reports.OwnShown as shown
use Rattle.tds_world.proofs.report.laws.own_transaction.Goals as goal

pub returns : goal.returns
returns c = shown.own_transactions_are_shown
