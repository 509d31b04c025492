use Rattle.tds_world.proofs.reports.Tickets as tickets
use Rattle.tds_world.proofs.report.laws.kept_transaction.Goals as goal

pub returns : goal.returns
returns c = tickets.kept_transaction_is_shown
