use Rattle.tds_world.proofs.requests.OwnTransactions as own
use Rattle.tds_world.proofs.laws.own_transaction.Goals as goal

pub returns : goal.returns
returns c = own.own_transaction
