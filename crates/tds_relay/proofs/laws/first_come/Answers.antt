use Rattle.tds_relay.proofs.held.Lining.{keeps_order, lends_first}
use Rattle.tds_relay.proofs.laws.first_come.Goals as goal

pub returns-clause-first : goal.returns-clause-first
returns-clause-first c = lends_first

pub returns-clause-order : goal.returns-clause-order
returns-clause-order c = keeps_order
