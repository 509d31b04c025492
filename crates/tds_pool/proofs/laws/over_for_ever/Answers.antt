use Rattle.tds_pool.proofs.Over.{over_for_ever, lease_over, ticket_over}
use Rattle.tds_pool.proofs.laws.over_for_ever.Goals as goal

pub returns-clause-stays : goal.returns-clause-stays
returns-clause-stays c = over_for_ever

pub returns-clause-lease : goal.returns-clause-lease
returns-clause-lease c = lease_over

pub returns-clause-ticket : goal.returns-clause-ticket
returns-clause-ticket c = ticket_over
