use Rattle.tds_pool.proofs.History.{never_again, lease_unknown, ticket_unknown}
use Rattle.tds_pool.proofs.laws.never_again.Goals as goal

pub returns-clause-number : goal.returns-clause-number
returns-clause-number c = never_again

pub returns-clause-lease : goal.returns-clause-lease
returns-clause-lease c = lease_unknown

pub returns-clause-ticket : goal.returns-clause-ticket
returns-clause-ticket c = ticket_unknown
