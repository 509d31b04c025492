use Rattle.tds_pool.proofs.Apart.{own, lease_apart, ticket_apart}
use Rattle.tds_pool.proofs.laws.pools_are_apart.Goals as goal

pub returns-clause-own : goal.returns-clause-own
returns-clause-own c = own

pub returns-clause-lease : goal.returns-clause-lease
returns-clause-lease c = lease_apart

pub returns-clause-ticket : goal.returns-clause-ticket
returns-clause-ticket c = ticket_apart
