use Rattle.tds_service.proofs.Spent.{fresh, rises, spent, with_unknown, ticket_fresh, ticket_spent, with_no_ticket}
use Rattle.tds_service.proofs.table_laws.never_again.Goals as goal

pub returns-clause-fresh : goal.returns-clause-fresh
returns-clause-fresh g c = λ s call lease number had e. fresh s call lease number had e

pub returns-clause-rises : goal.returns-clause-rises
returns-clause-rises g c = λ s calls. rises s calls

pub returns-clause-spent : goal.returns-clause-spent
returns-clause-spent g c = λ s calls lease lt h. spent s calls lease lt h

pub returns-clause-unknown : goal.returns-clause-unknown
returns-clause-unknown g c = λ s call lease is h. with_unknown _ s call lease is h

pub returns-clause-ticket_fresh : goal.returns-clause-ticket_fresh
returns-clause-ticket_fresh g c = λ s call ticket e. ticket_fresh s call ticket e

pub returns-clause-ticket_spent : goal.returns-clause-ticket_spent
returns-clause-ticket_spent g c = λ s calls ticket lt h. ticket_spent s calls ticket lt h

pub returns-clause-ticket_unknown : goal.returns-clause-ticket_unknown
returns-clause-ticket_unknown g c = λ s call ticket is h. with_no_ticket _ s call ticket is h
