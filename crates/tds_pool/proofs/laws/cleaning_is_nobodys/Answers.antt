use Rattle.tds_pool.proofs.Over.{cleaning_leaseless, cleaning_ticketless, next_is_not_cleaning}
use Rattle.tds_pool.proofs.laws.cleaning_is_nobodys.Goals as goal

pub returns-clause-lease : goal.returns-clause-lease
returns-clause-lease c = cleaning_leaseless

pub returns-clause-ticket : goal.returns-clause-ticket
returns-clause-ticket c = cleaning_ticketless

pub returns-clause-next : goal.returns-clause-next
returns-clause-next c = next_is_not_cleaning
