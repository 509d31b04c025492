use Rattle.tds_service.proofs.Spent.{refused, only}
use Rattle.tds_service.proofs.table_laws.all_in_use.Goals as goal

pub returns-clause-refused : goal.returns-clause-refused
returns-clause-refused g c = λ s h. refused _ s h

pub returns-clause-only : goal.returns-clause-only
returns-clause-only g c = λ s e h. only _ s e h
