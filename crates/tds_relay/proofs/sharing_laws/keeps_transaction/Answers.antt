use Rattle.tds_relay.proofs.ends.Keeping as keeping
use Rattle.tds_relay.proofs.visits.Owned.{keeps_own}
use Rattle.tds_relay.proofs.sharing_laws.keeps_transaction.Goals as goal

pub returns-clause-moves : goal.returns-clause-moves
returns-clause-moves c = keeping.keeps_all

pub returns-clause-own : goal.returns-clause-own
returns-clause-own c = λ sharing key v move may. keeps_own sharing key v move may
