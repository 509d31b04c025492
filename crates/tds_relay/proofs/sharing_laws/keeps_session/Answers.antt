use Rattle.tds_relay.proofs.ends.Keeping as keeping
use Rattle.tds_relay.proofs.ends.Keeping.{by_sessions}
use Rattle.tds_relay.proofs.visits.Owned.{keeps_own}
use Rattle.tds_relay.specs.Core.{moved_all, new_core}
use Rattle.tds_relay.specs.Law.{core_behind}
use Rattle.tds_relay.proofs.sharing_laws.keeps_session.Goals as goal

pub returns-clause-moves : goal.returns-clause-moves
returns-clause-moves c = λ sharing key moves move all may mode hold e.
    by_sessions key (moved_all (new_core sharing) moves) move mode (keeping.keeps_all sharing key moves move all may hold e)

pub returns-clause-own : goal.returns-clause-own
returns-clause-own c = λ sharing key v move may mode hold e. by_sessions key (core_behind v) move mode (keeps_own sharing key v move may hold e)
