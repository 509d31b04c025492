use Rattle.tds_state.specs.Pasts.{session_said}
use Rattle.tds_state.proofs.Resting.{parts_of}
use Rattle.tds_state.proofs.Tellings.{states_home, values_home}
use Rattle.tds_state.proofs.laws.only_where_all_is_initial.Goals as goal

pub returns-clause-states : goal.returns-clause-states
returns-clause-states c past id h few = let p = parts_of (session_said past) h in states_home past id few p.read p.states

pub returns-clause-values : goal.returns-clause-values
returns-clause-values c past type h few = let p = parts_of (session_said past) h in values_home past type few p.read p.changes
