use Rattle.tds_session.specs.Laws.Sessions.{new_is_session}
use Rattle.tds_session.proofs.session.Session.new.Goals as goal

pub invariant_of-result : goal.invariant_of-result
invariant_of-result c = new_is_session
