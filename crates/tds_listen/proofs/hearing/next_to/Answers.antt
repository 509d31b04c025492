use Rattle.tds_listen.proofs.Lost.{broken_then}
use Rattle.tds_listen.proofs.hearing.next_to.Goals as goal

pub returns-in-Err-clause-broken : goal.returns-in-Err-clause-broken
returns-in-Err-clause-broken c = broken_then _ _ c.lost.ensures
