use Rattle.tds_pool.proofs.Promises.{one_each, one_turn_each}
use Rattle.tds_pool.proofs.laws.one_lease_each.Goals as goal

pub returns-clause-key : goal.returns-clause-key
returns-clause-key c = one_each

pub returns-clause-turn : goal.returns-clause-turn
returns-clause-turn c = one_turn_each
