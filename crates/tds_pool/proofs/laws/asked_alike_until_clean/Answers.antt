use Rattle.tds_pool.proofs.Cleanings.{comes_out_clean, never_cancelled}
use Rattle.tds_pool.proofs.laws.asked_alike_until_clean.Goals as goal

pub returns-clause-comes_out : goal.returns-clause-comes_out
returns-clause-comes_out c = comes_out_clean

pub returns-clause-uncancelled : goal.returns-clause-uncancelled
returns-clause-uncancelled c = never_cancelled
