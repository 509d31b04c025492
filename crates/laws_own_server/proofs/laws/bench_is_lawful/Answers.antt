use Rattle.laws_own_server.proofs.Saying.{first_bench, lawful_bench}
use Rattle.laws_own_server.proofs.laws.bench_is_lawful.Goals as goal

pub returns-clause-lawful : goal.returns-clause-lawful
returns-clause-lawful c = lawful_bench

pub returns-clause-resets : goal.returns-clause-resets
returns-clause-resets c = first_bench
