use Rattle.laws_conforming_server.proofs.Runs.{runs_in_named}
use Rattle.laws_conforming_server.proofs.laws.own_transaction.Goals as goal

pub returns : goal.returns
returns g c = runs_in_named
