use Rattle.laws_as_if_alone.proofs.Told.{as_if_alone, goes_on}
use Rattle.laws_as_if_alone.proofs.laws.as_if_alone.Goals as goal

pub returns-clause-new : goal.returns-clause-new
returns-clause-new g c = as_if_alone

pub returns-clause-rest : goal.returns-clause-rest
returns-clause-rest g c = goes_on
