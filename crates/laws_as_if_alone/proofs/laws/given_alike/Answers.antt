use Rattle.laws_as_if_alone.proofs.Told.{given_alike}
use Rattle.laws_as_if_alone.proofs.laws.given_alike.Goals as goal

pub returns : goal.returns
returns g c = given_alike
