use Rattle.tds_front.specs.declared.stage.Stage.TheVariants.{Quiet}
use Rattle.std.specs.Prelude.{false}
use Rattle.tds_front.specs.Serving.{Ready}
use Rattle.tds_front.proofs.Passing.{passes}
use Rattle.tds_front.proofs.laws.lawful_front.Goals as goal

pub returns : goal.returns
returns c = λ events. passes events Quiet false Ready tt
