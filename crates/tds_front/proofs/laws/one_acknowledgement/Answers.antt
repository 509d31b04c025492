use Rattle.std.proofs.Common.{arith}
use Rattle.tds_front.specs.declared.stage.Stage.TheVariants.{Quiet}
use Rattle.tds_front.proofs.Counting.{one-along, settles-along, hands-along}
use Rattle.tds_front.proofs.laws.one_acknowledgement.Goals as goal

pub returns-clause-one : goal.returns-clause-one
returns-clause-one c = one-along

pub returns-clause-settled : goal.returns-clause-settled
returns-clause-settled c = λ events. omega (arith, settles-along Quiet events)

pub returns-clause-at_once : goal.returns-clause-at_once
returns-clause-at_once c = λ events. omega (arith, hands-along Quiet events)
