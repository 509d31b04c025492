use Rattle.std.proofs.Common.{refl}
use Rattle.tds_front.proofs.Taking.{takes, takes_none}
use Rattle.tds_front.proofs.laws.takes_some.Goals as goal

pub returns-clause-first : goal.returns-clause-first
returns-clause-first c = λ most. refl

pub returns-clause-each : goal.returns-clause-each
returns-clause-each c = λ front byte bytes t. takes front byte bytes t

pub returns-clause-none : goal.returns-clause-none
returns-clause-none c = λ front t. takes_none front t
