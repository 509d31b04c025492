use Rattle.std.proofs.Common.{Err}
use Rattle.tds_c.proofs.asking.refused.Goals as goal

pub returns : goal.returns
returns c = λ buffer none same. (Err c.why_not.result, c.number.ensures, c.why_not.ensures buffer none same)
