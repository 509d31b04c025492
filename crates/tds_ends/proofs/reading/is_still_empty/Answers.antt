use Rattle.tds_ends.proofs.Empty.{still_some}
use Rattle.tds_ends.proofs.reading.is_still_empty.Goals as goal

pub returns-else-was_empty : goal.returns-else-was_empty
returns-else-was_empty c = λ held more tells long. still_some c.args.was_empty held more c.if-was_empty.false tells
