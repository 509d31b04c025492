use Rattle.tds_client.proofs.Changes.{applies, marks}
use Rattle.tds_client.proofs.laws.changes_apply.Goals as goal

pub returns-clause-descriptor : goal.returns-clause-descriptor
returns-clause-descriptor c = applies

pub returns-clause-mark : goal.returns-clause-mark
returns-clause-mark c = marks
