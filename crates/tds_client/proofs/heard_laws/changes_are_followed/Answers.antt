use Rattle.tds_client.proofs.Placed.{all_follow, mark_left}
use Rattle.tds_client.proofs.heard_laws.changes_are_followed.Goals as goal

pub returns-clause-descriptor : goal.returns-clause-descriptor
returns-clause-descriptor c = λ rules s next signs e. (all_follow rules s next signs e).descriptor

pub returns-clause-mark : goal.returns-clause-mark
returns-clause-mark c = mark_left

pub returns-clause-stage : goal.returns-clause-stage
returns-clause-stage c = λ rules s next signs e. (all_follow rules s next signs e).stage
