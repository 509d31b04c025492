use Rattle.tds_judge.proofs.Telling.{steps_so}
use Rattle.tds_judge.proofs.laws.findings_come_of_events.Goals as goal

pub returns : goal.returns
returns c = steps_so
