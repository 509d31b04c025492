use Rattle.tds_judge.proofs.Notes.{appended}
use Rattle.tds_judge.proofs.laws.findings_are_appended.Goals as goal

pub returns : goal.returns
returns c = appended
