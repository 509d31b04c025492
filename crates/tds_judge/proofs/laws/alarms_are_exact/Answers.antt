use Rattle.tds_judge.proofs.Each.{breach_told}
use Rattle.tds_judge.proofs.laws.alarms_are_exact.Goals as goal

pub returns : goal.returns
returns c limits past spot event = breach_told limits past spot event
