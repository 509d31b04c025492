use Rattle.tds_text.proofs.Judged.{right_nowhere_wrong, nowhere_wrong_right, same_schedule}
use Rattle.tds_text.proofs.schedule.laws.right_or_wrong_somewhere.Goals as goal

pub returns : goal.returns
returns c = record { right = right_nowhere_wrong; wrong = nowhere_wrong_right; one = same_schedule }
