use Rattle.tds_world.proofs.plays.Marks as marks
use Rattle.tds_world.proofs.losses.marks_of_a_play.Goals as goal

pub returns-clause-count : goal.returns-clause-count
returns-clause-count c = marks.count

pub returns-clause-marks : goal.returns-clause-marks
returns-clause-marks c = marks.marks
