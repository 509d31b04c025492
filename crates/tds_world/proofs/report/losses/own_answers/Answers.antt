use Rattle.tds_world.proofs.plays.Reports as reports
use Rattle.tds_world.proofs.report.losses.own_answers.Goals as goal

pub returns : goal.returns
returns c = reports.own_answers
