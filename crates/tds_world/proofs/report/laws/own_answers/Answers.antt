use Rattle.tds_world.proofs.reports.OwnShown as shown
use Rattle.tds_world.proofs.report.laws.own_answers.Goals as goal

pub returns : goal.returns
returns c = shown.own_answers_are_shown
