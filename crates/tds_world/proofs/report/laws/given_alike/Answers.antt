use Rattle.tds_world.proofs.alone.TwoPlays as two
use Rattle.tds_world.proofs.report.laws.given_alike.Goals as goal

pub returns : goal.returns
returns c = two.reports_alike
