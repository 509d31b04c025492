use Rattle.tds_world.proofs.alone.Spending as spending
use Rattle.tds_world.proofs.laws.script_uses_few.Goals as goal

pub returns : goal.returns
returns c = spending.script_uses_few
