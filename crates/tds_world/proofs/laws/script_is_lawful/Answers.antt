use Rattle.tds_world.proofs.script.Script as script
use Rattle.tds_world.proofs.laws.script_is_lawful.Goals as goal

pub returns : goal.returns
returns c = script.script_is_lawful
