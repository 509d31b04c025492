use Rattle.tds_world.proofs.requests.Begins as begins
use Rattle.tds_world.proofs.laws.begins_once.Goals as goal

pub returns : goal.returns
returns c = begins.begins_once
