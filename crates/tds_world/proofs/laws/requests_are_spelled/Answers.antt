use Rattle.tds_world.proofs.packets.Requests as requests
use Rattle.tds_world.proofs.laws.requests_are_spelled.Goals as goal

pub returns : goal.returns
returns c = requests.requests_are_spelled
