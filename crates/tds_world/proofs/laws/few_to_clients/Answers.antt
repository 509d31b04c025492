use Rattle.tds_world.proofs.packets.Underway as underway
use Rattle.tds_world.proofs.laws.few_to_clients.Goals as goal

pub returns : goal.returns
returns c = underway.few_to_clients
