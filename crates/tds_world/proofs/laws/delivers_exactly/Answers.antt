use Rattle.tds_world.proofs.packets.Deliveries as deliveries
use Rattle.tds_world.proofs.laws.delivers_exactly.Goals as goal

pub returns : goal.returns
returns c = deliveries.delivers_exactly
