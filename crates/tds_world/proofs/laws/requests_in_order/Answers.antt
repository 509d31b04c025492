use Rattle.tds_world.proofs.requests.Order as order
use Rattle.tds_world.proofs.laws.requests_in_order.Goals as goal

pub returns : goal.returns
returns c = order.requests_in_order
