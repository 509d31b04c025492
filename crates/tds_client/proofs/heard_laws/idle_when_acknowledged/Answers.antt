use Rattle.tds_client.proofs.Acknowledged.{ends_cancelling}
use Rattle.tds_client.proofs.heard_laws.idle_when_acknowledged.Goals as goal

pub returns : goal.returns
returns c = ends_cancelling
