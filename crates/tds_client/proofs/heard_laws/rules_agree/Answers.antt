use Rattle.tds_client.proofs.Alike.{alike}
use Rattle.tds_client.proofs.heard_laws.rules_agree.Goals as goal

pub returns : goal.returns
returns c = alike
