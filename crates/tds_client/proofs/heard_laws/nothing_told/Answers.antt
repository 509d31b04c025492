use Rattle.tds_client.proofs.HeardAttentions.{told_nothing}
use Rattle.tds_client.proofs.heard_laws.nothing_told.Goals as goal

pub returns : goal.returns
returns c = told_nothing
