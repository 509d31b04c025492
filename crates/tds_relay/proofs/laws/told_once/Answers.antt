use Rattle.tds_relay.proofs.visits.Tellings.{told_visit}
use Rattle.tds_relay.proofs.laws.told_once.Goals as goal

pub returns : goal.returns
returns c = told_visit
