use Rattle.tds_client.proofs.TakenHeard.{read_is_heard, skipped_is_heard}
use Rattle.tds_client.proofs.heard_laws.taking_is_hearing.Goals as goal

pub returns-clause-reading : goal.returns-clause-reading
returns-clause-reading c = read_is_heard

pub returns-clause-cancelling : goal.returns-clause-cancelling
returns-clause-cancelling c = skipped_is_heard
