use Rattle.tds_client.proofs.Ends.{ends_cancelling, ends_reading, finishes}
use Rattle.tds_client.proofs.laws.idle_by_acknowledgement.Goals as goal

pub returns-clause-cancelling : goal.returns-clause-cancelling
returns-clause-cancelling c = ends_cancelling

pub returns-clause-reading : goal.returns-clause-reading
returns-clause-reading c = ends_reading

pub returns-clause-finished : goal.returns-clause-finished
returns-clause-finished c = finishes
