use Rattle.tds_client.proofs.Unasked.{unasked_any, unasked_strict}
use Rattle.tds_client.proofs.heard_laws.unasked_resets_are_heard.Goals as goal

pub returns-clause-any : goal.returns-clause-any
returns-clause-any c = unasked_any

pub returns-clause-strict : goal.returns-clause-strict
returns-clause-strict c = unasked_strict
