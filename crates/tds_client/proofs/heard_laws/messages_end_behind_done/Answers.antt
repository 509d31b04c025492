use Rattle.tds_client.proofs.Ending.{begins_anew, ends_behind_done, nothing_behind}
use Rattle.tds_client.proofs.heard_laws.messages_end_behind_done.Goals as goal

pub returns-clause-reading : goal.returns-clause-reading
returns-clause-reading c = ends_behind_done

pub returns-clause-anew : goal.returns-clause-anew
returns-clause-anew c = begins_anew

pub returns-clause-strict : goal.returns-clause-strict
returns-clause-strict c = nothing_behind
