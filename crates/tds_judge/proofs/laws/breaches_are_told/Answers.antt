use Rattle.tds_judge.specs.History as history
use Rattle.tds_judge.proofs.Each.{answering_by, both_by, second_by, stands, unanswered_attention_by, wrong_by}
use Rattle.tds_judge.proofs.laws.breaches_are_told.Goals as goal

pub returns-clause-second : goal.returns-clause-second
returns-clause-second c = stands 1 history.is_second_attention second_by

pub returns-clause-unanswered : goal.returns-clause-unanswered
returns-clause-unanswered c = stands 2 history.is_attention_unanswered unanswered_attention_by

pub returns-clause-answering : goal.returns-clause-answering
returns-clause-answering c = stands 5 history.is_request_while_answering answering_by

pub returns-clause-descriptor : goal.returns-clause-descriptor
returns-clause-descriptor c = stands 8 history.is_wrong_descriptor wrong_by

pub returns-clause-both : goal.returns-clause-both
returns-clause-both c = stands 14 history.is_both_resets both_by
