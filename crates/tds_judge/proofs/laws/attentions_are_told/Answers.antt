use Rattle.tds_judge.specs.Told as told
use Rattle.tds_judge.proofs.Each.{attention_by, ignored_by, last_by, stands, unasked_by}
use Rattle.tds_judge.proofs.laws.attentions_are_told.Goals as goal

pub returns-clause-ignored : goal.returns-clause-ignored
returns-clause-ignored c = stands 3 told.is_attention_ignored ignored_by

pub returns-clause-unasked : goal.returns-clause-unasked
returns-clause-unasked c = stands 4 told.is_acknowledgement_unasked unasked_by

pub returns-clause-wrong : goal.returns-clause-wrong
returns-clause-wrong c = stands 24 (λ past. told.is_wrong_attention) attention_by

pub returns-clause-last : goal.returns-clause-last
returns-clause-last c = stands 39 told.is_not_last last_by
