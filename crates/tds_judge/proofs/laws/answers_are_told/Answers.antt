use Rattle.tds_judge.specs.Told as told
use Rattle.tds_judge.proofs.Each.{behind_by, cut_by, endless_by, stands, too_early_by, unawaited_by, unclear_by, unread_by}
use Rattle.tds_judge.proofs.laws.answers_are_told.Goals as goal

pub returns-clause-unread : goal.returns-clause-unread
returns-clause-unread c = stands 6 told.is_answer_unread unread_by

pub returns-clause-behind : goal.returns-clause-behind
returns-clause-behind c = stands 18 told.is_behind_end behind_by

pub returns-clause-endless : goal.returns-clause-endless
returns-clause-endless c = stands 19 told.is_without_end endless_by

pub returns-clause-cut : goal.returns-clause-cut
returns-clause-cut c = stands 20 told.is_cut_token cut_by

pub returns-clause-unclear : goal.returns-clause-unclear
returns-clause-unclear c = stands 26 (λ past. told.is_unclear_change) unclear_by

pub returns-clause-unasked : goal.returns-clause-unasked
returns-clause-unasked c = stands 32 told.is_answer_unasked unawaited_by

pub returns-clause-early : goal.returns-clause-early
returns-clause-early c = stands 44 told.is_early too_early_by
