use Rattle.tds_judge.specs.Told as told
use Rattle.tds_judge.proofs.Each.{bulk_by, early_by, late_by, later_by, reused_by, stands, told_unasked_by, twice_by, unanswered_by}
use Rattle.tds_judge.proofs.laws.resets_are_told.Goals as goal

pub returns-clause-later : goal.returns-clause-later
returns-clause-later c = stands 13 (λ past. told.is_late_reset) later_by

pub returns-clause-unanswered : goal.returns-clause-unanswered
returns-clause-unanswered c = stands 15 told.is_reset_unanswered unanswered_by

pub returns-clause-twice : goal.returns-clause-twice
returns-clause-twice c = stands 16 told.is_reset_twice twice_by

pub returns-clause-reused : goal.returns-clause-reused
returns-clause-reused c = stands 17 told.is_reused reused_by

pub returns-clause-early : goal.returns-clause-early
returns-clause-early c = stands 33 told.is_lent_early early_by

pub returns-clause-told_unasked : goal.returns-clause-told_unasked
returns-clause-told_unasked c = stands 34 told.is_reset_unasked told_unasked_by

pub returns-clause-told_late : goal.returns-clause-told_late
returns-clause-told_late c = stands 43 told.is_reset_late late_by

pub returns-clause-bulk : goal.returns-clause-bulk
returns-clause-bulk c = stands 45 (λ past. told.is_bulk_reset) bulk_by
