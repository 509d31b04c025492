use Rattle.tds_judge.specs.Told as told
use Rattle.tds_judge.proofs.Each.{changed_by, ended_by, idle_told, kept_by, left_by, none_by, open_reset_by, stands}
use Rattle.tds_judge.proofs.laws.transactions_are_told.Goals as goal

pub returns-clause-kept : goal.returns-clause-kept
returns-clause-kept c = stands 7 told.is_cancelled_begin_kept kept_by

pub returns-clause-ended : goal.returns-clause-ended
returns-clause-ended c = stands 9 told.is_ended_unheard ended_by

pub returns-clause-open_reset : goal.returns-clause-open_reset
returns-clause-open_reset c = stands 10 told.is_reset_in_transaction open_reset_by

pub returns-clause-idle : goal.returns-clause-idle
returns-clause-idle c limits past spot event = idle_told limits past spot event

pub returns-clause-left : goal.returns-clause-left
returns-clause-left c = stands 12 told.is_transaction_left left_by

pub returns-clause-changed : goal.returns-clause-changed
returns-clause-changed c = stands 35 told.is_wrong_change changed_by

pub returns-clause-none : goal.returns-clause-none
returns-clause-none c = stands 36 told.is_none_ended none_by
