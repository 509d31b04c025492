use Rattle.std.proofs.Common.{sym, ◌∙◌}
use Rattle.tds_state.specs.Pasts.{session_said}
use Rattle.tds_state.proofs.Resting.{parts_of}
use Rattle.tds_state.proofs.Since.{not_kept, reset_owed, transaction_open}
use Rattle.tds_state.proofs.laws.only_behind_a_reset.Goals as goal

pub returns-clause-transaction : goal.returns-clause-transaction
returns-clause-transaction c past h = sym (transaction_open past) ∙ (parts_of (session_said past) h).transaction

pub returns-clause-owed : goal.returns-clause-owed
returns-clause-owed c past h = sym (reset_owed past) ∙ (parts_of (session_said past) h).owed

pub returns-clause-kept : goal.returns-clause-kept
returns-clause-kept c past h = not_kept past (parts_of (session_said past) h).pinned
