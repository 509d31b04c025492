use Rattle.tds_state.specs.Pasts.{session_said}
use Rattle.tds_state.proofs.Resting.{parts_of}
use Rattle.tds_state.proofs.Calls.{answer_ended, not_cancelled}
use Rattle.tds_state.proofs.Letters.{no_bulk}
use Rattle.tds_state.proofs.laws.only_behind_a_whole_answer.Goals as goal

pub returns-clause-ended : goal.returns-clause-ended
returns-clause-ended c past h = answer_ended past (parts_of (session_said past) h).quiet

pub returns-clause-cancelled : goal.returns-clause-cancelled
returns-clause-cancelled c past h = not_cancelled past (parts_of (session_said past) h).quiet (parts_of (session_said past) h).awaits

pub returns-clause-bulk : goal.returns-clause-bulk
returns-clause-bulk c past h = no_bulk past (parts_of (session_said past) h).letters
