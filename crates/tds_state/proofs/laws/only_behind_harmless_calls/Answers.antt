use Rattle.tds_state.specs.Pasts.{session_said}
use Rattle.tds_state.proofs.Resting.{parts_of}
use Rattle.tds_state.proofs.Calls.{each_harmless, no_call_cancelled}
use Rattle.tds_state.proofs.Since.{not_followed}
use Rattle.tds_state.proofs.laws.only_behind_harmless_calls.Goals as goal

pub returns-clause-harmless : goal.returns-clause-harmless
returns-clause-harmless c past h = each_harmless past (parts_of (session_said past) h).pinned (parts_of (session_said past) h).handles

pub returns-clause-cancelled : goal.returns-clause-cancelled
returns-clause-cancelled c past h = no_call_cancelled past (parts_of (session_said past) h).pinned

pub returns-clause-followed : goal.returns-clause-followed
returns-clause-followed c past h = not_followed past (parts_of (session_said past) h).pinned
