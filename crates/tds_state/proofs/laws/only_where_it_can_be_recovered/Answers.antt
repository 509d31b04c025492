use Rattle.std.proofs.Common.{sym, ◌∙◌}
use Rattle.tds_state.specs.Pasts.{session_said}
use Rattle.tds_state.proofs.Resting.{parts_of}
use Rattle.tds_state.proofs.Since.{recoverable}
use Rattle.tds_state.proofs.laws.only_where_it_can_be_recovered.Goals as goal

pub returns : goal.returns
returns c past h = sym (recoverable past) ∙ (parts_of (session_said past) h).recoverable
