use Rattle.tds_state.specs.Pasts.{session_said}
use Rattle.tds_state.proofs.Resting.{parts_of}
use Rattle.tds_state.proofs.Since.{acknowledged, all_read}
use Rattle.tds_state.proofs.laws.only_where_all_is_told.Goals as goal

pub returns-clause-acknowledged : goal.returns-clause-acknowledged
returns-clause-acknowledged c past h = acknowledged past (parts_of (session_said past) h).acknowledged

pub returns-clause-read : goal.returns-clause-read
returns-clause-read c past h = all_read past (parts_of (session_said past) h).read
