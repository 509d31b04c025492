use Rattle.tds_request.proofs.Messages as messages
use Rattle.tds_request.proofs.laws.spelled_is_read.Goals as goal

pub returns : goal.returns
returns c = messages.spelled_is_read
