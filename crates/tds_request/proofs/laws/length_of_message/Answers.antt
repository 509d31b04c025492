use Rattle.tds_request.proofs.Whole.{length_of_message}
use Rattle.tds_request.proofs.laws.length_of_message.Goals as goal

pub returns : goal.returns
returns c = length_of_message
