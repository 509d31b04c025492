use Rattle.tds_ends.proofs.Cancelling as cancelling
use Rattle.tds_ends.proofs.laws.cancels_alike.Goals as goal

pub returns : goal.returns
returns c = cancelling.cancel_alike c.phases_tell.ensures
