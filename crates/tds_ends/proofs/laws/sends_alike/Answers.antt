use Rattle.tds_ends.proofs.Sending as sending
use Rattle.tds_ends.proofs.laws.sends_alike.Goals as goal

pub returns : goal.returns
returns c = sending.send_alike c.phases_tell.ensures
