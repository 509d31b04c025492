use Rattle.tds_world.proofs.rest.Cancelling as cancelling
use Rattle.tds_world.proofs.losses.all_can_cancel.Goals as goal

pub returns : goal.returns
returns c setup answers l ps x = cancelling.all_can_cancel setup answers l ps x
