use Rattle.tds_walk.proofs.Walks.{ready_anew}
use Rattle.tds_walk.proofs.taking.begin_anew.Goals as goal

pub returns : goal.returns
returns c = ready_anew c.args.walk.now c.args.memory.now c.requires.ready
