use Rattle.tds_world.proofs.rest.NeverStuck as stuck
use Rattle.tds_world.proofs.laws.never_stuck.Goals as goal

pub returns : goal.returns
returns c = stuck.never_stuck
