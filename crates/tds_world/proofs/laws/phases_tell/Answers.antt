use Rattle.tds_world.proofs.flow.Fates.{phase_tells}
use Rattle.tds_world.proofs.laws.phases_tell.Goals as goal

pub returns : goal.returns
returns c q = phase_tells q.fate q.out
