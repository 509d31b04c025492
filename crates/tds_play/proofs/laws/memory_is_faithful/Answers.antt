use Rattle.tds_play.proofs.MemoryFails as memory
use Rattle.tds_play.proofs.laws.memory_is_faithful.Goals as goal

pub returns : goal.returns
returns c = λ carrier. memory.all_faithful carrier.pipes
