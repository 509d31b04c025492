use Rattle.tds_play.proofs.MemoryFails as memory
use Rattle.tds_play.proofs.laws.memory_never_fails.Goals as goal

pub returns : goal.returns
returns c = λ carrier n. memory.none_fails carrier.pipes n
