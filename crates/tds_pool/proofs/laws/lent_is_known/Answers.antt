use Rattle.std.proofs.Common.{Option, Some, None}
use Rattle.std.specs.Prelude.{◌≡◌, List, IfSome, IsSome}
use Rattle.tds_packet.specs.declared.status.Reset.{Reset}
use Rattle.tds_pool.specs.Connections.{Connection, numbered}
use Rattle.tds_pool.specs.Calls.{lent_to, lent_again, lent_next}
use Rattle.tds_pool.proofs.Known.{known_again, known_new, known_before}
use Rattle.tds_pool.proofs.laws.lent_is_known.Goals as goal

again_of : (reset : Reset) (cs : List Connection) (o : Option Connection) → IfSome o (λ c. numbered c.number cs ≡ Some c → IsSome (lent_to (record { key = c.key; number = c.number; turn = c.turn }) (lent_again c.number reset cs)))
again_of reset cs None = tt
again_of reset cs (Some c) = known_again c reset cs

pub returns-clause-reused : goal.returns-clause-reused
returns-clause-reused c = λ reset cs. again_of reset cs (lent_next cs)

pub returns-clause-new : goal.returns-clause-new
returns-clause-new c = known_new

pub returns-clause-before : goal.returns-clause-before
returns-clause-before c = known_before
