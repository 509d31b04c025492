use Rattle.std.proofs.Math.Logic.{∥∥₁_map}
use Rattle.tds_trace.proofs.Turned.{calls_of_record}
use Rattle.tds_trace.proofs.laws.record_of_a_play.Goals as goal

pub returns : goal.returns
returns c = λ setup answers ps event calls told last makes is.
    ∥∥₁_map is (λ r. calls_of_record setup answers ps event calls told last makes r)
