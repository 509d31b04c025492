use Rattle.std.proofs.Common.{arith}
use Rattle.tds_request.proofs.Texts.{text_of}
use Rattle.tds_request.proofs.text.BatchText.from_le_bytes.Goals as goal

pub invariant_of-result : goal.invariant_of-result
invariant_of-result c = rw c.in_ok-units.ensures (text_of c.args.bytes.now (λ i. omega (arith, c.type_inv.bytes i)) c.requires).is
