use Rattle.std.proofs.Common.{refl, sym, ap, arith}
use Rattle.tds_wire.specs.Reading.{Parser}
use Rattle.tds_judge.proofs.parser.TokenParser.walk.Goals as goal

pub returns-in-Err : goal.returns-in-Err
returns-in-Err c =
    let start = ap (λ (r : Parser). r.start) c.self.view_is in
    let passed = ap (λ (r : Parser). r.passed) c.self.view_is in
    (record { refusal = c.in-Err.refusal; refuses = sym c.in-Err.ensures.exact; after = omega (arith, start, passed) }, refl)
