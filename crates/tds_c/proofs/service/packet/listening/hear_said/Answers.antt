use Rattle.std.proofs.Common.{List, [], ◌∷◌, ap, subst}
use Rattle.tds_client.specs.declared.sign.Sign.{Sign}
use Rattle.tds_service.specs.Line as line
use Rattle.tds_c.specs.service.ComesOn.{HeardOn, is_reading}
use Rattle.tds_c.specs.service.Hearing.{one_part, told_if}
use Rattle.tds_c.proofs.service.Passing.{held_on, passed_on}
use Rattle.tds_c.proofs.service.packet.listening.hear_said.Goals as goal

pub returns-then-passes_on-clause-ok : goal.returns-then-passes_on-clause-ok
returns-then-passes_on-clause-ok c =
    let token = c.args.token.now in
    subst (λ (sign : Sign). HeardOn (one_part sign token) c.args.seat.now c.args.seat.now line.More (token ∷ [])) c.sign_of-sign.ensures
    (passed_on c.args.seat.now c.sign_of-sign.result token (c.passes_on.ensures c.if-passes_on.true))

pub returns-then-passes_on-clause-tells : goal.returns-then-passes_on-clause-tells
returns-then-passes_on-clause-tells c = λ told. (c.passes_on.ensures c.if-passes_on.true).1

pub returns-in-Some-clause-ok : goal.returns-in-Some-clause-ok
returns-in-Some-clause-ok c =
    let token = c.args.token.now in
    let z = c.hold.new.self in
    subst (λ (sign : Sign). HeardOn (one_part sign token) c.args.seat.now z line.More (told_if c.is_told.result token)) c.sign_of-sign.ensures
    (held_on c.args.seat.now z c.hold.ensures.place c.hold.ensures.number c.hold.ensures.apart c.sign_of-sign.result token c.in-Some.heard c.is_told.result
    c.in-Some.ensures.stage c.in-Some.ensures.heard c.hold.ensures.line (c.is_told.ensures token))

pub returns-in-Some-clause-tells : goal.returns-in-Some-clause-tells
returns-in-Some-clause-tells c = λ told. ap is_reading c.in-Some.ensures.stage
