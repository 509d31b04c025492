use Rattle.std.proofs.Common.{Bool, subst}
use Rattle.tds_service.specs.Packets.{outcome_answer}
use Rattle.tds_service.specs.Ties.{Hears}
use Rattle.tds_c.specs.service.Hearing.{one_part, told_if}
use Rattle.tds_c.specs.service.Plain.{line_of}
use Rattle.tds_c.proofs.service.Comings.{may_be_told}
use Rattle.tds_c.proofs.service.packet.listening.hear_other.Goals as goal

pub returns-in-More-clause-tells : goal.returns-in-More-clause-tells
returns-in-More-clause-tells c = λ told.
    let token = c.args.token.now in
    let sign = c.sign_of.result in
    let l = line_of c.args.seat.now in
    let new = line_of c.hear-heard.result.seat in
    let answer = outcome_answer c.args.seat.now.asked c.hear-heard.result.outcome in
    may_be_told (one_part sign token) l new answer token
    (subst (λ (b : Bool). Hears (one_part sign token) l new answer (told_if b token)) told (c.hear-heard.ensures.hears token))
