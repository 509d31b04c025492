use Rattle.std.proofs.Common.{Bool, true, false, [], Some, None, refl, subst}
use Rattle.tds_listen.specs.Signs.{sign_of}
use Rattle.tds_service.specs.Line as line
use Rattle.tds_c.specs.service.ComesOn.{HeardOn}
use Rattle.tds_c.specs.service.Hearing.{one_part, told_if}
use Rattle.tds_c.proofs.service.packet.listening.hear_token.Goals as goal

pub returns-then-told-clause-ok : goal.returns-then-told-clause-ok
returns-then-told-clause-ok c =
    let token = c.args.token.now in (
      Some token,
      subst (λ (b : Bool). HeardOn (one_part (sign_of token) token) c.args.seat.now c.hear_said.new.seat line.More (told_if b token)) c.if-told.true c.in-Ok.ensures.ok,
      (c.put_shown.new.value, c.put_shown.ensures, c.requires.room (c.in-Ok.ensures.tells c.if-told.true), refl, refl),
    )

pub returns-else-told-clause-ok : goal.returns-else-told-clause-ok
returns-else-told-clause-ok c =
    let token = c.args.token.now in (
      None,
      subst (λ (b : Bool). HeardOn (one_part (sign_of token) token) c.args.seat.now c.hear_said.new.seat line.More (told_if b token)) c.if-told.false c.in-Ok.ensures.ok,
      (refl, refl),
    )
