use Rattle.std.proofs.Common.{◌∙◌, ap}
use Rattle.tds_client.specs.declared.sign.Sign.TheVariants as signs
use Rattle.tds_client.specs.Session.{ClientSession}
use Rattle.tds_service.proofs.Coming.{came_ok, came_fault, came_unawaited, stands}
use Rattle.tds_service.proofs.Sizing.{broken_keeps, next_keeps, sign_keeps}
use Rattle.tds_service.proofs.connection.Connection.came.Goals as goal

pub returns-in-Ok-clause-ok : goal.returns-in-Ok-clause-ok
returns-in-Ok-clause-ok c =
    came_ok c.args.self.now.asked c.args.self.now.client c.hear_sign.new.self c.next.new.client c.args.self.now.parser c.next.new.parser c.args.piece.now _ c.in-Ok.heard.token _
    c.in_default.ensures.heard c.in-Ok.ensures.exact c.unless_change.ensures

pub returns-in-Ok-clause-stands : goal.returns-in-Ok-clause-stands
returns-in-Ok-clause-stands c = stands c.hear_sign.new.self c.next.new.client c.args.self.now.parser c.next.new.parser c.args.piece.now _ c.in-Ok.heard.token c.in-Ok.ensures.exact

pub returns-in-Err-next-clause-fault : goal.returns-in-Err-next-clause-fault
returns-in-Err-next-clause-fault c =
    came_fault c.args.self.now.asked c.args.self.now.client c.hear_sign.new.self c.next.new.client c.args.self.now.parser c.args.piece.now c.in-Err-next.fault c.in_default.ensures.heard c.in-Err-next.ensures.exact
    c.in-Err-next.ensures.leaves

pub returns-in-Err-clause-fault : goal.returns-in-Err-clause-fault
returns-in-Err-clause-fault c = came_unawaited c.args.self.now.asked c.args.self.now.client c.hear_sign.new.self _ c.in-Err.fault c.in-Err.ensures.fault c.in-Err.ensures.broken

pub returns-in-Ok-clause-size : goal.returns-in-Ok-clause-size
returns-in-Ok-clause-size c =
    next_keeps c.hear_sign.new.self c.next.new.client c.args.self.now.parser c.next.new.parser c.args.piece.now _ c.in-Ok.heard.token c.in-Ok.ensures.exact
    ∙ sign_keeps c.args.self.now.client c.hear_sign.new.self signs.Nothing c.in_default.ensures.heard

pub returns-in-Err-next-clause-size : goal.returns-in-Err-next-clause-size
returns-in-Err-next-clause-size c =
    ap (λ (s : ClientSession). s.size) c.in-Err-next.ensures.leaves
    ∙ (broken_keeps c.hear_sign.new.self c.in-Err-next.fault ∙ sign_keeps c.args.self.now.client c.hear_sign.new.self signs.Nothing c.in_default.ensures.heard)

pub returns-in-Err-clause-size : goal.returns-in-Err-clause-size
returns-in-Err-clause-size c = ap (λ (s : ClientSession). s.size) c.in-Err.ensures.broken
