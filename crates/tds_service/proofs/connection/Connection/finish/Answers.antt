use Rattle.tds_service.proofs.Alike.{on_ok, finishes_alike, finishes_taken}
use Rattle.tds_service.proofs.Sizing.{finish_keeps}
use Rattle.tds_service.proofs.connection.Connection.finish.Goals as goal

pub returns-clause-ok : goal.returns-clause-ok
returns-clause-ok c =
    on_ok c.finish.result _ _ (λ h. finishes_alike c.args.self.now.asked c.args.self.now.client c.finish.new.self c.args.out.now.items c.finish.new.out.items h) c.finish.ensures.ok

pub returns-clause-accepted : goal.returns-clause-accepted
returns-clause-accepted c =
    on_ok c.finish.result _ _ (λ h. finishes_taken c.args.self.now.asked c.args.self.now.client c.finish.new.self c.args.out.now.items c.finish.new.out.items h) c.finish.ensures.ok

pub returns-clause-size : goal.returns-clause-size
returns-clause-size c = finish_keeps c.finish.result c.args.self.now.client c.finish.new.self c.args.out.now.items c.finish.new.out.items c.finish.ensures.ok c.finish.ensures.err
