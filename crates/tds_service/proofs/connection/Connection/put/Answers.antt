use Rattle.tds_service.proofs.Alike.{on_ok, puts_alike, puts_taken}
use Rattle.tds_service.proofs.Sizing.{put_keeps}
use Rattle.tds_service.proofs.connection.Connection.put.Goals as goal

pub returns-clause-ok : goal.returns-clause-ok
returns-clause-ok c =
    on_ok c.put.result _ _ (λ h. puts_alike c.args.self.now.asked c.args.self.now.client c.put.new.self c.args.bytes.now c.args.out.now.items c.put.new.out.items h) c.put.ensures.ok

pub returns-clause-accepted : goal.returns-clause-accepted
returns-clause-accepted c =
    on_ok c.put.result _ _ (λ h. puts_taken c.args.self.now.asked c.args.self.now.client c.put.new.self c.args.bytes.now c.args.out.now.items c.put.new.out.items h) c.put.ensures.ok

pub returns-clause-size : goal.returns-clause-size
returns-clause-size c = put_keeps c.put.result c.args.self.now.client c.put.new.self c.args.bytes.now c.args.out.now.items c.put.new.out.items c.put.ensures.ok c.put.ensures.err
