use Rattle.std.proofs.Common.{refl}
use Rattle.tds_client.specs.Session.{marked}
use Rattle.tds_service.proofs.Sizing.{same_size}
use Rattle.tds_service.proofs.connection.Connection.mark.Goals as goal

pub returns-clause-size : goal.returns-clause-size
returns-clause-size c = same_size c.mark_reset.result c.args.self.now.client c.mark_reset.new.self (marked c.args.self.now.client c.args.reset) refl c.mark_reset.ensures.ok c.mark_reset.ensures.err
