use Rattle.tds_service.specs.Ties.{begun_of}
use Rattle.tds_c.proofs.service.Acting.{at_sending}
use Rattle.tds_c.proofs.service.plain.TdsSeat.may_send.Goals as goal

pub returns-clause-ok : goal.returns-clause-ok
returns-clause-ok c =
    let client = c.args.self.now.client in
    (begun_of client.packets, at_sending client.stage client.packets client.fault c.in-1.is)
