use Rattle.std.proofs.lemmas.Result.{IfOk-weaker}
use Rattle.tds_service.specs.Packets.{packet_part, outcome_answer}
use Rattle.tds_service.specs.Table.{service_in}
use Rattle.tds_service.proofs.Noting.{noted_comes}
use Rattle.tds_service.proofs.service.Service.came.Goals as goal

pub returns-clause-ok : goal.returns-clause-ok
returns-clause-ok c =
    IfOk-weaker c.came_by.result _ _
    (λ came h. (
      h.0,
      h.1,
      noted_comes (service_in c.args.self.now) _ c.args.number (packet_part h.0 c.args.bytes.now c.args.ends) came.lease came.request (outcome_answer came.request came.outcome) h.2 c.args.told.now.items _ h.3 h.4,
    ))
    c.came_by.ensures.ok
