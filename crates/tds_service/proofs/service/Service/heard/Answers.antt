use Rattle.std.proofs.Common.{refl}
use Rattle.std.proofs.lemmas.Result.{IfOk-weaker}
use Rattle.tds_service.proofs.Tables.{on_err}
use Rattle.tds_service.proofs.service.Service.heard.Goals as goal

pub returns-clause-ok : goal.returns-clause-ok
returns-clause-ok c = IfOk-weaker c.came_by.result _ _ (λ came h. (h.0, h.1, (h.2, h.3))) c.came_by.ensures.ok

pub returns-clause-unknown : goal.returns-clause-unknown
returns-clause-unknown c = on_err c.came_by.result _ _ (λ refusal h. h refl) c.came_by.ensures.unknown
