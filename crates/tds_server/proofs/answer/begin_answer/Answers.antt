use Rattle.tds_server.proofs.Begun.{begun}
use Rattle.tds_server.proofs.answer.begin_answer.Goals as goal

pub returns-clause-steps : goal.returns-clause-steps
returns-clause-steps g c = rw c.first_due.ensures (begun _ _ _ c.args.reset c.args.request.now c.in_ok-task.ensures c.args.descriptor)
