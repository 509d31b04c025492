use Rattle.tds_server.proofs.Ended.{answer_ended}
use Rattle.tds_server.proofs.laws.the_last_step_ends_an_answer.Goals as goal

pub returns : goal.returns
returns g c = λ engine s d reset q. answer_ended (g.E.Engine.statements_of engine) (g.E.Engine.step_of engine) s d reset q
