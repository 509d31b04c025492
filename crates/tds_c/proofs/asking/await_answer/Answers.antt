use Rattle.tds_c.proofs.Awaiting.{awaits}
use Rattle.tds_c.proofs.asking.await_answer.Goals as goal

pub returns : goal.returns
returns c = awaits c.args.client.now
