use Rattle.std.proofs.Common.{[]}
use Rattle.tds_c.proofs.service.Hearings.{awaited_fault, awaited_heard}
use Rattle.tds_c.proofs.service.hearing.hear_awaited.Goals as goal

pub returns-in-Ok-clause-ok : goal.returns-in-Ok-clause-ok
returns-in-Ok-clause-ok c = awaited_heard c.args.cancelling _ _ _ c.args.heard c.args.sign _ c.awaiting.ensures (c.in-Ok.ensures.heard [])

pub returns-in-Err-clause-fault : goal.returns-in-Err-clause-fault
returns-in-Err-clause-fault c = awaited_fault c.args.cancelling _ _ _ c.args.heard c.args.sign _ c.awaiting.ensures (c.in-Err.ensures.fault [])
