use Rattle.std.proofs.Common.{rules}
use Rattle.tds_walk.specs.Taking.{IsReadyValue}
use Rattle.tds_walk.proofs.Walks.{restarts_ready}
use Rattle.tds_walk.proofs.calls.restart.Goals as goal

pub returns-then-is_ready : goal.returns-then-is_ready
returns-then-is_ready c =
    let p = c.args.walk.now in
    let is : IsReadyValue p = record {
      inside = c.is_ready.ensures.inside (search rules);
      due = c.is_ready.ensures.due (search rules);
      whole = c.is_ready.ensures.whole (search rules);
      head = c.is_ready.ensures.head (search rules);
      passed = c.is_ready.ensures.passed (search rules);
    } in
    restarts_ready p c.args.memory.now is
