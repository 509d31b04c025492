use Rattle.tds_service.proofs.Coming.{ends_ok, ends_fault}
use Rattle.tds_service.proofs.Ending.{end_needs_none}
use Rattle.tds_service.proofs.Sizing.{end_keeps}
use Rattle.tds_service.proofs.connection.Connection.ended.Goals as goal

pub returns-clause-ok : goal.returns-clause-ok
returns-clause-ok c =
    ends_ok c.args.self.now.asked c.args.self.now.client c.hear_end.new.client c.args.self.now.parser c.hear_end.result c.hear_end.ensures.exact

pub returns-clause-fault : goal.returns-clause-fault
returns-clause-fault c =
    ends_fault c.args.self.now.asked c.args.self.now.client c.hear_end.new.client c.args.self.now.parser c.hear_end.result c.hear_end.ensures.exact c.hear_end.ensures.leaves

pub returns-clause-size : goal.returns-clause-size
returns-clause-size c = end_keeps c.args.self.now.client c.hear_end.new.client c.args.self.now.parser c.hear_end.result c.hear_end.ensures.exact c.hear_end.ensures.leaves

pub returns-clause-memory : goal.returns-clause-memory
returns-clause-memory c = end_needs_none c.args.self.now.client c.hear_end.new.client c.args.self.now.parser c.hear_end.result c.hear_end.ensures.exact
