use Rattle.tds_service.proofs.Noting.{whole_ok, whole_fault, whole_stands, whole_sized}
use Rattle.tds_service.proofs.connection.Connection.hear_whole.Goals as goal

pub returns-clause-ok : goal.returns-clause-ok
returns-clause-ok c =
    whole_ok c.args.self.now.asked c.args.self.now.client c.next_whole.new.client c.args.self.now.parser c.next_whole.new.parser c.args.piece.now c.next_whole.new.told c.requires.awaits.0 c.requires.awaits.1 c.next_whole.result c.next_whole.ensures.exact

pub returns-clause-fault : goal.returns-clause-fault
returns-clause-fault c =
    whole_fault c.args.self.now.asked c.args.self.now.client c.next_whole.new.client c.args.self.now.parser c.next_whole.new.parser c.args.piece.now c.next_whole.new.told c.requires.awaits.0 c.requires.awaits.1 c.next_whole.result c.next_whole.ensures.exact c.next_whole.ensures.leaves

pub returns-clause-stands : goal.returns-clause-stands
returns-clause-stands c =
    whole_stands c.args.self.now.asked c.args.self.now.client c.next_whole.new.client c.args.self.now.parser c.next_whole.new.parser c.args.piece.now c.next_whole.new.told c.next_whole.result c.next_whole.ensures.exact

pub returns-clause-size : goal.returns-clause-size
returns-clause-size c =
    whole_sized c.args.self.now.asked c.args.self.now.client c.next_whole.new.client c.args.self.now.parser c.next_whole.new.parser c.args.piece.now c.next_whole.new.told c.next_whole.result c.next_whole.ensures.exact c.next_whole.ensures.same c.next_whole.ensures.leaves
