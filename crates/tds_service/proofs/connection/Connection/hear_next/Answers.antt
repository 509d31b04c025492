use Rattle.tds_service.proofs.Noting.{next_ok, next_fault, next_stands, next_sized}
use Rattle.tds_service.proofs.connection.Connection.hear_next.Goals as goal

pub returns-clause-ok : goal.returns-clause-ok
returns-clause-ok c =
    next_ok c.args.self.now.asked c.args.self.now.client c.next_to.new.client c.args.self.now.parser c.next_to.new.parser c.args.piece.now c.next_to.new.told c.requires.awaits.0 c.requires.awaits.1 c.next_to.result c.next_to.ensures.exact

pub returns-clause-fault : goal.returns-clause-fault
returns-clause-fault c =
    next_fault c.args.self.now.asked c.args.self.now.client c.next_to.new.client c.args.self.now.parser c.next_to.new.parser c.args.piece.now c.next_to.new.told c.requires.awaits.0 c.requires.awaits.1 c.next_to.result c.next_to.ensures.exact c.next_to.ensures.leaves

pub returns-clause-stands : goal.returns-clause-stands
returns-clause-stands c =
    next_stands c.args.self.now.asked c.args.self.now.client c.next_to.new.client c.args.self.now.parser c.next_to.new.parser c.args.piece.now c.next_to.new.told c.next_to.result c.next_to.ensures.exact

pub returns-clause-size : goal.returns-clause-size
returns-clause-size c =
    next_sized c.args.self.now.asked c.args.self.now.client c.next_to.new.client c.args.self.now.parser c.next_to.new.parser c.args.piece.now c.next_to.new.told c.next_to.result c.next_to.ensures.exact c.next_to.ensures.leaves
