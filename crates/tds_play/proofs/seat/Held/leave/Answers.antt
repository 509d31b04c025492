use Rattle.std.proofs.Common.{ap}
use Rattle.tds_world.specs.Connection.{cut}
use Rattle.tds_play.proofs.pooled.Settled.{cut_seat}
use Rattle.tds_play.proofs.seat.Held.leave.Goals as goal

pub returns-clause-refines : goal.returns-clause-refines
returns-clause-refines g c = λ size engine seat then m played.
    cut_seat c.args.self.now.link.number size engine c.cut.new.self seat then (g.C.EventCarrier.pipes c.cut.new.carrier c.args.self.now.link.number) (cut m)
    (ap (λ l. l.is_cut) c.cut.ensures.value) (c.cut.ensures.refines size engine seat m played c.requires.live)
