use Rattle.tds_c.proofs.service.Acting.{ask_stops, has_asked}
use Rattle.tds_c.proofs.service.asking.ask.Goals as goal

pub returns-in-Err-clause-stops : goal.returns-in-Err-clause-stops
returns-in-Err-clause-stops c =
    ask_stops c.args.service.now c.args.seats.now c.in-Some.index c.args.lease _ c.requires.fits c.in-Some.ensures.first c.args.kind (record { before = c.args.kept.now; after = c.ask.new.kept; count = c.ask.new.count }) c.in-Err.stop c.in-Err.ensures.stops

pub returns-in-Ok-clause-ok : goal.returns-in-Ok-clause-ok
returns-in-Ok-clause-ok c =
    has_asked c.args.service.now c.args.seats.now c.in-Some.index c.args.lease _ c.requires.fits c.in-Some.ensures.first c.args.kind c.ask.new.seat (record { before = c.args.kept.now; after = c.ask.new.kept; count = c.ask.new.count })
    c.in-Ok.ensures.acts c.in-Ok.ensures.asked c.in-Ok.ensures.kind c.in-Ok.ensures.is c.in-Ok.ensures.written c.in-Ok.ensures.counted
