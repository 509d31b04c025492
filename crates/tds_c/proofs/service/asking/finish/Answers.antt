use Rattle.tds_c.proofs.service.Acting.{finish_stops, has_finished}
use Rattle.tds_c.proofs.service.asking.finish.Goals as goal

pub returns-in-Err-clause-stops : goal.returns-in-Err-clause-stops
returns-in-Err-clause-stops c =
    finish_stops c.args.service.now c.args.seats.now c.in-Some.index c.args.lease _ c.requires.fits c.in-Some.ensures.first c.args.kept.now (record { before = c.args.out.now; after = c.finish.new.out; count = c.finish.new.count }) c.in-Err.stop c.in-Err.ensures.stops

pub returns-in-Ok-clause-ok : goal.returns-in-Ok-clause-ok
returns-in-Ok-clause-ok c =
    has_finished c.args.service.now c.args.seats.now c.in-Some.index c.args.lease _ c.requires.fits c.in-Some.ensures.first c.finish.new.seat c.args.kept.now (record { before = c.args.out.now; after = c.finish.new.out; count = c.finish.new.count })
    c.in-Ok.ensures.acts c.in-Ok.ensures.sending c.in-Ok.ensures.is c.in-Ok.ensures.moved c.in-Ok.ensures.size c.in-Ok.ensures.holds c.in-Ok.ensures.written c.in-Ok.ensures.counted
