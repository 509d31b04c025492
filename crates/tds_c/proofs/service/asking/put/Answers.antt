use Rattle.tds_c.proofs.service.Acting.{has_put, put_stops}
use Rattle.tds_c.proofs.service.asking.put.Goals as goal

pub returns-in-Err-clause-stops : goal.returns-in-Err-clause-stops
returns-in-Err-clause-stops c =
    put_stops c.args.service.now c.args.seats.now c.in-Some.index c.args.lease _ c.requires.fits c.in-Some.ensures.first
    (record { before = c.args.kept.now; after = c.put.new.kept; waiting = c.args.waiting.now; waits = c.put.new.waiting })
    (record { before = c.args.out.now; after = c.put.new.out; count = c.put.new.count }) c.in-Err.stop c.in-Err.ensures.stops

pub returns-in-Ok-clause-ok : goal.returns-in-Ok-clause-ok
returns-in-Ok-clause-ok c =
    has_put c.args.service.now c.args.seats.now c.in-Some.index c.args.lease _ c.requires.fits c.in-Some.ensures.first c.put.new.seat
    (record { before = c.args.kept.now; after = c.put.new.kept; waiting = c.args.waiting.now; waits = c.put.new.waiting })
    c.args.bytes.now c.put.new.taken
    (record { before = c.args.out.now; after = c.put.new.out; count = c.put.new.count }) c.in-Ok.putting c.in-Ok.ensures.ok
