use Rattle.std.proofs.Common.{drop, take}
use Rattle.std.proofs.lemmas.List.{take_rest, take-append-drop}
use Rattle.tds_text.proofs.Writing.{one_more}
use Rattle.tds_text.proofs.rendering.written.write_whole.Goals as goal

pub loop-rest-preserved : goal.loop-rest-preserved
loop-rest-preserved g c =
    rw take_rest (one_more _ _ _ c.args.text.now (take c.in-Ok.count c.loop-rest.rest.now) (drop c.in-Ok.count c.loop-rest.rest.now)
    (rw (take-append-drop c.in-Ok.count c.loop-rest.rest.now) c.loop-rest.invariant)
    c.in-Ok.ensures.bytes)
