use Rattle.std.proofs.Common.{◌+◌, drop}
use Rattle.tds_text.specs.Lines.{event_line, event_lines}
use Rattle.tds_text.proofs.Remaining.{events_left}
use Rattle.tds_text.proofs.Writing.{one_more, ends_early, at_error}
use Rattle.tds_text.proofs.rendering.write_events.Goals as goal

pub loop-index-preserved : goal.loop-index-preserved
loop-index-preserved g c =
    one_more _ _ _ (event_lines 1 c.args.events.now) (event_line (c.loop-index.index + 1) c.index-events-index.result)
    (event_lines (c.loop-index.index + 1 + 1) (drop (c.loop-index.index + 1) c.args.events.now))
    (rw (events_left c.args.events.now c.loop-index.index c.index-events-index.result c.loop-index-test.true c.index-events-index.is) at c.loop-index.invariant)
    c.in_ok-write_event.ensures.ok

pub returns-in_err-write_event-clause-fault : goal.returns-in_err-write_event-clause-fault
returns-in_err-write_event-clause-fault g c =
    at_error c.from_residual.result (ends_early _ _ _ (event_lines 1 c.args.events.now) (event_line (c.loop-index.index + 1) c.index-events-index.result)
    (event_lines (c.loop-index.index + 1 + 1) (drop (c.loop-index.index + 1) c.args.events.now))
    (rw (events_left c.args.events.now c.loop-index.index c.index-events-index.result c.loop-index-test.true c.index-events-index.is) at c.loop-index.invariant)
    c.in_err-write_event.ensures.fault)
