use Rattle.std.proofs.Common.{◌++◌}
use Rattle.std.specs.List.{flat_map}
use Rattle.std.proofs.lemmas.Result.{on_ok_weaker, on_err_weaker}
use Rattle.tds_text.specs.Lines.{event_lines, request_blocks, connection_line, last_snapshots}
use Rattle.tds_text.proofs.Writing.{appends_both, begins_more, begins_after, at_error}
use Rattle.tds_text.proofs.rendering.render.Goals as goal

pub returns-in_err-write_events-clause-fault : goal.returns-in_err-write_events-clause-fault
returns-in_err-write_events-clause-fault g c =
    at_error c.from_residual.result
    (begins_more _ _ (event_lines 1 c.args.report.now.events ++ request_blocks 1 c.args.report.now.requests) (flat_map connection_line (last_snapshots c.args.report.now.events))
    (begins_more _ _ (event_lines 1 c.args.report.now.events) (request_blocks 1 c.args.report.now.requests)
    (rw c.as_slice-events.ensures at c.in_err-write_events.ensures.fault)))

pub returns-in_err-write_requests-clause-fault : goal.returns-in_err-write_requests-clause-fault
returns-in_err-write_requests-clause-fault g c =
    at_error c.from_residual-in_err-write_requests.result
    (begins_more _ _ (event_lines 1 c.args.report.now.events ++ request_blocks 1 c.args.report.now.requests) (flat_map connection_line (last_snapshots c.args.report.now.events))
    (begins_after _ _ _ (event_lines 1 c.args.report.now.events) (request_blocks 1 c.args.report.now.requests)
    (rw c.as_slice-events.ensures at c.in_ok-write_events.ensures.ok)
    (rw c.as_slice.ensures at c.in_err-write_requests.ensures.fault)))

pub returns-clause-ok : goal.returns-clause-ok
returns-clause-ok g c =
    on_ok_weaker c.write_connections.result
    (λ sent. appends_both _ _ _ (event_lines 1 c.args.report.now.events ++ request_blocks 1 c.args.report.now.requests) (flat_map connection_line (last_snapshots c.args.report.now.events))
    (appends_both _ _ _ (event_lines 1 c.args.report.now.events) (request_blocks 1 c.args.report.now.requests)
    (rw c.as_slice-events.ensures at c.in_ok-write_events.ensures.ok) (rw c.as_slice.ensures at c.in_ok-write_requests.ensures.ok))
    sent)
    (rw (c.last_snapshots_of.ensures, c.as_slice-events.ensures) at c.write_connections.ensures.ok)

pub returns-clause-fault : goal.returns-clause-fault
returns-clause-fault g c =
    on_err_weaker c.write_connections.result
    (λ sent. begins_after _ _ _ (event_lines 1 c.args.report.now.events ++ request_blocks 1 c.args.report.now.requests) (flat_map connection_line (last_snapshots c.args.report.now.events))
    (appends_both _ _ _ (event_lines 1 c.args.report.now.events) (request_blocks 1 c.args.report.now.requests)
    (rw c.as_slice-events.ensures at c.in_ok-write_events.ensures.ok) (rw c.as_slice.ensures at c.in_ok-write_requests.ensures.ok))
    sent)
    (rw (c.last_snapshots_of.ensures, c.as_slice-events.ensures) at c.write_connections.ensures.fault)
