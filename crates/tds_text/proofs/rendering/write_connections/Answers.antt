use Rattle.std.proofs.Common.{◌+◌, drop}
use Rattle.std.specs.List.{flat_map}
use Rattle.tds_text.specs.Lines.{connection_line}
use Rattle.tds_text.proofs.Remaining.{pieces_left}
use Rattle.tds_text.proofs.Writing.{one_more, ends_early, at_error}
use Rattle.tds_text.proofs.rendering.write_connections.Goals as goal

pub loop-snapshot-preserved : goal.loop-snapshot-preserved
loop-snapshot-preserved g c =
    one_more _ _ _ (flat_map connection_line c.args.snapshots.now) (connection_line c.snapshot-item.result)
    (flat_map connection_line (drop (c.loop-snapshot.snapshot-index + 1) c.args.snapshots.now))
    (rw (pieces_left connection_line c.args.snapshots.now c.loop-snapshot.snapshot-index c.snapshot-item.result c.loop-snapshot-test.true c.snapshot-item.is) at c.loop-snapshot.invariant)
    c.in_ok-write_connection.ensures.ok

pub returns-in_err-write_connection-clause-fault : goal.returns-in_err-write_connection-clause-fault
returns-in_err-write_connection-clause-fault g c =
    at_error c.from_residual.result (ends_early _ _ _ (flat_map connection_line c.args.snapshots.now) (connection_line c.snapshot-item.result)
    (flat_map connection_line (drop (c.loop-snapshot.snapshot-index + 1) c.args.snapshots.now))
    (rw (pieces_left connection_line c.args.snapshots.now c.loop-snapshot.snapshot-index c.snapshot-item.result c.loop-snapshot-test.true c.snapshot-item.is) at c.loop-snapshot.invariant)
    c.in_err-write_connection.ensures.fault)
