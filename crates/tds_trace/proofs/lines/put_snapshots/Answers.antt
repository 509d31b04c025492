use Rattle.std.proofs.Common.{◌++◌, string_bytes, ap, ◌∙◌}
use Rattle.tds_world.specs.declared.report.Snapshot.{Snapshot}
use Rattle.tds_trace.specs.Lines.{snapshot_text}
use Rattle.tds_trace.proofs.Joined.{told_more}
use Rattle.tds_trace.proofs.lines.put_snapshots.Goals as goal

pub loop-index-preserved : goal.loop-index-preserved
loop-index-preserved c =
    told_more snapshot_text c.args.snapshots.now c.loop-index.index c.index-snapshots-index.result (string_bytes c.args.text.now) (string_bytes c.loop-index.text) (string_bytes c.put_comma.new.text) _
    c.loop-index-test.true c.loop-index.invariant c.in_ok-put_comma.ensures
    (c.in_ok-put_snapshot.ensures ∙ ap (λ (s : Snapshot). string_bytes c.put_comma.new.text ++ snapshot_text s) c.index-snapshots-index.is)
