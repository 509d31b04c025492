use Rattle.tds_text.specs.Lines.{connection_line}
use Rattle.tds_trace.specs.Lines.{snapshot_text}
use Rattle.tds_trace.proofs.Alone.{behind_a_cut}
use Rattle.tds_trace.proofs.lines.line.put_snapshot.Goals as goal

pub returns : goal.returns
unfolding snapshot_text
returns c =
    rw (c.as_slice.ensures.value, c.in_ok-lines.ensures, behind_a_cut (connection_line c.args.snapshot.now)) at c.put_line.ensures
