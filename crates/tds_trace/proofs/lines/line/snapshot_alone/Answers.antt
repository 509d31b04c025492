use Rattle.std.proofs.Common.{append-nil, append_assoc, arith}
use Rattle.std.proofs.lemmas.Fmt.{decimal_digit}
use Rattle.tds_trace.proofs.lines.line.snapshot_alone.Goals as goal

pub returns : goal.returns
returns c =
    simp append_assoc (simp (c.new.ensures, c.in_ok-push.ensures.items, c.new-snapshots.ensures.items, append-nil, append_assoc, decimal_digit 1 (omega arith)) at c.event_alone.ensures)
