use Rattle.std.proofs.Common.{rules, ◌∙◌, ap, sym}
use Rattle.std.proofs.lemmas.List.{take_rest}
use Rattle.tds_wire.specs.Layout.{Got}
use Rattle.tds_rows.proofs.Fronts.{run_got, run_short}
use Rattle.tds_rows.proofs.fields.pass.Goals as goal

pub returns-then-bytes-count : goal.returns-then-bytes-count
returns-then-bytes-count c = run_short c.args.count c.args.bytes.now (search rules)

pub returns : goal.returns
returns c = run_got c.args.count c.args.bytes.now (search rules) ∙ ap (Got tt) (sym (take_rest c.args.bytes.now c.args.count))
