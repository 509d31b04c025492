use Rattle.std.proofs.Common.{rules, arith, ◌<◌, length}
use Rattle.tds_rows.specs.Finding.{column_shapes}
use Rattle.tds_rows.proofs.Going.{as_many}
use Rattle.tds_rows.proofs.Begun.{row_none}
use Rattle.tds_rows.proofs.rows.row_places.Goals as goal

pub returns-then-places-columns-clause-exact : goal.returns-then-places-columns-clause-exact
returns-then-places-columns-clause-exact c = omega (arith, as_many c.args.columns.now, c.if-places-columns.true)

pub returns-then-is_empty-clause-exact : goal.returns-then-is_empty-clause-exact
returns-then-is_empty-clause-exact c =
    let none : length c.args.bytes.now < 1 = search rules in
    row_none 0 (column_shapes c.args.columns.now) c.args.bytes.now none
