use Rattle.std.proofs.Common.{rules}
use Rattle.tds_wire.proofs.WholeRows.{row_passed}
use Rattle.tds_wire.proofs.rows.whole_row.Goals as goal

pub returns-clause-row : goal.returns-clause-row
returns-clause-row c = λ some r ready columns.
    row_passed r c.row_length.result c.args.piece.now ready c.row_length.ensures.within (search rules) (c.row_length.ensures.row r.walk columns ready.walk.due some)
