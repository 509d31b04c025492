use Rattle.tds_service.proofs.Noting.{row_ok, row_stands}
use Rattle.tds_service.proofs.connection.Connection.pass_row.Goals as goal

pub returns-clause-ok : goal.returns-clause-ok
returns-clause-ok c = λ some.
    row_ok c.args.self.now.asked c.args.self.now.client c.args.self.now.parser c.pass_row.new.self c.args.piece.now c.pass_row.result c.requires.awaits.0 c.requires.awaits.1 (c.pass_row.ensures.row some)

pub returns-clause-stands : goal.returns-clause-stands
returns-clause-stands c = λ some.
    row_stands c.args.self.now.asked c.args.self.now.client c.args.self.now.parser c.pass_row.new.self c.args.piece.now c.pass_row.result c.requires.awaits.0 c.requires.awaits.1 (c.pass_row.ensures.row some)
