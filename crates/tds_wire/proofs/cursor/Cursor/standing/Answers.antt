use Rattle.std.proofs.Common.{◌∙◌, sym}
use Rattle.tds_wire.proofs.Feeding.{between_is}
use Rattle.tds_wire.proofs.cursor.Cursor.standing.Goals as goal

pub returns-clause-between : goal.returns-clause-between
returns-clause-between c =
    λ e. record {
      due = between_is c.args.self.now.at.due (sym c.standing.ensures ∙ e);
      columns = c.bounds.ensures.few;
      nulls = c.bounds.ensures.nulls;
    }
