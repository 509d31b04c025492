use Rattle.std.proofs.Common.{◌∙◌, refl, sym}
use Rattle.tds_pool.specs.Connections.{connections}
use Rattle.tds_pool.proofs.Carrying.{not_lent, not_written}
use Rattle.tds_pool.proofs.pool.Pool.at.Goals as goal

pub returns-then-is_cleaned : goal.returns-then-is_cleaned
returns-then-is_cleaned c =
    let is = sym c.is_cleaned.ensures ∙ c.if-is_cleaned.true in (
      refl,
      record {
        lends = tt;
        value = not_lent c.args.number (connections c.args.self.now) is;
        writes = λ client some. absurd (not_written c.args.number (connections c.args.self.now) is some);
      },
    )
