use Rattle.std.proofs.Common.{◌∙◌, sym, arith, rules, below_more}
use Rattle.tds_c.specs.service.Table.{wanted_test}
use Rattle.tds_c.proofs.service.Tables.{met_at, none_met}
use Rattle.tds_c.proofs.service.table.find.Goals as goal

pub returns-then-is_wanted-clause-first : goal.returns-then-is_wanted-clause-first
returns-then-is_wanted-clause-first c = record {
  within = c.loop-index-test.true;
  here = met_at (wanted_test c.args.wanted) _ c.args.seats.now c.loop-index.index c.loop-index-test.true ∙ (sym c.is_wanted.ensures ∙ c.if-is_wanted.true);
  before = c.loop-index.invariant;
}

pub loop-index-preserved : goal.loop-index-preserved
loop-index-preserved c =
    below_more _ _ c.loop-index.invariant
    (met_at (wanted_test c.args.wanted) _ c.args.seats.now c.loop-index.index c.loop-index-test.true ∙ (sym c.is_wanted.ensures ∙ c.if-is_wanted.false))

pub returns-clause-none : goal.returns-clause-none
returns-clause-none c = none_met (wanted_test c.args.wanted) c.args.seats.now (λ k lt. c.loop-index.invariant k (first_of (search rules, omega arith)))
