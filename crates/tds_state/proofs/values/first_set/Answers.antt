use Rattle.std.proofs.Common.{◌∙◌, sym, arith}
use Rattle.tds_state.proofs.Firsts.{first_end, first_here, first_on}
use Rattle.tds_state.proofs.values.first_set.Goals as goal

pub returns-then-flags-at : goal.returns-then-flags-at
returns-then-flags-at c = sym (first_here c.args.flags.now c.flags.at c.flags-test.true c.if-flags-at.true) ∙ c.flags.invariant

pub flags-preserved : goal.flags-preserved
flags-preserved c = sym (first_on c.args.flags.now c.flags.at c.flags-test.true c.if-flags-at.false) ∙ c.flags.invariant

pub returns : goal.returns
returns c = sym (first_end c.args.flags.now c.flags.at (omega (arith, c.flags-test.false))) ∙ c.flags.invariant
