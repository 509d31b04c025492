use Rattle.std.proofs.Common.{◌∙◌}
use Rattle.std.proofs.lemmas.Bool.{ne_eqb}
use Rattle.relay_logins.proofs.Prelogin.{passed}
use Rattle.relay_logins.proofs.dial.demands_encryption.Goals as goal

-- src/dial.rt:341:5
pub loop-rest-preserved : goal.loop-rest-preserved
loop-rest-preserved c = passed c.args.answer.now c.loop-rest.rest.now c.in-len5-up.len_at_least (ne_eqb _ _ c.if-kind-eq1.false) (ne_eqb _ _ c.if-kind.false) ∙ c.loop-rest.invariant
