use Rattle.std.proofs.Common.{◌∙◌, sym}
use Rattle.tds_state.proofs.Features.{recovery_behind, recovery_here, recovery_none}
use Rattle.tds_state.proofs.hearing.recovery.Goals as goal

pub returns-then-spot-eq-RECOVERY : goal.returns-then-spot-eq-RECOVERY
returns-then-spot-eq-RECOVERY c =
    sym c.features.invariant
    ∙ recovery_here c.features.rest.now c.value_at.result.now c.in-Some.spot (sym c.feature_at.ensures.value ∙ c.in-Some.is) c.if-spot-eq-RECOVERY.true c.value_at.ensures

pub features-preserved : goal.features-preserved
features-preserved c =
    recovery_behind c.features.rest.now c.behind_state-rest.result.now c.in-Some.spot (sym c.feature_at.ensures.value ∙ c.in-Some.is) c.if-spot-eq-RECOVERY.false c.behind_state-rest.ensures
    ∙ c.features.invariant

pub returns : goal.returns
returns c = sym c.features.invariant ∙ recovery_none c.features.rest.now (sym c.feature_at.ensures.value ∙ c.in_default.is)
