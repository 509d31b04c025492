use Rattle.std.proofs.Common.{◌∙◌, sym, ap, List, ℕ}
use Rattle.tds_state.specs.States.{Listed, states_listed}
use Rattle.tds_state.proofs.Listing.{listed_none, listed_some}
use Rattle.tds_state.proofs.values.is_listed.Goals as goal

pub states-preserved : goal.states-preserved
states-preserved c =
    ap (λ (xs : List ℕ). (states_listed xs).is_whole) c.behind_state-rest.ensures
    ∙ sym (ap (λ (all : Listed). all.is_whole) (listed_some c.states.rest.now c.in-Some.spot (sym c.spot_at.ensures.value ∙ c.in-Some.is)))
    ∙ c.states.invariant

pub returns : goal.returns
returns c =
    c.is_empty.ensures
    ∙ sym (ap (λ (all : Listed). all.is_whole) (listed_none c.states.rest.now (sym c.spot_at.ensures.value ∙ c.in_default.is)))
    ∙ c.states.invariant
