use Rattle.std.proofs.Common.{◌≡◌, ◌∙◌, sym, Some}
use Rattle.tds_state.specs.States.{last_value, states_listed, state_spot}
use Rattle.tds_state.proofs.Listing.{given_first, given_from, given_last, given_other, given_told}
use Rattle.tds_state.proofs.states.gives_value.Goals as goal
use Rattle.tds_state.proofs.states.gives_value.Goals.{then-spot-id, else-spot-id}

pub states-init : goal.states-init
states-init c = given_first (last_value c.args.id (states_listed c.args.bytes.now).states) c.args.value.now

pub states-preserved : goal.states-preserved
states-preserved c =
    let at : state_spot c.states.rest.now ≡ Some c.in-Some.spot = sym c.spot_at.ensures.value ∙ c.in-Some.is in
    let same : given_from c.if-spot-id.is c.args.id c.args.value.now c.behind_state-rest.result.now ≡ given_from c.states.is c.args.id c.args.value.now c.states.rest.now = elim c.if-spot-id.branch [
      | then-spot-id w ↦ given_told c.states.is c.if-spot-id.is c.args.id c.args.value.now c.states.rest.now w.value_at.result.now c.behind_state-rest.result.now c.in-Some.spot at w.if-spot-id.true w.value_at.ensures c.behind_state-rest.ensures (w.is-is ∙ w.eq-is.ensures)
      | else-spot-id w ↦ given_other c.states.is c.if-spot-id.is c.args.id c.args.value.now c.states.rest.now c.behind_state-rest.result.now c.in-Some.spot at w.if-spot-id.false c.behind_state-rest.ensures w.is-is
    ] in
    same ∙ c.states.invariant

pub returns : goal.returns
returns c = sym (given_last c.states.is c.args.id c.args.value.now c.states.rest.now (sym c.spot_at.ensures.value ∙ c.in_default.is)) ∙ c.states.invariant
