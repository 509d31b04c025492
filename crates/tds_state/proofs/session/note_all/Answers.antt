use Rattle.std.proofs.Common.{◌≡◌, ◌∙◌, sym, Some}
use Rattle.tds_state.specs.States.{state_spot}
use Rattle.tds_state.proofs.Noting.{noted_last, noted_more, whole_last, whole_more}
use Rattle.tds_state.proofs.session.note_all.Goals as goal

pub states-preserved : goal.states-preserved
states-preserved c =
    let at : state_spot c.states.rest.now ≡ Some c.in-Some.spot = sym c.spot_at.ensures.value ∙ c.in-Some.is in
    record {
      noted = noted_more c.states.values c.note.new.self c.args.is_recoverable c.states.rest.now c.value_at.result.now c.behind_state-rest.result.now c.in-Some.spot at c.value_at.ensures c.behind_state-rest.ensures c.note.ensures ∙ c.states.invariant.noted;
      whole = whole_more c.states.rest.now c.behind_state-rest.result.now c.in-Some.spot at c.behind_state-rest.ensures ∙ c.states.invariant.whole;
    }

pub returns-clause-noted : goal.returns-clause-noted
returns-clause-noted c =
    noted_last c.states.values c.args.is_recoverable c.states.rest.now (sym c.spot_at.ensures.value ∙ c.in_default.is) ∙ c.states.invariant.noted

pub returns-clause-whole : goal.returns-clause-whole
returns-clause-whole c =
    whole_last c.states.rest.now c.is_empty.result (sym c.spot_at.ensures.value ∙ c.in_default.is) c.is_empty.ensures ∙ c.states.invariant.whole
