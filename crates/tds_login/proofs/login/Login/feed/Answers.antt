use Rattle.std.proofs.Common.{sym, ◌∙◌, ap, ◌+◌, inr, Ok}
use Rattle.tds_login.specs.Reading.{fault_of, answers_in}
use Rattle.tds_login.proofs.Folds.{after_more, answers_more, goes_on_behind, broken_behind, ends_broken, ends_unanswered}
use Rattle.tds_login.proofs.login.Login.feed.Goals as goal

pub returns-in-Ok-clause-state : goal.returns-in-Ok-clause-state
returns-in-Ok-clause-state c =
    c.take.ensures.state ∙ after_more c.args.self.now c.loop-place.self c.args.piece.now c.loop-place.place c.loop-place-test.true c.loop-place.invariant.state

pub returns-in-Ok-clause-answer : goal.returns-in-Ok-clause-answer
returns-in-Ok-clause-answer c answer e =
    let said = answers_more c.args.self.now c.loop-place.self c.args.piece.now c.loop-place.place c.loop-place-test.true c.loop-place.invariant.state c.loop-place.invariant.quiet in
    said ∙ ap answers_in (sym c.take.ensures.brings ∙ c.in-Ok.is ∙ ap (λ x. Ok x) e)

pub returns-in-Err-clause-fault : goal.returns-in-Err-clause-fault
returns-in-Err-clause-fault c =
    let e = sym c.take.ensures.brings ∙ c.in-Err.is in
    ap fault_of c.take.ensures.state ∙ broken_behind _ _ _ e

pub returns-in-Err-clause-broken : goal.returns-in-Err-clause-broken
returns-in-Err-clause-broken c =
    let now = c.take.ensures.state ∙ after_more c.args.self.now c.loop-place.self c.args.piece.now c.loop-place.place c.loop-place-test.true c.loop-place.invariant.state in
    let e = sym c.take.ensures.brings ∙ c.in-Err.is in
    ends_broken c.args.self.now c.take.new.self c.args.piece.now (c.loop-place.place + 1) c.in-Err.fault now (ap fault_of c.take.ensures.state ∙ broken_behind _ _ _ e)

pub returns-in-Err-clause-unanswered : goal.returns-in-Err-clause-unanswered
returns-in-Err-clause-unanswered c =
    let now = c.take.ensures.state ∙ after_more c.args.self.now c.loop-place.self c.args.piece.now c.loop-place.place c.loop-place-test.true c.loop-place.invariant.state in
    let said = answers_more c.args.self.now c.loop-place.self c.args.piece.now c.loop-place.place c.loop-place-test.true c.loop-place.invariant.state c.loop-place.invariant.quiet in
    let e = sym c.take.ensures.brings ∙ c.in-Err.is in
    ends_unanswered c.args.self.now c.take.new.self c.args.piece.now (c.loop-place.place + 1) c.in-Err.fault now (ap fault_of c.take.ensures.state ∙ broken_behind _ _ _ e) (said ∙ ap answers_in e)

pub loop-place-preserved : goal.loop-place-preserved
loop-place-preserved c =
    let said = answers_more c.args.self.now c.loop-place.self c.args.piece.now c.loop-place.place c.loop-place-test.true c.loop-place.invariant.state c.loop-place.invariant.quiet in
    let e = sym c.take.ensures.brings ∙ (c.in-Ok-None.is ∙ ap (λ x. Ok x) c.in-Ok-None.field-0-is) in
    record {
      state = c.take.ensures.state ∙ after_more c.args.self.now c.loop-place.self c.args.piece.now c.loop-place.place c.loop-place-test.true c.loop-place.invariant.state;
      quiet = said ∙ ap answers_in e;
      on = inr (ap fault_of c.take.ensures.state ∙ goes_on_behind _ _ e);
    }
