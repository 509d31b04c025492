use Rattle.std.proofs.Common.{◌∙◌, subst, sym}
use Rattle.tds_front.specs.Bytes.{TakesSome}
use Rattle.tds_relay.proofs.steps.Lively.{stays_lively, takes_one}
use Rattle.tds_relay.proofs.application.Application.feed.Goals as goal

pub invariant_of-self : goal.invariant_of-self
invariant_of-self c = record {
  lively = subst TakesSome (sym c.feed.ensures.front) (stays_lively c.takes_some.ensures.each c.takes_some.ensures.none c.args.self.now.front c.args.piece.now c.args.self.now.lively);
}

pub invariant_of-self-in-Begin : goal.invariant_of-self-in-Begin
invariant_of-self-in-Begin c = record {
  lively = subst TakesSome (sym c.feed.ensures.front) (stays_lively c.takes_some.ensures.each c.takes_some.ensures.none c.args.self.now.front c.args.piece.now c.args.self.now.lively);
}

pub invariant_of-self-in-Forget : goal.invariant_of-self-in-Forget
invariant_of-self-in-Forget c = record {
  lively = subst TakesSome (sym c.feed.ensures.front) (stays_lively c.takes_some.ensures.each c.takes_some.ensures.none c.args.self.now.front c.args.piece.now c.args.self.now.lively);
}

pub invariant_of-self-in_default : goal.invariant_of-self-in_default
invariant_of-self-in_default c = record {
  lively = subst TakesSome (sym c.feed.ensures.front) (stays_lively c.takes_some.ensures.each c.takes_some.ensures.none c.args.self.now.front c.args.piece.now c.args.self.now.lively);
}

pub returns-in-Begin-clause-some : goal.returns-in-Begin-clause-some
returns-in-Begin-clause-some c = λ some. takes_one c.takes_some.ensures.each c.args.self.now.front c.args.piece.now c.in_ok-fed.fed c.args.self.now.lively (sym c.feed.ensures.brings ∙ c.in_ok-fed.was) some

pub returns-in-Forget-clause-some : goal.returns-in-Forget-clause-some
returns-in-Forget-clause-some c = λ some. takes_one c.takes_some.ensures.each c.args.self.now.front c.args.piece.now c.in_ok-fed.fed c.args.self.now.lively (sym c.feed.ensures.brings ∙ c.in_ok-fed.was) some

pub returns-in_default-clause-some : goal.returns-in_default-clause-some
returns-in_default-clause-some c = λ some. takes_one c.takes_some.ensures.each c.args.self.now.front c.args.piece.now c.in_ok-fed.fed c.args.self.now.lively (sym c.feed.ensures.brings ∙ c.in_ok-fed.was) some
