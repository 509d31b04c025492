use Rattle.std.proofs.Common.{◌∙◌, rules, sym}
use Rattle.tds_relay.proofs.steps.Fed.{is_open_there}
use Rattle.tds_relay.specs.Asking.{Waits}
use Rattle.tds_relay.specs.Waiting as waiting
use Rattle.tds_relay.proofs.steps.Underway.{none_deaf, not_false, over_deaf}
use Rattle.tds_relay.proofs.relay.Relay.is_away.Goals as goal

pub returns-in-None-clause-away : goal.returns-in-None-clause-away
returns-in-None-clause-away c = λ yes. record {
  there = is_open_there c.args.self.now.applications c.args.key c.in-Some.application.now c.in-Some.ensures (sym c.is_over.ensures ∙ c.if-is_over.false);
  holds = search rules;
  waits = search rules;
}

pub returns-in-None-clause-underway : goal.returns-in-None-clause-underway
returns-in-None-clause-underway c = λ e none whole. Waits (sym c.waits.ensures ∙ not_false _ e)

pub returns-in_default-clause-lines : goal.returns-in_default-clause-lines
returns-in_default-clause-lines c = λ e. waiting.Closes (none_deaf c.args.key c.args.self.now.applications (search rules))

pub returns-then-is_over-clause-lines : goal.returns-then-is_over-clause-lines
returns-then-is_over-clause-lines c = λ e. waiting.Closes (over_deaf c.args.key c.args.self.now.applications c.in-Some.application.now c.in-Some.ensures (sym c.is_over.ensures ∙ c.if-is_over.true))

pub returns-in-None-clause-lines : goal.returns-in-None-clause-lines
returns-in-None-clause-lines c = λ e. waiting.Stands (sym c.waits.ensures ∙ not_false _ e)
