use Rattle.std.proofs.Common.{◌∙◌, false, rules, sym}
use Rattle.tds_relay.specs.Ties.{pool_in}
use Rattle.tds_relay.proofs.steps.Underway.{drains}
use Rattle.tds_relay.proofs.spared.Rightly.{back_right}
use Rattle.tds_relay.proofs.spared.Losing.{taken_or_deaf}
use Rattle.tds_relay.proofs.relay.Relay.may_keep_later.Goals as goal

pub returns-clause-later : goal.returns-clause-later
returns-clause-later c = λ e.
    drains false _ c.args.key (pool_in c.args.self.now.pool) c.args.self.now.applications c.in-Some-get.application.now c.in-Some.hold c.in-Some-get.ensures (sym c.is_withdrawn.ensures ∙ search rules)
    (sym c.hold_of.ensures ∙ c.in-Some.is)

pub returns-clause-right : goal.returns-clause-right
returns-clause-right c = λ e. back_right c.args.key c.args.self.now (taken_or_deaf c.args.self.now.applications c.args.key c.in-Some-get.application.now c.in-Some-get.ensures (sym c.is_withdrawn.ensures ∙ search rules))
