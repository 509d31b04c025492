use Rattle.std.proofs.Common.{refl, rules, [], ◌≡◌, ◌∙◌, Some, subst, sym}
use Rattle.tds_service.specs.Table.{Denies, puts_on, service_in}
use Rattle.tds_relay.specs.declared.pool.Hold.{Hold}
use Rattle.tds_relay.specs.Pool.{find_key}
use Rattle.tds_relay.specs.Ties.{pool_in}
use Rattle.tds_relay.proofs.steps.Sent as sent
use Rattle.tds_service.specs.Service as calls
use Rattle.tds_relay.proofs.bytes.Walking.{keeps_stand}
use Rattle.tds_relay.proofs.spared.Held.{action_others, action_same}
use Rattle.tds_relay.proofs.pool.Pool.finish.Goals as goal

pub returns-in-Ok-clause-ok : goal.returns-in-Ok-clause-ok
returns-in-Ok-clause-ok c = (puts_on c.in-Some.hold.lease c.args.self.now.service [], search rules)

pub returns-in-Ok-clause-sends : goal.returns-in-Ok-clause-sends
returns-in-Ok-clause-sends c =
    sent.ends_on (pool_in c.args.self.now) (service_in c.finish.new.self) c.args.key (puts_on c.in-Some.hold.lease c.args.self.now.service []) c.in-Some.hold (search rules) c.in-Ok.ensures.ok.service_is c.in-Ok.ensures.ok.reply_is

pub returns-in-Ok-clause-stand : goal.returns-in-Ok-clause-stand
returns-in-Ok-clause-stand c = keeps_stand _ _ (calls.Finish c.in-Some.hold.lease (puts_on c.in-Some.hold.lease c.args.self.now.service [])) c.in-Ok.ensures.ok.service_is (λ opens. opens) c.in-Ok.ensures.makes c.in-Ok.ensures.sizes c.in-Ok.ensures.keeps

pub returns-in-Ok-clause-others : goal.returns-in-Ok-clause-others
returns-in-Ok-clause-others c = action_others c.args.self.now _ c.args.key c.in-Some.hold (search rules) refl c.in-Ok.ensures.clients

pub returns-in-Err-clause-others : goal.returns-in-Err-clause-others
returns-in-Err-clause-others c = action_same c.args.self.now _ c.args.key (search rules)

pub returns-in-Err-clause-refused : goal.returns-in-Err-clause-refused
returns-in-Err-clause-refused c = λ hold its count.
    let mine : find_key c.args.key (pool_in c.args.self.now).holds ≡ Some c.in-Some.hold = search rules in
    let same : c.in-Some.hold ≡ hold = (let u : Some c.in-Some.hold ≡ Some hold = sym mine ∙ its in cc) in
    subst (λ (h : Hold). Denies (calls.Finish h.lease count) (service_in c.args.self.now.service) c.in-Err.refusal) same (c.in-Err.ensures.refused count)
