use Rattle.tds_relay.specs.Core.{closes_for}
use Rattle.tds_relay.proofs.steps.Fronts.{ends_moved, ends_kept}
use Rattle.tds_relay.proofs.steps.Queueing.{queues_kept}
use Rattle.std.proofs.Common.{ap, refl, ℕ, ◌++◌, ◌∷◌, [], ◌∙◌, rules}
use Rattle.tds_relay.specs.Closings.{register_in, Itself}
use Rattle.tds_relay.specs.declared.order.Order.TheVariants as orders
use Rattle.tds_relay.proofs.spared.Ended.{closes_ended, its_end, its_name}
use Rattle.tds_relay.proofs.spared.Sending.{kept_refl}
use Rattle.tds_relay.proofs.spared.Shutting.{closes_kept, unclosed, over_closes}
use Rattle.tds_relay.proofs.spared.Opening.{opens_pushed}
use Rattle.tds_relay.proofs.relay.Relay.end_for.Goals as goal

pub returns-in_ok-push-in-Some-clause-kept : goal.returns-in_ok-push-in-Some-clause-kept
returns-in_ok-push-in-Some-clause-kept c = queues_kept c.args.self.now.applications c.args.key c.in-Some.application.now c.close.new.self c.in-Some.ensures.value c.close.ensures.queue

pub returns-in_ok-push-in-Some-clause-ends : goal.returns-in_ok-push-in-Some-clause-ends
returns-in_ok-push-in-Some-clause-ends c = ends_moved c.args.self.now.applications c.args.key c.in-Some.application.now c.close.new.self (closes_for c.args.why) c.in-Some.ensures.value c.close.ensures.end

pub returns-then-is_over-clause-closes : goal.returns-then-is_over-clause-closes
returns-then-is_over-clause-closes c = closes_kept (Itself c.args.key) _ _ (ends_kept c.args.self.now.applications c.args.key c.in-Some.application.now c.in-Some.application.now c.in-Some.ensures.value refl) (queues_kept c.args.self.now.applications c.args.key c.in-Some.application.now c.in-Some.application.now c.in-Some.ensures.value refl) refl (kept_refl c.args.self.now.links.items) (unclosed _ _ refl)

pub returns-in_ok-push-in-Some-clause-closes : goal.returns-in_ok-push-in-Some-clause-closes
returns-in_ok-push-in-Some-clause-closes c =
    let old = c.args.self.now in
    let a = c.in-Some.application.now in
    closes_ended c.args.key a.tag (closes_for c.args.why) (register_in old) _ (over_closes c.args.why) (ends_moved old.applications c.args.key a c.close.new.self (closes_for c.args.why) c.in-Some.ensures.value c.close.ensures.end)
    (queues_kept old.applications c.args.key a c.close.new.self c.in-Some.ensures.value c.close.ensures.queue) (its_name old c.args.key a c.in-Some.ensures.value (search rules)) (its_end old c.args.key a c.in-Some.ensures.value)
    (c.in_ok-push-in-Some.ensures.items ∙ ap (λ (n : ℕ). old.orders.items ++ orders.Close n ∷ []) c.close.ensures.tag) refl refl

pub returns-in_ok-push-in-Some-clause-opening : goal.returns-in_ok-push-in-Some-clause-opening
returns-in_ok-push-in-Some-clause-opening c = opens_pushed (orders.Close _) c.args.self.now.orders.items c.push.new.self.items c.in_ok-push-in-Some.ensures.items refl
