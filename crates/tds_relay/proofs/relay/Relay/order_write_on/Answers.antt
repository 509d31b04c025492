use Rattle.std.proofs.Common.{None, Option, Some, refl, subst, sym, ℕ, ◌≡◌, ◌∙◌}
use Rattle.tds_relay.specs.declared.order.Order.TheVariants as orders
use Rattle.tds_relay.specs.Closings.{NoKey}
use Rattle.tds_relay.specs.Sending.{IsToWrite, called_at}
use Rattle.tds_relay.proofs.spared.Sending.{kept_refl, ordered_last}
use Rattle.tds_relay.proofs.spared.Shutting.{closes_kept, write_closes}
use Rattle.tds_relay.proofs.spared.Opening.{opens_pushed}
use Rattle.tds_relay.proofs.spared.Once.{times_other}
use Rattle.tds_relay.proofs.relay.Relay.order_write_on.Goals as goal

pub returns-in_ok-push-in-Some-clause-ordered : goal.returns-in_ok-push-in-Some-clause-ordered
returns-in_ok-push-in-Some-clause-ordered c = (_, c.in_ok-push-in-Some.ensures.items)

pub returns-in_ok-push-in-Some-clause-writes : goal.returns-in_ok-push-in-Some-clause-writes
returns-in_ok-push-in-Some-clause-writes c =
    let named : called_at c.args.number c.args.self.now.links.items ≡ Some c.in-Some.tag = sym c.tag_on.ensures ∙ c.in-Some.is in
    subst (λ (o : Option ℕ). IsToWrite o c.push.new.self.items) (sym named) (ordered_last (orders.Write c.in-Some.tag) c.args.self.now.orders.items _ c.in_ok-push-in-Some.ensures.items)

pub returns-in-None-clause-writes : goal.returns-in-None-clause-writes
returns-in-None-clause-writes c =
    let named : called_at c.args.number c.args.self.now.links.items ≡ None = sym c.tag_on.ensures ∙ c.in-None.is in
    subst (λ (o : Option ℕ). IsToWrite o c.args.self.now.orders.items) (sym named) tt

pub returns-in_ok-push-in-Some-clause-closes : goal.returns-in_ok-push-in-Some-clause-closes
returns-in_ok-push-in-Some-clause-closes c = closes_kept NoKey _ _ refl refl refl (kept_refl c.args.self.now.links.items) (write_closes _ _ _ c.in_ok-push-in-Some.ensures.items)

pub returns-in_ok-push-in-Some-clause-opening : goal.returns-in_ok-push-in-Some-clause-opening
returns-in_ok-push-in-Some-clause-opening c = opens_pushed (orders.Write c.in-Some.tag) c.args.self.now.orders.items c.push.new.self.items c.in_ok-push-in-Some.ensures.items refl

pub returns-in_ok-push-in-Some-clause-times : goal.returns-in_ok-push-in-Some-clause-times
returns-in_ok-push-in-Some-clause-times c = λ tag. times_other tag (orders.Write c.in-Some.tag) c.args.self.now.orders.items c.push.new.self.items c.in_ok-push-in-Some.ensures.items refl
