use Rattle.std.proofs.Common.{List, Option, Some, subst, sym, ap, ℕ, ◌∙◌, ◌≡◌, refl}
use Rattle.tds_relay.specs.declared.link.Link.{Link}
use Rattle.tds_relay.specs.Reads.{LinksStay, waits_on, queue_on}
use Rattle.tds_relay.proofs.steps.Staying.{stays_without}
use Rattle.tds_relay.proofs.spared.Waits.{left_wait, left_queue}
use Rattle.tds_relay.specs.Sending.{called_at}
use Rattle.tds_relay.specs.Closings.{NoKey}
use Rattle.tds_relay.proofs.spared.Ended.{closes_removed, cutting}
use Rattle.tds_relay.proofs.spared.Begun.{answers_without}
use Rattle.tds_relay.proofs.spared.Opening.{opens_pushed}
use Rattle.tds_relay.specs.declared.order.Order.TheVariants as orders
use Rattle.tds_relay.proofs.seats.Linked.{out_without}
use Rattle.tds_relay.proofs.relay.Relay.close_link.Goals as goal

pub returns-in_ok-push-in-Some-clause-read : goal.returns-in_ok-push-in-Some-clause-read
returns-in_ok-push-in-Some-clause-read c =
    subst (λ (ms : List Link). LinksStay c.args.self.now.links.items ms) (sym c.remove_link.ensures) (stays_without c.args.number c.args.self.now.links.items)

pub returns-in-None-clause-read : goal.returns-in-None-clause-read
returns-in-None-clause-read c =
    subst (λ (ms : List Link). LinksStay c.args.self.now.links.items ms) (sym c.remove_link.ensures) (stays_without c.args.number c.args.self.now.links.items)

pub returns-in_ok-push-in-Some-clause-others : goal.returns-in_ok-push-in-Some-clause-others
returns-in_ok-push-in-Some-clause-others c = λ other differs. ap (waits_on other) c.remove_link.ensures ∙ left_wait c.args.number other c.args.self.now.links.items differs

pub returns-in-None-clause-others : goal.returns-in-None-clause-others
returns-in-None-clause-others c = λ other differs. ap (waits_on other) c.remove_link.ensures ∙ left_wait c.args.number other c.args.self.now.links.items differs

pub returns-in_ok-push-in-Some-clause-ordered : goal.returns-in_ok-push-in-Some-clause-ordered
returns-in_ok-push-in-Some-clause-ordered c = (_, c.in_ok-push-in-Some.ensures.items)

pub returns-in_ok-push-in-Some-clause-closes : goal.returns-in_ok-push-in-Some-clause-closes
returns-in_ok-push-in-Some-clause-closes c =
    let stays = subst (λ (ms : List Link). LinksStay c.args.self.now.links.items ms) (sym c.remove_link.ensures) (stays_without c.args.number c.args.self.now.links.items) in
    let named : called_at c.args.number c.args.self.now.links.items ≡ Some c.in-Some.tag = sym c.tag_on-tag.ensures ∙ c.in-Some.is in
    closes_removed NoKey c.args.number _ _ refl refl refl c.remove_link.ensures stays.seen (c.in_ok-push-in-Some.ensures.items ∙ sym (ap (λ (o : Option ℕ). cutting o c.args.self.now.orders.items) named))

pub returns-in-None-clause-closes : goal.returns-in-None-clause-closes
returns-in-None-clause-closes c =
    let stays = subst (λ (ms : List Link). LinksStay c.args.self.now.links.items ms) (sym c.remove_link.ensures) (stays_without c.args.number c.args.self.now.links.items) in
    closes_removed NoKey c.args.number _ _ refl refl refl c.remove_link.ensures stays.seen (sym (ap (λ (o : Option ℕ). cutting o c.args.self.now.orders.items) (sym c.tag_on-tag.ensures ∙ c.in-None.is)))

pub returns-in_ok-push-in-Some-clause-answers : goal.returns-in_ok-push-in-Some-clause-answers
returns-in_ok-push-in-Some-clause-answers c = answers_without c.args.number _ _ c.remove_link.ensures

pub returns-in-None-clause-answers : goal.returns-in-None-clause-answers
returns-in-None-clause-answers c = answers_without c.args.number _ _ c.remove_link.ensures

pub returns-in_ok-push-in-Some-clause-opening : goal.returns-in_ok-push-in-Some-clause-opening
returns-in_ok-push-in-Some-clause-opening c = opens_pushed (orders.Close c.in-Some.tag) c.args.self.now.orders.items c.push.new.self.items c.in_ok-push-in-Some.ensures.items refl

pub returns-in_ok-push-in-Some-clause-queues : goal.returns-in_ok-push-in-Some-clause-queues
returns-in_ok-push-in-Some-clause-queues c = λ other differs. ap (queue_on other) c.remove_link.ensures ∙ left_queue c.args.number other c.args.self.now.links.items differs

pub returns-in-None-clause-queues : goal.returns-in-None-clause-queues
returns-in-None-clause-queues c = λ other differs. ap (queue_on other) c.remove_link.ensures ∙ left_queue c.args.number other c.args.self.now.links.items differs

pub returns-in_ok-push-in-Some-clause-fewer : goal.returns-in_ok-push-in-Some-clause-fewer
returns-in_ok-push-in-Some-clause-fewer c = out_without c.args.number _ _ c.remove_link.ensures

pub returns-in-None-clause-fewer : goal.returns-in-None-clause-fewer
returns-in-None-clause-fewer c = out_without c.args.number _ _ c.remove_link.ensures
