use Rattle.std.proofs.Common.{ap, inl, inr, refl, rules, subst, sym}
use Rattle.tds_relay.specs.Core.{EndList, end_at, closes}
use Rattle.tds_relay.specs.Taking.{IsDeaf}
use Rattle.tds_relay.specs.Ties.{pool_in}
use Rattle.tds_relay.specs.declared.order.Order.TheVariants as orders
use Rattle.tds_relay.proofs.spared.Ordered.{ordered_closing, ordered_refl}
use Rattle.tds_relay.proofs.spared.Waking.{all_there, name_there, to_do_last}
use Rattle.tds_relay.proofs.steps.Fronts.{moves_closes}
use Rattle.tds_relay.proofs.steps.Reaching.{ok_more}
use Rattle.tds_relay.proofs.steps.Told.{deaf_closed}
use Rattle.tds_relay.proofs.steps.Underway.{none_deaf}
use Rattle.tds_relay.proofs.spared.Reasons.{for_reason, full_there}
use Rattle.tds_relay.proofs.spared.Sending.{kept_refl}
use Rattle.tds_relay.proofs.spared.Shutting.{closes_kept, write_closes}
use Rattle.tds_relay.proofs.spared.Apart.{alone_changed, alone_refl}
use Rattle.tds_relay.specs.Pool.{Pool}
use Rattle.tds_relay.specs.Fronts.{core_in}
use Rattle.tds_relay.proofs.spared.Opening.{opens_pushed}
use Rattle.tds_relay.proofs.relay.Relay.order_write.Goals as goal

pub returns-then-is_full-clause-moves : goal.returns-then-is_full-clause-moves
returns-then-is_full-clause-moves c = ok_more c.end.result _ _ (λ e by from h. moves_closes by from _ _ _ _ c.args.key (ap pool_in c.end.ensures.pool) e h) c.end.ensures.ends

pub returns-then-is_full-clause-ordered : goal.returns-then-is_full-clause-ordered
returns-then-is_full-clause-ordered c = ordered_closing c.end.result _ _ _ _ c.end.ensures.ordered (ordered_refl _)

pub returns-in_default-clause-wakes : goal.returns-in_default-clause-wakes
returns-in_default-clause-wakes c = inl (none_deaf c.args.key c.args.self.now.applications (search rules))

pub returns-then-is_full-clause-wakes : goal.returns-then-is_full-clause-wakes
returns-then-is_full-clause-wakes c = ok_more c.end.result _ _ (λ e. inl (subst (λ (es : EndList). IsDeaf (end_at es c.args.key)) (sym e) (deaf_closed c.args.key _))) c.end.ensures.ends

pub returns-clause-wakes : goal.returns-clause-wakes
returns-clause-wakes c =
    inr (c.in-Some.application.now.tag, name_there c.args.self.now.applications c.args.key c.in-Some.application.now c.in-Some.ensures, to_do_last (orders.Write c.in-Some.application.now.tag) c.args.self.now.orders.items c.push.new.self.items (search rules), all_there c.args.self.now.applications c.args.key c.in-Some.application.now c.in-Some.ensures (search rules))

pub returns-clause-closes : goal.returns-clause-closes
returns-clause-closes c = closes_kept _ _ _ refl refl refl (kept_refl c.args.self.now.links.items) (write_closes _ _ _ c.in_ok-push.ensures.items)

pub returns-then-is_full-clause-closes : goal.returns-then-is_full-clause-closes
returns-then-is_full-clause-closes c = for_reason c.end.result c.args.key _ _ _ (full_there c.args.self.now.applications c.args.key c.in-Some.application.now c.in-Some.ensures (search rules)) c.end.ensures.closes

pub returns-in_default-clause-alone : goal.returns-in_default-clause-alone
returns-in_default-clause-alone c = alone_refl c.args.key (core_in c.args.self.now)

pub returns-clause-alone : goal.returns-clause-alone
returns-clause-alone c = alone_refl c.args.key (core_in c.args.self.now)

pub returns-then-is_full-clause-alone : goal.returns-then-is_full-clause-alone
returns-then-is_full-clause-alone c =
    ok_more c.end.result _ _ (λ e. alone_changed c.args.key closes (core_in c.args.self.now) (core_in c.end.new.self) e (ap (λ (d : Pool). d.line) (ap pool_in c.end.ensures.pool))) c.end.ensures.ends

pub returns-clause-opening : goal.returns-clause-opening
returns-clause-opening c = opens_pushed (orders.Write c.in-Some.application.now.tag) c.args.self.now.orders.items c.push.new.self.items c.in_ok-push.ensures.items refl
