use Rattle.std.proofs.Common.{◌≡◌, ◌∙◌, List, ap, inl, refl, rules, subst, ℕ}
use Rattle.tds_relay.specs.Bodies.{Grows, body_of, going_of, held_of}
use Rattle.slab.specs.Slab.{get, with_value}
use Rattle.tds_relay.proofs.steps.Bodied.{none_grows}
use Rattle.tds_relay.proofs.steps.Going.{grows_asked}
use Rattle.tds_relay.proofs.steps.Reaching.{ok_more}
use Rattle.tds_relay.proofs.steps.Underway.{written_there}
use Rattle.tds_relay.proofs.lending.Resting.{others_on, written_rest}
use Rattle.tds_relay.proofs.spared.Starting.{put_unkept_on, unkept_none}
use Rattle.tds_relay.specs.Fronts.{ends_in, core_in, core_of_ends}
use Rattle.tds_relay.specs.Ties.{pool_in}
use Rattle.tds_relay.proofs.steps.Fronts.{ends_kept}
use Rattle.tds_relay.proofs.spared.Apart.{alone_on, alone_same}
use Rattle.tds_relay.proofs.steps.Queueing.{queues_kept}
use Rattle.tds_relay.proofs.spared.Closings.{closes_on}
use Rattle.tds_relay.proofs.spared.Sending.{kept_refl}
use Rattle.tds_relay.proofs.spared.Shutting.{closes_kept, unclosed}
use Rattle.tds_relay.proofs.spared.Begun.{answers_refl}
use Rattle.tds_relay.proofs.spared.Lasting.{last_refl}
use Rattle.tds_relay.proofs.spared.Reasons.{for_that}
use Rattle.tds_relay.specs.Reasons.{CannotPut, ItselfFor}
use Rattle.tds_relay.specs.Core.{EndList, end_at}
use Rattle.tds_relay.proofs.spared.Filling.{own_refl}
use Rattle.tds_relay.proofs.lending.Fresh.{off_refl}
use Rattle.tds_relay.proofs.steps.Answering.{ask_begun, ask_ok, ask_refl, ask_then}
use Rattle.tds_relay.proofs.spared.Coming.{goes_there}
use Rattle.tds_relay.proofs.relay.Relay.put_held.Goals as goal
use Rattle.tds_relay.specs.Places.{own_held}

pub returns-in_default-clause-body : goal.returns-in_default-clause-body
returns-in_default-clause-body c = none_grows c.args.whole (held_of (get c.args.self.now.applications c.args.key)) c.args.self.now.applications c.args.key (going_of c.args.key c.args.self.now) (going_of c.args.key c.args.self.now) (search rules)

pub returns-clause-body : goal.returns-clause-body
returns-clause-body c =
    let s = c.args.self.now.applications in
    let a = c.in-Some.application.now in
    let b = c.take_held-held.new.self in
    let bytes : c.deref.result.now ≡ own_held a = search rules in
    ok_more c.put.result _ _
    (λ p. subst (λ (xs : List ℕ). Grows c.args.whole xs (going_of c.args.key c.args.self.now) (body_of c.args.key c.put.new.self)) (bytes ∙ ap held_of c.in-Some.ensures.value)
    (grows_asked c.args.whole c.deref.result.now (get (with_value s c.args.key b) c.args.key) (get c.put.new.self.applications c.args.key) (going_of c.args.key c.args.self.now) (going_of c.args.key c.put.new.self) b (written_there s c.args.key a b c.in-Some.ensures.value) c.take_held-held.ensures.asking p))
    c.put.ensures.body

pub returns-clause-others : goal.returns-clause-others
returns-clause-others c = λ reached.
    others_on c.put.result c.args.key c.args.self.now _ c.put.new.self (c.put.ensures.others reached) (written_rest c.args.key _ c.args.self.now _ refl refl refl)

pub returns-in_default-clause-gone : goal.returns-in_default-clause-gone
returns-in_default-clause-gone c = unkept_none c.args.self.now.applications c.args.key _ (search rules)

pub returns-clause-gone : goal.returns-clause-gone
returns-clause-gone c = put_unkept_on c.put.result _ c.args.key c.args.self.now.applications c.in-Some.application.now c.take_held-held.new.self c.put.new.self c.put.ensures.body c.in-Some.ensures.value c.take_held-held.ensures.asking

pub returns-clause-alone : goal.returns-clause-alone
returns-clause-alone c =
    let kept = ends_kept c.args.self.now.applications c.args.key c.in-Some.application.now c.take_held-held.new.self c.in-Some.ensures.value c.take_held-held.ensures.end in
    alone_on c.put.result c.args.key (core_in c.args.self.now) (core_of_ends (pool_in c.args.self.now.pool) (ends_in (with_value c.args.self.now.applications c.args.key c.take_held-held.new.self))) _ c.put.ensures.alone
    (alone_same c.args.key (core_in c.args.self.now) (core_of_ends (pool_in c.args.self.now.pool) (ends_in (with_value c.args.self.now.applications c.args.key c.take_held-held.new.self))) kept refl)

pub returns-in_default-clause-answers : goal.returns-in_default-clause-answers
returns-in_default-clause-answers c = answers_refl c.args.self.now.links.items

pub returns-in_default-clause-lasts : goal.returns-in_default-clause-lasts
returns-in_default-clause-lasts c = inl (last_refl c.args.self.now.links.items)

pub returns-clause-lasts : goal.returns-clause-lasts
returns-clause-lasts c = c.put.ensures.lasts

pub returns-clause-closes : goal.returns-clause-closes
returns-clause-closes c =
    let s = c.args.self.now.applications in
    let a = c.in-Some.application.now in
    let same = ends_kept s c.args.key a c.take_held-held.new.self c.in-Some.ensures.value c.take_held-held.ensures.end in
    let bytes : c.deref.result.now ≡ own_held a = search rules in
    closes_on c.put.result (ItselfFor c.args.key (CannotPut c.args.whole (held_of (get s c.args.key)) c.args.key (end_at (ends_in c.args.self.now.applications) c.args.key) c.args.self.now.pool c.args.self.now.links.items)) _ _ _
    (for_that c.put.result c.args.key _ _ _ _
    (λ why. subst (λ (xs : List ℕ). CannotPut c.args.whole xs c.args.key (end_at (ends_in c.args.self.now.applications) c.args.key) c.args.self.now.pool c.args.self.now.links.items) (bytes ∙ ap held_of c.in-Some.ensures.value)
    (subst (λ (es : EndList). CannotPut c.args.whole c.deref.result.now c.args.key (end_at es c.args.key) c.args.self.now.pool c.args.self.now.links.items) same why)) c.put.ensures.closes)
    (closes_kept _ _ _ same (queues_kept s c.args.key a _ c.in-Some.ensures.value c.take_held-held.ensures.queue) refl (kept_refl c.args.self.now.links.items) (unclosed _ _ refl))

pub returns-in_default-clause-own : goal.returns-in_default-clause-own
returns-in_default-clause-own c = λ reached. own_refl c.args.key c.args.self.now.pool.holds.items c.args.self.now.links.items

pub returns-clause-own : goal.returns-clause-own
returns-clause-own c = λ reached. c.put.ensures.own reached

pub returns-in_default-clause-off : goal.returns-in_default-clause-off
returns-in_default-clause-off c = λ hold its. off_refl hold.number c.args.self.now.links.items

pub returns-clause-off : goal.returns-clause-off
returns-clause-off c = c.put.ensures.off

pub returns-in_default-clause-asks : goal.returns-in_default-clause-asks
returns-in_default-clause-asks c = λ kept. ask_refl c.args.self.now.applications

pub returns-clause-asks : goal.returns-clause-asks
returns-clause-asks c = λ kept.
    let s = c.args.self.now.applications in
    let b = c.take_held-held.new.self in
    let mid = with_value s c.args.key b in
    ask_then c.put.result s mid c.put.new.self.applications
    (ask_begun s c.args.key c.in-Some.application.now b (going_of c.args.key c.args.self.now) c.in-Some.ensures.value (goes_there c.args.key c.args.self.now) kept c.take_held-held.ensures.body.0 c.take_held-held.ensures.asking)
    (ask_ok c.put.result mid c.put.new.self.applications c.put.ensures.asks)
