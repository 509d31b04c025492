use Rattle.std.proofs.Common.{◌∙◌, ℕ, ap, refl, rules, sym, subst, inl, inr, ◌≡◌, None}
use Rattle.tds_relay.specs.Asking.{Opens}
use Rattle.tds_relay.specs.Ties.{pool_in, IsReached}
use Rattle.tds_relay.proofs.steps.Fronts.{moves_closes, moves_does, moves_same}
use Rattle.tds_relay.proofs.steps.Reaching.{ok_more, reaches_turn}
use Rattle.tds_relay.proofs.steps.Underway.{drains}
use Rattle.tds_relay.proofs.bytes.Calls.{stand_on}
use Rattle.tds_relay.specs.Bodies.{Body, Stays, Starts, body_of, going_of, held_of, PutsFrom, standing_in}
use Rattle.slab.specs.Slab.{get}
use Rattle.tds_relay.specs.Reads.{waits_on}
use Rattle.tds_relay.specs.Sparing.{StartsBehind, Drains, IsKept}
use Rattle.tds_relay.proofs.steps.Bodied.{closed_body, closed_starts, shut_starts, shut}
use Rattle.tds_relay.proofs.steps.Going.{behind_closed, behind_there, holds_stay, kept_at, starts_there}
use Rattle.tds_relay.specs.Pool.{Pool, Asks, find_key}
use Rattle.tds_relay.proofs.lending.Resting.{others_all, others_on, others_refl, put_rest, reached_does, same_on}
use Rattle.tds_relay.specs.Sparing as sparing
use Rattle.tds_relay.proofs.spared.Starting.{taken_back, unkept_closed, unkept_none, unkept_over, unkept_there}
use Rattle.tds_relay.specs.declared.pool.Pool as pools
use Rattle.tds_relay.specs.Fronts.{ends_in, core_in, core_of_ends}
use Rattle.tds_relay.specs.Core.{closes, end_at}
use Rattle.tds_relay.proofs.spared.Apart.{alone_changed, alone_on, alone_same, line_does}
use Rattle.tds_relay.proofs.spared.Ordered.{ordered_closing, ordered_refl}
use Rattle.tds_relay.proofs.spared.Begun.{answers_refl, answers_unchanged}
use Rattle.tds_relay.specs.Closings.{Itself, register_in}
use Rattle.tds_relay.proofs.spared.Ended.{its_name}
use Rattle.tds_relay.proofs.spared.Lasting.{last_closed, last_named, last_start, same_but}
use Rattle.tds_relay.proofs.seats.Relays.{kept_end, pool_seated}
use Rattle.tds_relay.proofs.seats.Pools.{action_seated}
use Rattle.tds_relay.proofs.spared.Reasons.{for_reason, for_that}
use Rattle.tds_relay.specs.Reasons.{CannotStart, Unasked, Unput}
use Rattle.tds_relay.proofs.spared.Turned.{ready_there}
use Rattle.tds_relay.proofs.spared.Filling.{own_end, own_on, own_refl, own_same}
use Rattle.tds_relay.proofs.steps.Still.{put_refl, put_shut, put_there}
use Rattle.tds_relay.proofs.spared.Kepts.{kept_not}
use Rattle.tds_relay.proofs.lending.Fresh.{shut_off, shut_refl, shut_unchanged}
use Rattle.tds_relay.proofs.steps.Answering.{ask_ok}
use Rattle.tds_relay.proofs.relay.Relay.start.Goals as goal

pub returns-in-Ok-clause-goes : goal.returns-in-Ok-clause-goes
returns-in-Ok-clause-goes c = ok_more c.put_held.result _ _ (λ g by from h. g by from (reaches_turn by from _ _ _ _ _ c.in-Ok.ensures.ok tt h)) c.put_held.ensures.goes

pub returns-in-Ok-clause-moves : goal.returns-in-Ok-clause-moves
returns-in-Ok-clause-moves c = ok_more c.put_held.result _ _ (λ m may begun by from h. m by from (moves_does by from _ _ _ _ _ _ _ c.in-Ok.ensures.ok (tt, begun c.in-Some-hold_of.hold (sym c.hold_of.ensures ∙ c.in-Some-hold_of.is), may) tt refl h)) c.put_held.ensures.moves

pub returns-in_default-hold_of-clause-moves : goal.returns-in_default-hold_of-clause-moves
returns-in_default-hold_of-clause-moves c = ok_more c.end.result _ _ (λ e may begun by from h. moves_closes by from _ _ _ _ c.args.key (ap pool_in c.end.ensures.pool) e h) c.end.ensures.ends

pub returns-then-is_withdrawn-clause-underway : goal.returns-then-is_withdrawn-clause-underway
returns-then-is_withdrawn-clause-underway c = λ whole waits.
    drains whole _ c.args.key (pool_in c.args.self.now.pool) c.args.self.now.applications c.in-Some.application.now c.in-Some-hold_of.hold c.in-Some.ensures (sym c.is_withdrawn.ensures ∙ c.if-is_withdrawn.true)
    (sym c.hold_of.ensures ∙ c.in-Some-hold_of.is)

pub returns-then-not-is_open-clause-underway : goal.returns-then-not-is_open-clause-underway
returns-then-not-is_open-clause-underway c = λ whole waits. Opens c.in-Some-hold_of.hold (sym c.hold_of.ensures ∙ c.in-Some-hold_of.is) (c.is_open.ensures.shut (search rules))

pub returns-in-Ok-clause-stand : goal.returns-in-Ok-clause-stand
returns-in-Ok-clause-stand c = stand_on c.put_held.result _ _ _ c.in-Ok.ensures.stand c.put_held.ensures.stand

pub returns-in_default-clause-body : goal.returns-in_default-clause-body
returns-in_default-clause-body c = Stays

pub returns-then-is_over-clause-body : goal.returns-then-is_over-clause-body
returns-then-is_over-clause-body c = Stays

pub returns-in_default-asking-clause-body : goal.returns-in_default-asking-clause-body
returns-in_default-asking-clause-body c = Stays

pub returns-then-is_withdrawn-clause-body : goal.returns-then-is_withdrawn-clause-body
returns-then-is_withdrawn-clause-body c = Stays

pub returns-then-not-is_open-clause-body : goal.returns-then-not-is_open-clause-body
returns-then-not-is_open-clause-body c = Stays

pub returns-in_default-hold_of-clause-body : goal.returns-in_default-hold_of-clause-body
returns-in_default-hold_of-clause-body c = ok_more c.end.result _ _ (λ e. closed_starts (body_of c.args.key c.args.self.now) (body_of c.args.key c.end.new.self) (closed_body c.args.key c.end.new.self.applications _ (going_of c.args.key c.end.new.self) e)) c.end.ensures.ends

pub returns-in-Ok-clause-body : goal.returns-in-Ok-clause-body
returns-in-Ok-clause-body c =
    let kept = kept_at (get c.args.self.now.applications c.args.key) (going_of c.args.key c.args.self.now) c.in-Some.application.now c.in-Waits.kind c.in-Waits.whole c.in-Some.ensures (sym c.is_over.ensures ∙ c.if-is_over.false) (sym c.asking.ensures ∙ c.in-Waits.is) in
    ok_more c.put_held.result _ _
    (λ g. subst (λ (b : Body). Starts b (body_of c.args.key c.put_held.new.self)) (sym kept)
    (starts_there c.in-Waits.whole (held_of (get c.args.self.now.applications c.args.key)) c.in-Waits.kind c.args.key c.args.self.now.pool c.ask.new.self c.args.self.now.links.items _ c.in-Some-hold_of.hold (body_of c.args.key c.put_held.new.self) c.in-Ok.ensures.whose
    (sym c.hold_of.ensures ∙ c.in-Some-hold_of.is) (holds_stay c.args.key _ (pool_in c.args.self.now.pool) (pool_in c.ask.new.self) _ _ c.in-Ok.ensures.ok) c.in-Ok.ensures.opened (c.is_open.ensures.there (search rules)) g))
    c.put_held.ensures.body

pub returns-in-Ok-clause-others : goal.returns-in-Ok-clause-others
returns-in-Ok-clause-others c = λ reached.
    others_on c.put_held.result c.args.key c.args.self.now _ c.put_held.new.self
    (c.put_held.ensures.others (reached_does (pool_in c.args.self.now.pool) (pool_in c.ask.new.self) c.args.key Asks _ _ c.in-Ok.ensures.ok tt reached))
    (put_rest c.args.key c.in-Some-hold_of.hold c.args.self.now _ c.ask.new.self reached (sym c.hold_of.ensures ∙ c.in-Some-hold_of.is) c.ask.ensures.others refl refl (λ k goes. refl))

pub returns-in_default-hold_of-clause-others : goal.returns-in_default-hold_of-clause-others
returns-in_default-hold_of-clause-others c = λ reached.
    others_all c.end.result c.args.key c.args.self.now c.args.self.now c.end.new.self (same_on c.end.result c.args.self.now c.end.new.self c.end.ensures.pool c.end.ensures.links c.end.ensures.asks)
    (others_refl c.args.key c.args.self.now)

pub returns-in_default-clause-waits : goal.returns-in_default-clause-waits
returns-in_default-clause-waits c = inl (unkept_none c.args.self.now.applications c.args.key _ (search rules))

pub returns-then-is_over-clause-waits : goal.returns-then-is_over-clause-waits
returns-then-is_over-clause-waits c = inl (unkept_over c.args.self.now.applications c.args.key c.in-Some.application.now _ c.in-Some.ensures (sym c.is_over.ensures ∙ c.if-is_over.true))

pub returns-in_default-asking-clause-waits : goal.returns-in_default-asking-clause-waits
returns-in_default-asking-clause-waits c = inl (unkept_there c.args.key c.args.self.now c.in-Some.application.now c.in-Some.ensures (search rules))

pub returns-in_default-hold_of-clause-waits : goal.returns-in_default-hold_of-clause-waits
returns-in_default-hold_of-clause-waits c = ok_more c.end.result _ _ (λ s. inl (unkept_closed _ (s _))) c.end.ensures.shuts

pub returns-then-is_withdrawn-clause-waits : goal.returns-then-is_withdrawn-clause-waits
returns-then-is_withdrawn-clause-waits c = inr (Drains (taken_back c.args.self.now.applications c.args.key c.in-Some.application.now c.in-Some.ensures (sym c.is_over.ensures ∙ c.if-is_over.false) (sym c.is_withdrawn.ensures ∙ c.if-is_withdrawn.true)))

pub returns-then-not-is_open-clause-waits : goal.returns-then-not-is_open-clause-waits
returns-then-not-is_open-clause-waits c = inr (sparing.Opens c.in-Some-hold_of.hold (sym c.hold_of.ensures ∙ c.in-Some-hold_of.is) (c.is_open.ensures.shut (search rules)))

pub returns-in-Ok-clause-waits : goal.returns-in-Ok-clause-waits
returns-in-Ok-clause-waits c = ok_more c.put_held.result _ _ (λ g. inl g) c.put_held.ensures.gone

pub returns-in_default-hold_of-clause-alone : goal.returns-in_default-hold_of-clause-alone
returns-in_default-hold_of-clause-alone c = ok_more c.end.result _ _ (λ e. alone_changed c.args.key closes (core_in c.args.self.now) (core_in c.end.new.self) e (ap (λ (d : pools.Pool). (pool_in d).line) c.end.ensures.pool)) c.end.ensures.ends

pub returns-in-Ok-clause-alone : goal.returns-in-Ok-clause-alone
returns-in-Ok-clause-alone c =
    alone_on c.put_held.result c.args.key (core_in c.args.self.now) (core_of_ends (pool_in c.ask.new.self) (ends_in c.args.self.now.applications)) _ c.put_held.ensures.alone
    (alone_same c.args.key (core_in c.args.self.now) (core_of_ends (pool_in c.ask.new.self) (ends_in c.args.self.now.applications)) refl (line_does c.args.key _ _ _ _ _ c.in-Ok.ensures.ok))

pub returns-in_default-hold_of-clause-ordered : goal.returns-in_default-hold_of-clause-ordered
returns-in_default-hold_of-clause-ordered c = ordered_closing c.end.result _ _ _ _ c.end.ensures.ordered (ordered_refl _)

pub returns-in-Ok-clause-closes : goal.returns-in-Ok-clause-closes
returns-in-Ok-clause-closes c =
    let ready = ready_there c.args.key c.args.self.now.applications c.args.self.now.pool c.args.self.now.links.items c.in-Some.application.now c.in-Some-hold_of.hold c.in-Some.ensures (sym c.is_over.ensures ∙ c.if-is_over.false) (sym c.is_withdrawn.ensures ∙ c.if-is_withdrawn.false)
    (sym c.hold_of.ensures ∙ c.in-Some-hold_of.is) (c.is_open.ensures.open (search rules)) in
    for_that c.put_held.result c.args.key _ _ _ _ (λ why. inr (subst (λ (b : Body). CannotStart c.args.key (end_at (ends_in c.args.self.now.applications) c.args.key) c.args.self.now.pool c.args.self.now.links.items b) (sym (kept_at (get c.args.self.now.applications c.args.key) (going_of c.args.key c.args.self.now) c.in-Some.application.now c.in-Waits.kind c.in-Waits.whole c.in-Some.ensures (sym c.is_over.ensures ∙ c.if-is_over.false) (sym c.asking.ensures ∙ c.in-Waits.is))) (ready, Unput _ c.in-Ok.ensures.whose c.ask.new.self c.in-Ok.ensures.ok c.in-Ok.ensures.opened why))) c.put_held.ensures.closes

pub returns-in_default-clause-placed : goal.returns-in_default-clause-placed
returns-in_default-clause-placed c = inl (unkept_none c.args.self.now.applications c.args.key _ (search rules))

pub returns-then-is_over-clause-placed : goal.returns-then-is_over-clause-placed
returns-then-is_over-clause-placed c = inl (unkept_over c.args.self.now.applications c.args.key c.in-Some.application.now _ c.in-Some.ensures (sym c.is_over.ensures ∙ c.if-is_over.true))

pub returns-in_default-asking-clause-placed : goal.returns-in_default-asking-clause-placed
returns-in_default-asking-clause-placed c = inl (unkept_there c.args.key c.args.self.now c.in-Some.application.now c.in-Some.ensures (search rules))

pub returns-in_default-hold_of-clause-placed : goal.returns-in_default-hold_of-clause-placed
returns-in_default-hold_of-clause-placed c = ok_more c.end.result _ _ (λ s. inl (unkept_closed _ (s _))) c.end.ensures.shuts

pub returns-then-is_withdrawn-clause-placed : goal.returns-then-is_withdrawn-clause-placed
returns-then-is_withdrawn-clause-placed c = inr (Drains (taken_back c.args.self.now.applications c.args.key c.in-Some.application.now c.in-Some.ensures (sym c.is_over.ensures ∙ c.if-is_over.false) (sym c.is_withdrawn.ensures ∙ c.if-is_withdrawn.true)))

pub returns-then-not-is_open-clause-placed : goal.returns-then-not-is_open-clause-placed
returns-then-not-is_open-clause-placed c = inr (sparing.Opens c.in-Some-hold_of.hold (sym c.hold_of.ensures ∙ c.in-Some-hold_of.is) (c.is_open.ensures.shut (search rules)))

pub returns-in-Ok-clause-placed : goal.returns-in-Ok-clause-placed
returns-in-Ok-clause-placed c = ok_more c.put_held.result _ _ (λ g. inl g) c.put_held.ensures.gone

pub returns-in_default-clause-answers : goal.returns-in_default-clause-answers
returns-in_default-clause-answers c = answers_refl c.args.self.now.links.items

pub returns-then-is_over-clause-answers : goal.returns-then-is_over-clause-answers
returns-then-is_over-clause-answers c = answers_refl c.args.self.now.links.items

pub returns-in_default-asking-clause-answers : goal.returns-in_default-asking-clause-answers
returns-in_default-asking-clause-answers c = answers_refl c.args.self.now.links.items

pub returns-then-is_withdrawn-clause-answers : goal.returns-then-is_withdrawn-clause-answers
returns-then-is_withdrawn-clause-answers c = answers_refl c.args.self.now.links.items

pub returns-then-not-is_open-clause-answers : goal.returns-then-not-is_open-clause-answers
returns-then-not-is_open-clause-answers c = answers_refl c.args.self.now.links.items

pub returns-in_default-hold_of-clause-answers : goal.returns-in_default-hold_of-clause-answers
returns-in_default-hold_of-clause-answers c = answers_unchanged c.end.result _ _ c.end.ensures.links

pub returns-in_default-clause-lasts : goal.returns-in_default-clause-lasts
returns-in_default-clause-lasts c = last_start (Itself c.args.key) (register_in c.args.self.now)

pub returns-then-is_over-clause-lasts : goal.returns-then-is_over-clause-lasts
returns-then-is_over-clause-lasts c = last_start (Itself c.args.key) (register_in c.args.self.now)

pub returns-in_default-asking-clause-lasts : goal.returns-in_default-asking-clause-lasts
returns-in_default-asking-clause-lasts c = last_start (Itself c.args.key) (register_in c.args.self.now)

pub returns-then-is_withdrawn-clause-lasts : goal.returns-then-is_withdrawn-clause-lasts
returns-then-is_withdrawn-clause-lasts c = last_start (Itself c.args.key) (register_in c.args.self.now)

pub returns-then-not-is_open-clause-lasts : goal.returns-then-not-is_open-clause-lasts
returns-then-not-is_open-clause-lasts c = last_start (Itself c.args.key) (register_in c.args.self.now)

pub returns-in_default-hold_of-clause-lasts : goal.returns-in_default-hold_of-clause-lasts
returns-in_default-hold_of-clause-lasts c = same_but c.end.result (Itself c.args.key) (register_in c.args.self.now) (register_in c.end.new.self) c.end.ensures.links

pub returns-in-Ok-clause-lasts : goal.returns-in-Ok-clause-lasts
returns-in-Ok-clause-lasts c =
    last_named c.put_held.result c.args.key c.in-Some.application.now.tag (register_in c.args.self.now) c.put_held.new.self (its_name c.args.self.now c.args.key c.in-Some.application.now c.in-Some.ensures (sym c.is_over.ensures ∙ c.if-is_over.false)) c.put_held.ensures.lasts

pub returns-in-Ok-clause-seated : goal.returns-in-Ok-clause-seated
returns-in-Ok-clause-seated c = λ s. c.put_held.ensures.seated (action_seated c.args.key Asks (pool_in c.args.self.now.pool) (pool_in c.ask.new.self) _ _ c.args.self.now.links.items c.in-Ok.ensures.ok s)

pub returns-in_ok-unless_memory-in-Err-clause-seated : goal.returns-in_ok-unless_memory-in-Err-clause-seated
returns-in_ok-unless_memory-in-Err-clause-seated c = λ s. c.fail.ensures.seated (pool_seated (pool_in c.args.self.now.pool) (pool_in c.ask.new.self) c.args.self.now.links.items c.in-Err.ensures.err s)

pub returns-in_default-hold_of-clause-seated : goal.returns-in_default-hold_of-clause-seated
returns-in_default-hold_of-clause-seated c = λ s. kept_end c.end.result c.args.self.now c.end.new.self c.end.ensures.pool c.end.ensures.links s

pub returns-in_ok-unless_memory-in-Err-clause-moves : goal.returns-in_ok-unless_memory-in-Err-clause-moves
returns-in_ok-unless_memory-in-Err-clause-moves c = ok_more c.fail.result _ _ (λ m may begun by from h. m by from (moves_same by from _ _ _ _ c.in-Err.ensures.err refl h)) c.fail.ensures.moves

pub returns-in_ok-unless_memory-in-Err-clause-body : goal.returns-in_ok-unless_memory-in-Err-clause-body
returns-in_ok-unless_memory-in-Err-clause-body c = ok_more c.fail.result _ _ (λ d. shut_starts c.fail.new.self.applications c.args.key (body_of c.args.key c.args.self.now) (going_of c.args.key c.fail.new.self) d) c.fail.ensures.over

pub returns-in_ok-unless_memory-in-Err-clause-others : goal.returns-in_ok-unless_memory-in-Err-clause-others
returns-in_ok-unless_memory-in-Err-clause-others c = λ reached.
    others_all c.fail.result c.args.key c.args.self.now _ c.fail.new.self (c.fail.ensures.rests (subst (λ (d : Pool). IsReached d) (sym c.in-Err.ensures.err) reached))
    (put_rest c.args.key c.in-Some-hold_of.hold c.args.self.now _ c.ask.new.self reached (sym c.hold_of.ensures ∙ c.in-Some-hold_of.is) c.ask.ensures.others refl refl (λ k goes. refl))

pub returns-in_ok-unless_memory-in-Err-clause-waits : goal.returns-in_ok-unless_memory-in-Err-clause-waits
returns-in_ok-unless_memory-in-Err-clause-waits c = ok_more c.fail.result _ _ (λ d. inl (unkept_closed _ (shut c.fail.new.self.applications c.args.key _ d))) c.fail.ensures.over

pub returns-in_ok-unless_memory-in-Err-clause-alone : goal.returns-in_ok-unless_memory-in-Err-clause-alone
returns-in_ok-unless_memory-in-Err-clause-alone c =
    alone_on c.fail.result c.args.key (core_in c.args.self.now) (core_of_ends (pool_in c.ask.new.self) (ends_in c.args.self.now.applications)) _ c.fail.ensures.alone
    (alone_same c.args.key (core_in c.args.self.now) (core_of_ends (pool_in c.ask.new.self) (ends_in c.args.self.now.applications)) refl (ap (λ (d : Pool). d.line) c.in-Err.ensures.err))

pub returns-in_ok-unless_memory-in-Err-clause-placed : goal.returns-in_ok-unless_memory-in-Err-clause-placed
returns-in_ok-unless_memory-in-Err-clause-placed c = ok_more c.fail.result _ _ (λ d. inl (unkept_closed _ (shut c.fail.new.self.applications c.args.key _ d))) c.fail.ensures.over

pub returns-in_ok-unless_memory-in-Err-clause-lasts : goal.returns-in_ok-unless_memory-in-Err-clause-lasts
returns-in_ok-unless_memory-in-Err-clause-lasts c =
    last_closed c.fail.result c.args.key c.in-Some.application.now.tag (register_in c.args.self.now) (register_in c.fail.new.self) (its_name c.args.self.now c.args.key c.in-Some.application.now c.in-Some.ensures (sym c.is_over.ensures ∙ c.if-is_over.false)) c.fail.ensures.over

pub returns-in_ok-unless_memory-in-Err-clause-closes : goal.returns-in_ok-unless_memory-in-Err-clause-closes
returns-in_ok-unless_memory-in-Err-clause-closes c =
    let ready = ready_there c.args.key c.args.self.now.applications c.args.self.now.pool c.args.self.now.links.items c.in-Some.application.now c.in-Some-hold_of.hold c.in-Some.ensures (sym c.is_over.ensures ∙ c.if-is_over.false) (sym c.is_withdrawn.ensures ∙ c.if-is_withdrawn.false)
    (sym c.hold_of.ensures ∙ c.in-Some-hold_of.is) (c.is_open.ensures.open (search rules)) in
    let its = sym c.hold_of.ensures ∙ c.in-Some-hold_of.is in
    for_reason c.fail.result c.args.key _ _ _
    (inr (subst (λ (b : Body). CannotStart c.args.key (end_at (ends_in c.args.self.now.applications) c.args.key) c.args.self.now.pool c.args.self.now.links.items b) (sym (kept_at (get c.args.self.now.applications c.args.key) (going_of c.args.key c.args.self.now) c.in-Some.application.now c.in-Waits.kind c.in-Waits.whole c.in-Some.ensures (sym c.is_over.ensures ∙ c.if-is_over.false) (sym c.asking.ensures ∙ c.in-Waits.is)))
    (ready, Unasked (record { hold = c.in-Some-hold_of.hold; its = its; refusal = c.in-Err.refusal; reason = c.in_ok-unless_memory-in-Err.ensures; refuses = λ count. c.in-Err.ensures.refused c.in-Some-hold_of.hold its })))) c.fail.ensures.closes

pub returns-in_default-hold_of-clause-closes : goal.returns-in_default-hold_of-clause-closes
returns-in_default-hold_of-clause-closes c =
    let none : c.hold_of.result ≡ None = search rules in
    for_reason c.end.result c.args.key _ _ _ (inl (sym c.hold_of.ensures ∙ none)) c.end.ensures.closes

pub returns-in_default-clause-behind : goal.returns-in_default-clause-behind
returns-in_default-clause-behind c = λ hold its. sparing.Stays

pub returns-then-is_over-clause-behind : goal.returns-then-is_over-clause-behind
returns-then-is_over-clause-behind c = λ hold its. sparing.Stays

pub returns-in_default-asking-clause-behind : goal.returns-in_default-asking-clause-behind
returns-in_default-asking-clause-behind c = λ hold its. sparing.Stays

pub returns-then-is_withdrawn-clause-behind : goal.returns-then-is_withdrawn-clause-behind
returns-then-is_withdrawn-clause-behind c = λ hold its. sparing.Stays

pub returns-then-not-is_open-clause-behind : goal.returns-then-not-is_open-clause-behind
returns-then-not-is_open-clause-behind c = λ hold its. sparing.Stays

pub returns-in_default-hold_of-clause-behind : goal.returns-in_default-hold_of-clause-behind
returns-in_default-hold_of-clause-behind c = ok_more c.end.result _ _ (λ e hold its. behind_closed _ _ (body_of c.args.key c.end.new.self) (closed_body c.args.key c.end.new.self.applications _ (going_of c.args.key c.end.new.self) e)) c.end.ensures.ends

pub returns-in_ok-unless_memory-in-Err-clause-behind : goal.returns-in_ok-unless_memory-in-Err-clause-behind
returns-in_ok-unless_memory-in-Err-clause-behind c = ok_more c.fail.result _ _ (λ d hold its. behind_closed _ _ (body_of c.args.key c.fail.new.self) (shut c.fail.new.self.applications c.args.key (going_of c.args.key c.fail.new.self) d)) c.fail.ensures.over

pub returns-in-Ok-clause-behind : goal.returns-in-Ok-clause-behind
returns-in-Ok-clause-behind c =
    let kept = kept_at (get c.args.self.now.applications c.args.key) (going_of c.args.key c.args.self.now) c.in-Some.application.now c.in-Waits.kind c.in-Waits.whole c.in-Some.ensures (sym c.is_over.ensures ∙ c.if-is_over.false) (sym c.asking.ensures ∙ c.in-Waits.is) in
    ok_more c.put_held.result _ _
    (λ g hold its. subst (λ (b : Body). StartsBehind (waits_on hold.number c.args.self.now.links.items) b (body_of c.args.key c.put_held.new.self)) (sym kept)
    (behind_there c.in-Waits.whole (held_of (get c.args.self.now.applications c.args.key)) c.in-Waits.kind c.args.key c.args.self.now.pool c.ask.new.self c.args.self.now.links.items _ c.in-Some-hold_of.hold hold (body_of c.args.key c.put_held.new.self) c.in-Ok.ensures.whose
    (sym c.hold_of.ensures ∙ c.in-Some-hold_of.is) its (holds_stay c.args.key _ (pool_in c.args.self.now.pool) (pool_in c.ask.new.self) _ _ c.in-Ok.ensures.ok) c.in-Ok.ensures.opened (c.is_open.ensures.there (search rules)) g))
    c.put_held.ensures.body

pub returns-in_default-clause-own : goal.returns-in_default-clause-own
returns-in_default-clause-own c = λ reached. own_refl c.args.key c.args.self.now.pool.holds.items c.args.self.now.links.items

pub returns-then-is_over-clause-own : goal.returns-then-is_over-clause-own
returns-then-is_over-clause-own c = λ reached. own_refl c.args.key c.args.self.now.pool.holds.items c.args.self.now.links.items

pub returns-in_default-asking-clause-own : goal.returns-in_default-asking-clause-own
returns-in_default-asking-clause-own c = λ reached. own_refl c.args.key c.args.self.now.pool.holds.items c.args.self.now.links.items

pub returns-then-is_withdrawn-clause-own : goal.returns-then-is_withdrawn-clause-own
returns-then-is_withdrawn-clause-own c = λ reached. own_refl c.args.key c.args.self.now.pool.holds.items c.args.self.now.links.items

pub returns-then-not-is_open-clause-own : goal.returns-then-not-is_open-clause-own
returns-then-not-is_open-clause-own c = λ reached. own_refl c.args.key c.args.self.now.pool.holds.items c.args.self.now.links.items

pub returns-in_default-hold_of-clause-own : goal.returns-in_default-hold_of-clause-own
returns-in_default-hold_of-clause-own c = λ reached. own_end c.end.result c.args.key c.args.self.now c.end.new.self c.end.ensures.pool c.end.ensures.links

pub returns-in-Ok-clause-own : goal.returns-in-Ok-clause-own
returns-in-Ok-clause-own c = λ reached.
    own_on c.put_held.result c.args.key c.args.self.now.pool.holds.items c.ask.new.self.holds.items c.put_held.new.self.pool.holds.items c.args.self.now.links.items c.args.self.now.links.items c.put_held.new.self.links.items
    (own_same c.args.key c.args.self.now.pool.holds.items c.args.self.now.links.items c.ask.new.self.holds.items c.args.self.now.links.items
    (holds_stay c.args.key _ (pool_in c.args.self.now.pool) (pool_in c.ask.new.self) _ _ c.in-Ok.ensures.ok) (λ n. refl))
    (c.put_held.ensures.own (reached_does (pool_in c.args.self.now.pool) (pool_in c.ask.new.self) c.args.key Asks _ _ c.in-Ok.ensures.ok tt reached))

pub returns-in_ok-unless_memory-in-Err-clause-own : goal.returns-in_ok-unless_memory-in-Err-clause-own
returns-in_ok-unless_memory-in-Err-clause-own c = λ reached.
    own_on c.fail.result c.args.key c.args.self.now.pool.holds.items c.ask.new.self.holds.items c.fail.new.self.pool.holds.items c.args.self.now.links.items c.args.self.now.links.items c.fail.new.self.links.items
    (own_same c.args.key c.args.self.now.pool.holds.items c.args.self.now.links.items c.ask.new.self.holds.items c.args.self.now.links.items
    (ap (λ (d : Pool). d.holds) c.in-Err.ensures.err) (λ n. refl)) c.fail.ensures.own

pub returns-in_default-clause-puts : goal.returns-in_default-clause-puts
returns-in_default-clause-puts c = put_refl (standing_in c.args.key c.args.self.now)

pub returns-then-is_over-clause-puts : goal.returns-then-is_over-clause-puts
returns-then-is_over-clause-puts c = put_refl (standing_in c.args.key c.args.self.now)

pub returns-in_default-asking-clause-puts : goal.returns-in_default-asking-clause-puts
returns-in_default-asking-clause-puts c = put_refl (standing_in c.args.key c.args.self.now)

pub returns-then-is_withdrawn-clause-puts : goal.returns-then-is_withdrawn-clause-puts
returns-then-is_withdrawn-clause-puts c = put_refl (standing_in c.args.key c.args.self.now)

pub returns-then-not-is_open-clause-puts : goal.returns-then-not-is_open-clause-puts
returns-then-not-is_open-clause-puts c = put_refl (standing_in c.args.key c.args.self.now)

pub returns-in_default-hold_of-clause-puts : goal.returns-in_default-hold_of-clause-puts
returns-in_default-hold_of-clause-puts c = ok_more c.end.result _ _ (λ e. put_shut _ (body_of c.args.key c.args.self.now) (standing_in c.args.key c.end.new.self) (closed_body c.args.key c.end.new.self.applications _ (going_of c.args.key c.end.new.self) e)) c.end.ensures.ends

pub returns-in_ok-unless_memory-in-Err-clause-puts : goal.returns-in_ok-unless_memory-in-Err-clause-puts
returns-in_ok-unless_memory-in-Err-clause-puts c = ok_more c.fail.result _ _ (λ d. put_shut _ (body_of c.args.key c.args.self.now) (standing_in c.args.key c.fail.new.self) (shut c.fail.new.self.applications c.args.key (going_of c.args.key c.fail.new.self) d)) c.fail.ensures.over

pub returns-in-Ok-clause-puts : goal.returns-in-Ok-clause-puts
returns-in-Ok-clause-puts c =
    let kept = kept_at (get c.args.self.now.applications c.args.key) (going_of c.args.key c.args.self.now) c.in-Some.application.now c.in-Waits.kind c.in-Waits.whole c.in-Some.ensures (sym c.is_over.ensures ∙ c.if-is_over.false) (sym c.asking.ensures ∙ c.in-Waits.is) in
    ok_more c.put_held.result _ _
    (λ g. subst (λ (b : Body). PutsFrom (λ (number : ℕ). waits_on number c.args.self.now.links.items) b (standing_in c.args.key c.put_held.new.self)) (sym kept)
    (put_there c.in-Waits.whole (held_of (get c.args.self.now.applications c.args.key)) c.in-Waits.kind c.args.key c.args.self.now.pool c.ask.new.self c.args.self.now.links.items _ c.in-Some-hold_of.hold (standing_in c.args.key c.put_held.new.self) c.in-Ok.ensures.whose
    (sym c.hold_of.ensures ∙ c.in-Some-hold_of.is) (holds_stay c.args.key _ (pool_in c.args.self.now.pool) (pool_in c.ask.new.self) _ _ c.in-Ok.ensures.ok) c.in-Ok.ensures.opened (c.is_open.ensures.there (search rules)) g))
    c.put_held.ensures.body

pub returns-in_default-clause-stays : goal.returns-in_default-clause-stays
returns-in_default-clause-stays c = λ kept. refl

pub returns-then-is_over-clause-stays : goal.returns-then-is_over-clause-stays
returns-then-is_over-clause-stays c = λ kept. refl

pub returns-in_default-asking-clause-stays : goal.returns-in_default-asking-clause-stays
returns-in_default-asking-clause-stays c = λ kept. refl

pub returns-then-is_withdrawn-clause-stays : goal.returns-then-is_withdrawn-clause-stays
returns-then-is_withdrawn-clause-stays c = λ kept. refl

pub returns-then-not-is_open-clause-stays : goal.returns-then-not-is_open-clause-stays
returns-then-not-is_open-clause-stays c = λ kept. refl

pub returns-in_default-hold_of-clause-stays : goal.returns-in_default-hold_of-clause-stays
returns-in_default-hold_of-clause-stays c = ok_more c.end.result _ _ (λ s kept. absurd (kept_not _ (unkept_closed _ (s _)) kept)) c.end.ensures.shuts

pub returns-in-Ok-clause-stays : goal.returns-in-Ok-clause-stays
returns-in-Ok-clause-stays c = ok_more c.put_held.result _ _ (λ g kept. absurd (kept_not _ g kept)) c.put_held.ensures.gone

pub returns-in_ok-unless_memory-in-Err-clause-stays : goal.returns-in_ok-unless_memory-in-Err-clause-stays
returns-in_ok-unless_memory-in-Err-clause-stays c = ok_more c.fail.result _ _ (λ d kept. absurd (kept_not _ (unkept_closed _ (shut c.fail.new.self.applications c.args.key _ d)) kept)) c.fail.ensures.over

pub returns-in_default-clause-shut : goal.returns-in_default-clause-shut
returns-in_default-clause-shut c = shut_refl c.args.self.now.links.items

pub returns-then-is_over-clause-shut : goal.returns-then-is_over-clause-shut
returns-then-is_over-clause-shut c = shut_refl c.args.self.now.links.items

pub returns-in_default-asking-clause-shut : goal.returns-in_default-asking-clause-shut
returns-in_default-asking-clause-shut c = shut_refl c.args.self.now.links.items

pub returns-then-is_withdrawn-clause-shut : goal.returns-then-is_withdrawn-clause-shut
returns-then-is_withdrawn-clause-shut c = shut_refl c.args.self.now.links.items

pub returns-then-not-is_open-clause-shut : goal.returns-then-not-is_open-clause-shut
returns-then-not-is_open-clause-shut c = shut_refl c.args.self.now.links.items

pub returns-in_default-hold_of-clause-shut : goal.returns-in_default-hold_of-clause-shut
returns-in_default-hold_of-clause-shut c = shut_unchanged c.end.result c.args.self.now.links.items c.end.new.self.links.items c.end.ensures.links

pub returns-in-Ok-clause-shut : goal.returns-in-Ok-clause-shut
returns-in-Ok-clause-shut c =
    shut_off c.put_held.result c.in-Some-hold_of.hold.number c.args.self.now.links.items c.put_held.new.self.links.items (c.is_open.ensures.open (search rules))
    (ok_more c.put_held.result _ _ (λ off. off c.in-Some-hold_of.hold (ap (find_key c.args.key) (holds_stay c.args.key _ (pool_in c.args.self.now.pool) (pool_in c.ask.new.self) _ _ c.in-Ok.ensures.ok) ∙ sym c.hold_of.ensures ∙ c.in-Some-hold_of.is)) c.put_held.ensures.off)

pub returns-in_ok-unless_memory-in-Err-clause-shut : goal.returns-in_ok-unless_memory-in-Err-clause-shut
returns-in_ok-unless_memory-in-Err-clause-shut c = shut_off c.fail.result c.in-Some-hold_of.hold.number c.args.self.now.links.items c.fail.new.self.links.items (c.is_open.ensures.open (search rules)) c.fail.ensures.off

pub returns-in_default-hold_of-clause-asks : goal.returns-in_default-hold_of-clause-asks
returns-in_default-hold_of-clause-asks c = ask_ok c.end.result c.args.self.now.applications c.end.new.self.applications c.end.ensures.asks

pub returns-in-Ok-clause-asks : goal.returns-in-Ok-clause-asks
returns-in-Ok-clause-asks c = c.put_held.ensures.asks (subst IsKept (sym (kept_at (get c.args.self.now.applications c.args.key) _ c.in-Some.application.now c.in-Waits.kind c.in-Waits.whole c.in-Some.ensures (sym c.is_over.ensures ∙ c.if-is_over.false) (sym c.asking.ensures ∙ c.in-Waits.is))) tt)

pub returns-in_ok-unless_memory-in-Err-clause-asks : goal.returns-in_ok-unless_memory-in-Err-clause-asks
returns-in_ok-unless_memory-in-Err-clause-asks c = ask_ok c.fail.result c.args.self.now.applications c.fail.new.self.applications c.fail.ensures.asks
