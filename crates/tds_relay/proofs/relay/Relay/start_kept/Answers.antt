use Rattle.std.proofs.Common.{◌≡◌, ◌∙◌, None, Some, inl, refl, rules, sym, inr}
use Rattle.tds_relay.specs.Waiting.{IsUnheldOrTurnedAway}
use Rattle.tds_relay.specs.Asking.{Closes}
use Rattle.tds_relay.specs.Bodies.{Stays, body_of, going_of, standing_in}
use Rattle.tds_relay.specs.Fronts.{core_in}
use Rattle.tds_relay.specs.Ties.{pool_in}
use Rattle.tds_relay.specs.Sparing as sparing
use Rattle.tds_relay.proofs.steps.Going.{behind_closed}
use Rattle.tds_relay.proofs.steps.Bodied.{shut, shut_starts}
use Rattle.tds_relay.proofs.steps.Fronts.{unheld_reset}
use Rattle.tds_relay.proofs.steps.Reaching.{ok_more}
use Rattle.tds_relay.proofs.steps.Staying.{stays_refl}
use Rattle.tds_relay.proofs.spared.Apart.{alone_refl}
use Rattle.tds_relay.proofs.lending.Resting.{others_all, others_refl}
use Rattle.tds_relay.proofs.spared.Starting.{unkept_closed}
use Rattle.tds_relay.proofs.spared.Begun.{answers_refl}
use Rattle.tds_relay.specs.Closings.{Itself, register_in}
use Rattle.tds_relay.proofs.spared.Lasting.{last_closed, last_start}
use Rattle.tds_relay.proofs.spared.Closings.{closes_refl}
use Rattle.tds_relay.proofs.spared.Reasons.{for_reason, for_that}
use Rattle.tds_relay.proofs.spared.Turned.{turned_by, unstarted_or}
use Rattle.tds_relay.specs.Reasons.{ItselfFor}
use Rattle.tds_relay.proofs.spared.Filling.{own_refl}
use Rattle.tds_relay.proofs.steps.Still.{put_refl, put_shut}
use Rattle.tds_relay.proofs.spared.Kepts.{kept_not}
use Rattle.tds_relay.proofs.lending.Fresh.{held_open, shut_off, shut_refl}
use Rattle.tds_relay.proofs.steps.Answering.{ask_ok}
use Rattle.tds_relay.proofs.relay.Relay.start_kept.Goals as goal

pub returns-in_default-clause-moves : goal.returns-in_default-clause-moves
returns-in_default-clause-moves c =
    let none : c.hold_of.result ≡ None = search rules in
    let unheld = sym c.hold_of.ensures ∙ none in
    ok_more c.start.result _ _ (λ m. m (unheld_reset (pool_in c.args.self.now.pool) c.args.key _ unheld) (λ hold its. absurd (let u : None ≡ Some hold = sym unheld ∙ its in let v : ⊥ = cc in v))) c.start.ensures.moves

pub returns-then-may_ask-clause-moves : goal.returns-then-may_ask-clause-moves
returns-then-may_ask-clause-moves c = ok_more c.start-then-may_ask.result _ _ (λ m. m (c.may_ask.ensures.reset (sym c.hold_of.ensures ∙ c.in-Some.is) (search rules)) (λ hold its. c.may_ask.ensures.begun (search rules))) c.start-then-may_ask.ensures.moves

pub returns-then-is_held_back-clause-read : goal.returns-then-is_held_back-clause-read
returns-then-is_held_back-clause-read c = stays_refl c.args.self.now.links.items

pub returns-then-is_held_back-clause-underway : goal.returns-then-is_held_back-clause-underway
returns-then-is_held_back-clause-underway c = c.is_held_back.ensures.underway (sym c.hold_of.ensures ∙ c.in-Some.is) (search rules)

pub returns-then-is_held_back-clause-body : goal.returns-then-is_held_back-clause-body
returns-then-is_held_back-clause-body c = Stays

pub returns-then-is_held_back-clause-others : goal.returns-then-is_held_back-clause-others
returns-then-is_held_back-clause-others c = λ reached. others_refl c.args.key c.args.self.now

pub returns-then-is_held_back-clause-waits : goal.returns-then-is_held_back-clause-waits
returns-then-is_held_back-clause-waits c = c.is_held_back.ensures.held (sym c.hold_of.ensures ∙ c.in-Some.is) (search rules)

pub returns-then-is_held_back-clause-alone : goal.returns-then-is_held_back-clause-alone
returns-then-is_held_back-clause-alone c = alone_refl c.args.key (core_in c.args.self.now)

pub returns-clause-underway : goal.returns-clause-underway
returns-clause-underway c = λ whole waits. ok_more c.fail.result _ _ (λ d. Closes d) c.fail.ensures.over

pub returns-clause-body : goal.returns-clause-body
returns-clause-body c = ok_more c.fail.result _ _ (λ d. shut_starts c.fail.new.self.applications c.args.key (body_of c.args.key c.args.self.now) (going_of c.args.key c.fail.new.self) d) c.fail.ensures.over

pub returns-clause-others : goal.returns-clause-others
returns-clause-others c = λ reached. others_all c.fail.result c.args.key c.args.self.now c.args.self.now c.fail.new.self (c.fail.ensures.rests reached) (others_refl c.args.key c.args.self.now)

pub returns-clause-waits : goal.returns-clause-waits
returns-clause-waits c = ok_more c.fail.result _ _ (λ d. inl (unkept_closed _ (shut c.fail.new.self.applications c.args.key _ d))) c.fail.ensures.over

pub returns-then-is_held_back-clause-placed : goal.returns-then-is_held_back-clause-placed
returns-then-is_held_back-clause-placed c = c.is_held_back.ensures.held (sym c.hold_of.ensures ∙ c.in-Some.is) (search rules)

pub returns-clause-placed : goal.returns-clause-placed
returns-clause-placed c = ok_more c.fail.result _ _ (λ d. inl (unkept_closed _ (shut c.fail.new.self.applications c.args.key _ d))) c.fail.ensures.over

pub returns-then-is_held_back-clause-answers : goal.returns-then-is_held_back-clause-answers
returns-then-is_held_back-clause-answers c = answers_refl c.args.self.now.links.items

pub returns-in_default-clause-lasts : goal.returns-in_default-clause-lasts
returns-in_default-clause-lasts c = c.start.ensures.lasts

pub returns-then-may_ask-clause-lasts : goal.returns-then-may_ask-clause-lasts
returns-then-may_ask-clause-lasts c = c.start-then-may_ask.ensures.lasts

pub returns-then-is_held_back-clause-lasts : goal.returns-then-is_held_back-clause-lasts
returns-then-is_held_back-clause-lasts c = last_start (Itself c.args.key) (register_in c.args.self.now)

pub returns-clause-lasts : goal.returns-clause-lasts
returns-clause-lasts c =
    let named = c.is_held_back.ensures.named (search rules) in
    last_closed c.fail.result c.args.key named.0 (register_in c.args.self.now) (register_in c.fail.new.self) named.1 c.fail.ensures.over

pub returns-in_default-clause-closes : goal.returns-in_default-clause-closes
returns-in_default-clause-closes c = for_that c.start.result c.args.key _ _ _ _ (λ why. unstarted_or c.args.key c.args.self.now why) c.start.ensures.closes

pub returns-then-may_ask-clause-closes : goal.returns-then-may_ask-clause-closes
returns-then-may_ask-clause-closes c = for_that c.start-then-may_ask.result c.args.key _ _ _ _ (λ why. unstarted_or c.args.key c.args.self.now why) c.start-then-may_ask.ensures.closes

pub returns-then-is_held_back-clause-behind : goal.returns-then-is_held_back-clause-behind
returns-then-is_held_back-clause-behind c = λ hold its. sparing.Stays

pub returns-clause-behind : goal.returns-clause-behind
returns-clause-behind c = ok_more c.fail.result _ _ (λ d hold its. behind_closed _ _ (body_of c.args.key c.fail.new.self) (shut c.fail.new.self.applications c.args.key (going_of c.args.key c.fail.new.self) d)) c.fail.ensures.over

pub returns-in_default-clause-own : goal.returns-in_default-clause-own
returns-in_default-clause-own c = λ reached. c.start.ensures.own reached

pub returns-then-may_ask-clause-own : goal.returns-then-may_ask-clause-own
returns-then-may_ask-clause-own c = λ reached. c.start-then-may_ask.ensures.own reached

pub returns-then-is_held_back-clause-own : goal.returns-then-is_held_back-clause-own
returns-then-is_held_back-clause-own c = λ reached. own_refl c.args.key c.args.self.now.pool.holds.items c.args.self.now.links.items

pub returns-clause-own : goal.returns-clause-own
returns-clause-own c = λ reached. c.fail.ensures.own

pub returns-then-is_held_back-clause-closes : goal.returns-then-is_held_back-clause-closes
returns-then-is_held_back-clause-closes c = closes_refl (ItselfFor c.args.key (IsUnheldOrTurnedAway c.args.key c.args.self.now)) (register_in c.args.self.now)

pub returns-clause-closes : goal.returns-clause-closes
returns-clause-closes c =
    let r = c.args.self.now in
    let its = sym c.hold_of.ensures ∙ c.in-Some.is in
    for_reason c.fail.result c.args.key (IsUnheldOrTurnedAway c.args.key r) _ _
    (inr (turned_by c.args.key _ r.pool r.links.items (body_of c.args.key r) c.in-Some.hold its (c.is_held_back.ensures.waits (search rules)) (c.is_held_back.ensures.ready its (search rules)) (c.may_ask.ensures.not (search rules))))
    c.fail.ensures.closes

pub returns-then-is_held_back-clause-puts : goal.returns-then-is_held_back-clause-puts
returns-then-is_held_back-clause-puts c = put_refl (standing_in c.args.key c.args.self.now)

pub returns-clause-puts : goal.returns-clause-puts
returns-clause-puts c = ok_more c.fail.result _ _ (λ d. put_shut _ (body_of c.args.key c.args.self.now) (standing_in c.args.key c.fail.new.self) (shut c.fail.new.self.applications c.args.key (going_of c.args.key c.fail.new.self) d)) c.fail.ensures.over

pub returns-then-is_held_back-clause-stays : goal.returns-then-is_held_back-clause-stays
returns-then-is_held_back-clause-stays c = λ kept. refl

pub returns-clause-stays : goal.returns-clause-stays
returns-clause-stays c = ok_more c.fail.result _ _ (λ d kept. absurd (kept_not _ (unkept_closed _ (shut c.fail.new.self.applications c.args.key _ d)) kept)) c.fail.ensures.over

pub returns-in_default-clause-shut : goal.returns-in_default-clause-shut
returns-in_default-clause-shut c = c.start.ensures.shut

pub returns-then-may_ask-clause-shut : goal.returns-then-may_ask-clause-shut
returns-then-may_ask-clause-shut c = c.start-then-may_ask.ensures.shut

pub returns-then-is_held_back-clause-shut : goal.returns-then-is_held_back-clause-shut
returns-then-is_held_back-clause-shut c = shut_refl c.args.self.now.links.items

pub returns-clause-shut : goal.returns-clause-shut
returns-clause-shut c =
    let its = sym c.hold_of.ensures ∙ c.in-Some.is in
    shut_off c.fail.result c.in-Some.hold.number c.args.self.now.links.items c.fail.new.self.links.items
    (held_open c.args.key c.in-Some.hold _ c.args.self.now.pool c.args.self.now.links.items its (c.is_held_back.ensures.ready its (search rules))) c.fail.ensures.off

pub returns-clause-asks : goal.returns-clause-asks
returns-clause-asks c = ask_ok c.fail.result c.args.self.now.applications c.fail.new.self.applications c.fail.ensures.asks
