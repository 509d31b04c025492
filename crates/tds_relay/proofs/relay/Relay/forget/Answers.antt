use Rattle.tds_relay.specs.Ties.{Application}
use Rattle.tds_relay.proofs.steps.Fronts.{moves_does}
use Rattle.tds_relay.proofs.steps.Reaching.{ok_more, ok_if}
use Rattle.tds_relay.proofs.steps.Staying.{stays_from, stays_refl, stays_then}
use Rattle.tds_relay.proofs.bytes.Calls.{stand_on}
use Rattle.tds_relay.proofs.steps.Bodied.{forgot_on}
use Rattle.tds_relay.specs.declared.link.Link.{Link}
use Rattle.tds_relay.specs.Fronts.{ends_in}
use Rattle.tds_relay.specs.Anew.{AsksNothing}
use Rattle.tds_relay.specs.Core.{EndList, IfOpen, end_at}
use Rattle.tds_relay.specs.Reasons.{CannotUnask, IsUnheld}
use Rattle.tds_relay.proofs.spared.Reasons.{for_that, forgotten}
use Rattle.tds_relay.proofs.spared.Closings.{closes_first, closes_nobody}
use Rattle.tds_relay.proofs.seats.Relays.{unwaited}
use Rattle.std.proofs.Common.{ap, inl, List, refl, rules, subst, sym, ◌⊎◌}
use Rattle.tds_relay.proofs.spared.Speaking.{reached_by}
use Rattle.tds_relay.proofs.lending.Resting.{others_on}
use Rattle.slab.specs.Slab.{get}
use Rattle.tds_relay.proofs.spared.Elsewhere.{aside_on, aside_same}
use Rattle.tds_relay.specs.Pool.{Pool, find_key}
use Rattle.tds_relay.specs.Bodies.{body_of, going_of, standing_in}
use Rattle.tds_relay.proofs.steps.Halting.{cancelled_unsent, forgot_cancelled}
use Rattle.tds_relay.proofs.steps.Tied.{stays_closed}
use Rattle.tds_relay.proofs.steps.Still.{asked_moves, links_same, moves}
use Rattle.tds_relay.proofs.spared.Begun.{answers_from, answers_same}
use Rattle.tds_relay.proofs.lending.Tending.{tend_on}
use Rattle.tds_relay.proofs.relay.Relay.forget.Goals as goal

pub returns-then-was_asked-clause-moves : goal.returns-then-was_asked-clause-moves
returns-then-was_asked-clause-moves c =
    ok_more c.unask.result _ _ (λ m quiet from h. m (subst (λ (es : EndList). IfOpen AsksNothing (end_at es c.args.key)) (sym c.forget_request-was_asked.ensures.ends) quiet) from (moves_does (Application c.args.key) from _ _ _ _ _ _ _ c.forget_request-was_asked.ensures.turns quiet refl c.forget_request-was_asked.ensures.ends h)) c.unask.ensures.moves

pub returns-else-was_asked-clause-moves : goal.returns-else-was_asked-clause-moves
returns-else-was_asked-clause-moves c = λ quiet from h. (moves_does (Application c.args.key) from _ _ _ _ _ _ _ c.forget_request-was_asked.ensures.turns quiet refl c.forget_request-was_asked.ensures.ends h)

pub returns-then-was_asked-clause-read : goal.returns-then-was_asked-clause-read
returns-then-was_asked-clause-read c = stays_from c.unask.result _ _ _ c.forget_request-was_asked.ensures.links c.unask.ensures.read

pub returns-else-was_asked-clause-read : goal.returns-else-was_asked-clause-read
returns-else-was_asked-clause-read c = stays_then _ _ _ (stays_refl c.args.self.now.links.items) c.forget_request-was_asked.ensures.links

pub returns-then-was_asked-clause-stand : goal.returns-then-was_asked-clause-stand
returns-then-was_asked-clause-stand c = stand_on c.unask.result _ _ _ c.forget_request-was_asked.ensures.stand c.unask.ensures.stand

pub returns-else-was_asked-clause-stand : goal.returns-else-was_asked-clause-stand
returns-else-was_asked-clause-stand c = c.forget_request-was_asked.ensures.stand

pub returns-else-was_asked-clause-body : goal.returns-else-was_asked-clause-body
returns-else-was_asked-clause-body c = c.forget_request-was_asked.ensures.body

pub returns-then-was_asked-clause-body : goal.returns-then-was_asked-clause-body
returns-then-was_asked-clause-body c = forgot_on c.unask.result c.forget_request-was_asked.new.self.applications c.unask.new.self.applications c.args.key c.forget_request-was_asked.ensures.body c.unask.ensures.asks

pub returns-then-was_asked-clause-closes : goal.returns-then-was_asked-clause-closes
returns-then-was_asked-clause-closes c =
    let mid = c.forget_request-was_asked.new.self in
    let end = (end_at (ends_in c.args.self.now.applications) c.args.key) in
    closes_first c.unask.result _ _ _ _
    (for_that c.unask.result c.args.key _ _ _ _
    (λ why. forgotten c.args.key end c.args.self.now.pool mid.pool c.args.self.now.links.items (get c.args.self.now.applications c.args.key) (c.forget_request-was_asked.ensures.asked (search rules)) c.forget_request-was_asked.ensures.holds c.forget_request-was_asked.ensures.service
    (subst (λ (ls : List Link). IsUnheld c.args.key mid.pool ⊎ CannotUnask c.args.key end mid.pool ls) c.forget_request-was_asked.ensures.links
    (subst (λ (es : EndList). IsUnheld c.args.key mid.pool ⊎ CannotUnask c.args.key (end_at es c.args.key) mid.pool mid.links.items) c.forget_request-was_asked.ensures.ends why)))
    c.unask.ensures.closes)
    c.forget_request-was_asked.ensures.closes

pub returns-else-was_asked-clause-closes : goal.returns-else-was_asked-clause-closes
returns-else-was_asked-clause-closes c = closes_nobody _ _ _ c.forget_request-was_asked.ensures.closes

pub returns-then-was_asked-clause-seated : goal.returns-then-was_asked-clause-seated
returns-then-was_asked-clause-seated c = λ s. c.unask.ensures.seated (unwaited c.args.key c.args.self.now.pool c.forget_request-was_asked.new.self c.args.self.now.links.items c.forget_request-was_asked.ensures.turns c.forget_request-was_asked.ensures.service c.forget_request-was_asked.ensures.links s)

pub returns-else-was_asked-clause-seated : goal.returns-else-was_asked-clause-seated
returns-else-was_asked-clause-seated c = λ s. unwaited c.args.key c.args.self.now.pool c.forget_request-was_asked.new.self c.args.self.now.links.items c.forget_request-was_asked.ensures.turns c.forget_request-was_asked.ensures.service c.forget_request-was_asked.ensures.links s

pub returns-then-was_asked-clause-others : goal.returns-then-was_asked-clause-others
returns-then-was_asked-clause-others c = λ reached.
    others_on c.unask.result c.args.key c.args.self.now c.forget_request-was_asked.new.self c.unask.new.self (c.unask.ensures.others (reached_by c.args.key c.args.self.now.pool c.forget_request-was_asked.new.self.pool c.forget_request-was_asked.ensures.goes reached)) c.forget_request-was_asked.ensures.others

pub returns-else-was_asked-clause-others : goal.returns-else-was_asked-clause-others
returns-else-was_asked-clause-others c = λ reached. c.forget_request-was_asked.ensures.others

pub returns-then-was_asked-clause-aside : goal.returns-then-was_asked-clause-aside
returns-then-was_asked-clause-aside c = λ reached.
    aside_on c.unask.result c.args.key c.args.self.now c.forget_request-was_asked.new.self c.unask.new.self (aside_same c.args.key c.args.self.now c.forget_request-was_asked.new.self (ap (λ (d : Pool). d.holds) c.forget_request-was_asked.ensures.turns.pool_is) c.forget_request-was_asked.ensures.links)
    (c.unask.ensures.aside (reached_by c.args.key c.args.self.now.pool c.forget_request-was_asked.new.self.pool c.forget_request-was_asked.ensures.goes reached))

pub returns-else-was_asked-clause-aside : goal.returns-else-was_asked-clause-aside
returns-else-was_asked-clause-aside c = λ reached. (aside_same c.args.key c.args.self.now c.forget_request-was_asked.new.self (ap (λ (d : Pool). d.holds) c.forget_request-was_asked.ensures.turns.pool_is) c.forget_request-was_asked.ensures.links)

pub returns-then-was_asked-clause-cancels : goal.returns-then-was_asked-clause-cancels
returns-then-was_asked-clause-cancels c =
    forgot_cancelled c.unask.result c.args.key c.args.self.now c.forget_request-was_asked.new.self c.unask.new.self c.forget_request-was_asked.ensures.holds c.forget_request-was_asked.ensures.service
    c.forget_request-was_asked.ensures.links c.forget_request-was_asked.ensures.ends c.unask.ensures.asks c.unask.ensures.cancels

pub returns-else-was_asked-clause-cancels : goal.returns-else-was_asked-clause-cancels
returns-else-was_asked-clause-cancels c =
    let mid = c.forget_request-was_asked.new.self in
    cancelled_unsent (body_of c.args.key c.args.self.now) (standing_in c.args.key mid) (stays_closed c.args.key c.args.self.now mid mid c.forget_request-was_asked.ensures.ends (λ k goes. inl refl))
    (c.forget_request-was_asked.ensures.unasked (search rules) (going_of c.args.key c.args.self.now))

pub returns-then-was_asked-clause-puts : goal.returns-then-was_asked-clause-puts
returns-then-was_asked-clause-puts c =
    let r = c.args.self.now in
    let goes = going_of c.args.key r in
    ok_if c.unask.result _ (λ still number. absurd (asked_moves (body_of c.args.key r) goes (moves r.pool.service r.links.items (find_key c.args.key r.pool.holds.items)) (c.forget_request-was_asked.ensures.asked (search rules) goes) still))

pub returns-else-was_asked-clause-puts : goal.returns-else-was_asked-clause-puts
returns-else-was_asked-clause-puts c = λ still number. links_same number c.args.self.now.links.items c.forget_request-was_asked.new.self.links.items c.forget_request-was_asked.ensures.links

pub returns-then-was_asked-clause-answers : goal.returns-then-was_asked-clause-answers
returns-then-was_asked-clause-answers c = answers_from c.unask.result _ _ _ c.forget_request-was_asked.ensures.links c.unask.ensures.answers

pub returns-else-was_asked-clause-answers : goal.returns-else-was_asked-clause-answers
returns-else-was_asked-clause-answers c = answers_same c.args.self.now.links.items _ (c.forget_request-was_asked.ensures.links)

pub returns-then-was_asked-clause-away : goal.returns-then-was_asked-clause-away
returns-then-was_asked-clause-away c = c.unask.ensures.away c.forget_request-was_asked.ensures.away

pub returns-else-was_asked-clause-away : goal.returns-else-was_asked-clause-away
returns-else-was_asked-clause-away c = c.forget_request-was_asked.ensures.away

pub returns-then-was_asked-clause-awaits : goal.returns-then-was_asked-clause-awaits
returns-then-was_asked-clause-awaits c =
    tend_on c.unask.result c.args.self.now c.forget_request-was_asked.new.self c.unask.new.self (reached_by c.args.key c.args.self.now.pool c.forget_request-was_asked.new.self.pool c.forget_request-was_asked.ensures.goes)
    c.forget_request-was_asked.ensures.awaits c.unask.ensures.awaits

pub returns-else-was_asked-clause-awaits : goal.returns-else-was_asked-clause-awaits
returns-else-was_asked-clause-awaits c = c.forget_request-was_asked.ensures.awaits
