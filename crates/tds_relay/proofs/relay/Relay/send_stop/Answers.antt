use Rattle.std.proofs.Common.{◌∙◌, ap, inl, inr, rules, subst, sym}
use Rattle.tds_relay.specs.Ties.{pool_in}
use Rattle.tds_relay.proofs.steps.Fronts.{moves_same}
use Rattle.tds_relay.proofs.steps.Reaching.{ok_more}
use Rattle.tds_relay.proofs.steps.Staying.{stays_on}
use Rattle.tds_relay.proofs.bytes.Calls.{stand_from}
use Rattle.tds_relay.specs.Closings.{Itself}
use Rattle.tds_relay.proofs.spared.Closings.{closes_first, closes_nobody}
use Rattle.tds_relay.proofs.spared.Reasons.{for_reason}
use Rattle.tds_relay.proofs.seats.Relays.{lasting_seated}
use Rattle.tds_relay.proofs.spared.Speaking.{filled_at, filled_rest}
use Rattle.tds_relay.proofs.lending.Resting.{others_all}
use Rattle.tds_relay.proofs.spared.Elsewhere.{aside_on, aside_own, filled_own}
use Rattle.tds_relay.proofs.spared.Rightly.{deaf_right_on, opens_before, right_by}
use Rattle.tds_relay.specs.Asking.{IsTakenBack}
use Rattle.tds_relay.specs.Core.{EndList, end_at, is_in}
use Rattle.tds_relay.specs.Sparing.{IsKept}
use Rattle.tds_relay.proofs.spared.Turned.{kept_asks}
use Rattle.tds_relay.specs.declared.pool.Pool as pools
use Rattle.tds_relay.proofs.spared.Begun.{answers_on}
use Rattle.tds_relay.proofs.steps.Underway.{out_on}
use Rattle.tds_relay.proofs.relay.Relay.send_stop.Goals as goal

pub returns-else-fits-clause-read : goal.returns-else-fits-clause-read
returns-else-fits-clause-read c = stays_on c.fail.result _ _ _ c.in_ok-fits.ensures.read c.fail.ensures.read

pub returns-then-fits-clause-moves : goal.returns-then-fits-clause-moves
returns-then-fits-clause-moves c = λ by from h. moves_same by from _ _ _ _ (ap pool_in c.fits_on.ensures.pool) c.in_ok-fits.ensures.ends h

pub returns-else-fits-clause-moves : goal.returns-else-fits-clause-moves
returns-else-fits-clause-moves c =
    ok_more c.fail.result _ _ (λ m by from h. m by from (moves_same by from _ _ _ _ (ap pool_in c.fits_on.ensures.pool) c.in_ok-fits.ensures.ends h)) c.fail.ensures.moves

pub returns-else-fits-clause-stand : goal.returns-else-fits-clause-stand
returns-else-fits-clause-stand c = stand_from c.fail.result _ _ _ c.fits_on.ensures.pool c.fail.ensures.stand

pub returns-then-fits-clause-sends : goal.returns-then-fits-clause-sends
returns-then-fits-clause-sends c = inr (c.fits_on.ensures.pool, c.in_ok-fits.ensures.asks, c.in_ok-fits.ensures.waits (search rules))

pub returns-else-fits-clause-sends : goal.returns-else-fits-clause-sends
returns-else-fits-clause-sends c = ok_more c.fail.result _ _ (λ d. inl d) c.fail.ensures.over

pub returns-then-fits-clause-closes : goal.returns-then-fits-clause-closes
returns-then-fits-clause-closes c = closes_nobody _ _ _ c.in_ok-fits.ensures.closes

pub returns-else-fits-clause-closes : goal.returns-else-fits-clause-closes
returns-else-fits-clause-closes c = for_reason c.fail.result c.args.key _ _ _ (c.in_ok-fits.ensures.no_room (search rules)) (closes_first c.fail.result (Itself c.args.key) _ _ _ c.fail.ensures.closes c.in_ok-fits.ensures.closes)

pub returns-then-fits-clause-seated : goal.returns-then-fits-clause-seated
returns-then-fits-clause-seated c = λ s. lasting_seated c.args.self.now c.fits_on.new.self c.fits_on.ensures.pool c.in_ok-fits.ensures.lasts c.in_ok-fits.ensures.read s

pub returns-else-fits-clause-seated : goal.returns-else-fits-clause-seated
returns-else-fits-clause-seated c = λ s. c.fail.ensures.seated (lasting_seated c.args.self.now c.fits_on.new.self c.fits_on.ensures.pool c.in_ok-fits.ensures.lasts c.in_ok-fits.ensures.read s)

pub returns-then-fits-clause-others : goal.returns-then-fits-clause-others
returns-then-fits-clause-others c = λ reached hold its same. filled_rest c.args.key c.args.number hold c.args.self.now c.fits_on.new.self reached its same c.fits_on.ensures.pool c.in_ok-fits.ensures.others c.in_ok-fits.ensures.asks

pub returns-else-fits-clause-others : goal.returns-else-fits-clause-others
returns-else-fits-clause-others c = λ reached hold its same.
    others_all c.fail.result c.args.key c.args.self.now c.fits_on.new.self c.fail.new.self (c.fail.ensures.rests (filled_at c.args.self.now c.fits_on.new.self c.fits_on.ensures.pool reached))
    (filled_rest c.args.key c.args.number hold c.args.self.now c.fits_on.new.self reached its same c.fits_on.ensures.pool c.in_ok-fits.ensures.others c.in_ok-fits.ensures.asks)

pub returns-then-fits-clause-aside : goal.returns-then-fits-clause-aside
returns-then-fits-clause-aside c = λ reached hold its same. (filled_own c.args.key c.args.number hold c.args.self.now c.fits_on.new.self reached its same c.fits_on.ensures.pool c.in_ok-fits.ensures.queues c.in_ok-fits.ensures.answers).others

pub returns-else-fits-clause-aside : goal.returns-else-fits-clause-aside
returns-else-fits-clause-aside c = λ reached hold its same.
    aside_on c.fail.result c.args.key c.args.self.now c.fits_on.new.self c.fail.new.self (filled_own c.args.key c.args.number hold c.args.self.now c.fits_on.new.self reached its same c.fits_on.ensures.pool c.in_ok-fits.ensures.queues c.in_ok-fits.ensures.answers).others
    (aside_own c.fail.result c.args.key c.fits_on.new.self c.fail.new.self c.fail.ensures.own)

pub returns-then-fits-clause-right : goal.returns-then-fits-clause-right
returns-then-fits-clause-right c = λ right.
    let old = c.args.self.now in
    let new = c.fits_on.new.self in
    right_by c.args.key old new (ap (λ (d : pools.Pool). d.holds.items) c.fits_on.ensures.pool)
    (λ back. subst (λ (es : EndList). IsTakenBack (end_at es c.args.key)) (sym c.in_ok-fits.ensures.ends) back)
    (λ kept. subst IsKept (sym (kept_asks c.args.key new old c.in_ok-fits.ensures.asks kept)) kept) (opens_before old.links.items new.links.items c.in_ok-fits.ensures.read) right

pub returns-else-fits-clause-right : goal.returns-else-fits-clause-right
returns-else-fits-clause-right c = λ right. deaf_right_on c.fail.result c.args.key c.fail.new.self c.fail.ensures.over

pub returns-else-fits-clause-answers : goal.returns-else-fits-clause-answers
returns-else-fits-clause-answers c = answers_on c.fail.result _ _ _ c.in_ok-fits.ensures.answers c.fail.ensures.answers

pub returns-then-fits-clause-away : goal.returns-then-fits-clause-away
returns-then-fits-clause-away c = λ out. ap (λ (d : pools.Pool). is_in c.args.key (pool_in d).line) c.fits_on.ensures.pool ∙ out

pub returns-else-fits-clause-away : goal.returns-else-fits-clause-away
returns-else-fits-clause-away c = λ out.
    out_on c.fail.result c.args.key (pool_in c.fits_on.new.self.pool).line (pool_in c.fail.new.self.pool).line (ok_more c.fail.result _ _ (λ a. a.line) c.fail.ensures.alone)
    (ap (λ (d : pools.Pool). is_in c.args.key (pool_in d).line) c.fits_on.ensures.pool ∙ out)
