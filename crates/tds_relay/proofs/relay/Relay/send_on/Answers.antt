use Rattle.std.proofs.Common.{false, ap, inl, inr, rules, subst, sym, ◌∙◌}
use Rattle.tds_relay.specs.Ties.{pool_in, IsReached}
use Rattle.tds_relay.proofs.steps.Fronts.{moves_same}
use Rattle.tds_relay.proofs.steps.Reaching.{ok_more}
use Rattle.tds_relay.proofs.steps.Staying.{filled_by, gone_filled, stays_on}
use Rattle.tds_relay.proofs.bytes.Calls.{stand_from}
use Rattle.tds_relay.proofs.spared.Letting.{sent_all}
use Rattle.tds_relay.specs.declared.pool.Pool as code
use Rattle.tds_relay.proofs.spared.Ordered.{ordered_on}
use Rattle.tds_relay.specs.Closings.{IsWho}
use Rattle.tds_relay.specs.Core.{holder}
use Rattle.tds_relay.proofs.spared.Closings.{closes_next, closes_nobody}
use Rattle.tds_relay.proofs.spared.Only.{spares_lost_on, spares_on, spares_same}
use Rattle.tds_relay.specs.Fronts.{core_in}
use Rattle.std.specs.Prelude.{None}
use Rattle.tds_relay.proofs.spared.Begun.{answers_on}
use Rattle.tds_relay.proofs.seats.Relays.{but_lasting, lasting_seated, lost_but}
use Rattle.tds_relay.proofs.seats.Pools.{off_of}
use Rattle.tds_relay.proofs.lending.Firsts.{first_lost_on, first_put, first_then_on}
use Rattle.tds_relay.specs.Pool.{without_number}
use Rattle.tds_relay.proofs.relay.Relay.send_on.Goals as goal

pub returns-else-fits-clause-read : goal.returns-else-fits-clause-read
returns-else-fits-clause-read c = stays_on c.lose.result _ _ _ c.in_ok-fits.ensures.read c.lose.ensures.read

pub returns-then-fits-clause-moves : goal.returns-then-fits-clause-moves
returns-then-fits-clause-moves c = λ by from h. moves_same by from _ _ _ _ (ap pool_in c.fits_on.ensures.pool) c.in_ok-fits.ensures.ends h

pub returns-else-fits-clause-moves : goal.returns-else-fits-clause-moves
returns-else-fits-clause-moves c =
    ok_more c.lose.result _ _ (λ m by from h. m by from (moves_same by from _ _ _ _ (ap pool_in c.fits_on.ensures.pool) c.in_ok-fits.ensures.ends h)) c.lose.ensures.moves

pub returns-else-fits-clause-stand : goal.returns-else-fits-clause-stand
returns-else-fits-clause-stand c = stand_from c.lose.result _ _ _ c.fits_on.ensures.pool c.lose.ensures.stand

pub returns-then-fits-clause-sends : goal.returns-then-fits-clause-sends
returns-then-fits-clause-sends c = λ reached. inl (c.fits_on.ensures.pool, c.in_ok-fits.ensures.others)

pub returns-else-fits-clause-sends : goal.returns-else-fits-clause-sends
returns-else-fits-clause-sends c = λ reached.
    sent_all c.lose.result c.args.number c.args.self.now c.fits_on.new.self c.lose.new.self reached c.fits_on.ensures.pool c.in_ok-fits.ensures.asks c.in_ok-fits.ensures.others
    (c.lose.ensures.rests (subst (λ (d : code.Pool). IsReached (pool_in d)) (sym c.fits_on.ensures.pool) reached)) c.lose.ensures.shuts

pub returns-then-fits-clause-puts : goal.returns-then-fits-clause-puts
returns-then-fits-clause-puts c = filled_by c.args.self.now.outbox.items _ _ (c.in_ok-fits.ensures.waits (search rules))

pub returns-else-fits-clause-puts : goal.returns-else-fits-clause-puts
returns-else-fits-clause-puts c = ok_more c.lose.result _ _ (λ g. gone_filled c.args.self.now.outbox.items c.args.number _ c.lose.new.self.links.items g) c.lose.ensures.gone

pub returns-else-fits-clause-ordered : goal.returns-else-fits-clause-ordered
returns-else-fits-clause-ordered c = ordered_on c.lose.result _ _ _ c.lose.ensures.ordered c.in_ok-fits.ensures.ordered

pub returns-then-fits-clause-closes : goal.returns-then-fits-clause-closes
returns-then-fits-clause-closes c = closes_nobody _ _ _ c.in_ok-fits.ensures.closes

pub returns-else-fits-clause-closes : goal.returns-else-fits-clause-closes
returns-else-fits-clause-closes c = closes_next c.lose.result (IsWho (holder (pool_in c.fits_on.new.self.pool) c.args.number)) _ _ _ _ (λ key e. (ap (λ (d : code.Pool). holder (pool_in d) c.args.number) (sym c.fits_on.ensures.pool) ∙ e, c.in_ok-fits.ensures.no_room (search rules), c.in_ok-fits.ensures.some (search rules))) c.lose.ensures.closes c.in_ok-fits.ensures.closes

pub returns-else-fits-clause-others : goal.returns-else-fits-clause-others
returns-else-fits-clause-others c = ok_more c.lose.result _ _ (λ o other differs. o other differs ∙ c.in_ok-fits.ensures.others other differs) c.lose.ensures.others

pub returns-then-fits-clause-spares : goal.returns-then-fits-clause-spares
returns-then-fits-clause-spares c = spares_same c.args.number None (core_in c.args.self.now) (core_in c.fits_on.new.self) (ap pool_in c.fits_on.ensures.pool) c.in_ok-fits.ensures.ends

pub returns-else-fits-clause-spares : goal.returns-else-fits-clause-spares
returns-else-fits-clause-spares c =
    let old = core_in c.args.self.now in
    let mid = core_in c.fits_on.new.self in
    let new = core_in c.lose.new.self in
    spares_on c.lose.result c.args.number None old mid new (spares_same c.args.number None old mid (ap pool_in c.fits_on.ensures.pool) c.in_ok-fits.ensures.ends)
    (spares_lost_on c.lose.result c.args.number mid new c.lose.ensures.ends c.lose.ensures.line c.lose.ensures.moves)

pub returns-else-fits-clause-answers : goal.returns-else-fits-clause-answers
returns-else-fits-clause-answers c = answers_on c.lose.result _ _ _ c.in_ok-fits.ensures.answers c.lose.ensures.answers

pub returns-then-fits-clause-seated : goal.returns-then-fits-clause-seated
returns-then-fits-clause-seated c = λ s. lasting_seated c.args.self.now c.fits_on.new.self c.fits_on.ensures.pool c.in_ok-fits.ensures.lasts c.in_ok-fits.ensures.read s

pub returns-else-fits-clause-seated : goal.returns-else-fits-clause-seated
returns-else-fits-clause-seated c = λ s. c.lose.ensures.seated (off_of c.args.number (pool_in c.fits_on.new.self.pool) c.fits_on.new.self.links.items (lasting_seated c.args.self.now c.fits_on.new.self c.fits_on.ensures.pool c.in_ok-fits.ensures.lasts c.in_ok-fits.ensures.read s))

pub returns-then-fits-clause-gone : goal.returns-then-fits-clause-gone
returns-then-fits-clause-gone c = λ s. but_lasting c.args.number false c.args.self.now c.fits_on.new.self c.fits_on.ensures.pool c.in_ok-fits.ensures.lasts c.in_ok-fits.ensures.read s

pub returns-else-fits-clause-gone : goal.returns-else-fits-clause-gone
returns-else-fits-clause-gone c = λ s.
    lost_but c.lose.result c.args.number c.lose.new.self c.lose.ensures.gone
    (c.lose.ensures.seated (but_lasting c.args.number false c.args.self.now c.fits_on.new.self c.fits_on.ensures.pool c.in_ok-fits.ensures.lasts c.in_ok-fits.ensures.read s).off)

pub returns-then-fits-clause-keeps : goal.returns-then-fits-clause-keeps
returns-then-fits-clause-keeps c = first_put c.args.number c.args.self.now c.fits_on.new.self c.fits_on.ensures.pool c.in_ok-fits.ensures.queues c.in_ok-fits.ensures.answers

pub returns-else-fits-clause-keeps : goal.returns-else-fits-clause-keeps
returns-else-fits-clause-keeps c =
    first_then_on c.lose.result c.args.number c.args.self.now c.fits_on.new.self c.lose.new.self
    (first_put c.args.number c.args.self.now c.fits_on.new.self c.fits_on.ensures.pool c.in_ok-fits.ensures.queues c.in_ok-fits.ensures.answers)
    (first_lost_on c.lose.result c.args.number c.fits_on.new.self c.lose.new.self c.lose.ensures.holds c.lose.ensures.queues c.lose.ensures.answers)

pub returns-then-fits-clause-holds : goal.returns-then-fits-clause-holds
returns-then-fits-clause-holds c = inl (ap (λ (d : code.Pool). d.holds.items) c.fits_on.ensures.pool)

pub returns-else-fits-clause-holds : goal.returns-else-fits-clause-holds
returns-else-fits-clause-holds c = ok_more c.lose.result _ _ (λ e. inr (e ∙ ap (λ (d : code.Pool). without_number c.args.number d.holds.items) c.fits_on.ensures.pool)) c.lose.ensures.holds
