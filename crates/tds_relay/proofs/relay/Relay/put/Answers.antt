use Rattle.std.proofs.Common.{◌∙◌, List, ap, refl, rules, subst, sym, ℕ, inl, inr, []}
use Rattle.tds_relay.specs.declared.pool.Pool as code
use Rattle.tds_relay.specs.declared.link.Link.{Link}
use Rattle.tds_relay.specs.Asking.{Closes, Sends, SendsOn}
use Rattle.tds_relay.specs.Reads.{carried_there, LinksStay}
use Rattle.tds_relay.specs.Ties.{pool_in, Reaches}
use Rattle.tds_relay.proofs.steps.Fronts.{moves_closes, moves_same}
use Rattle.tds_relay.proofs.steps.Putting.{moves_puts}
use Rattle.tds_relay.proofs.steps.Reaching.{ok_more}
use Rattle.tds_relay.proofs.steps.Staying.{stays_behind, stays_on}
use Rattle.tds_relay.proofs.steps.Underway.{of_closed}
use Rattle.tds_relay.proofs.bytes.Calls.{stand_at, stand_on}
use Rattle.tds_relay.proofs.lending.Resting.{others_all, others_refl, put_reached, put_rest, same_on, sent_rest}
use Rattle.tds_relay.proofs.steps.Bodied.{closed_body, shut}
use Rattle.tds_relay.proofs.steps.Going.{grows_on, waits_behind}
use Rattle.tds_relay.specs.Bodies.{ClientPuts, going_of, Grows, going}
use Rattle.tds_relay.specs.Pool.{find_key}
use Rattle.tds_relay.specs.Fronts.{MayPut, core_in}
use Rattle.tds_relay.specs.Core.{closes}
use Rattle.tds_relay.proofs.spared.Apart.{alone_both, alone_changed, alone_on, alone_same}
use Rattle.tds_relay.proofs.spared.Ordered.{ordered_both, ordered_closing, ordered_on, ordered_refl, ordered_same}
use Rattle.tds_relay.specs.Closings.{Itself, NoKey}
use Rattle.tds_relay.proofs.spared.Closings.{closes_both, closes_first, closes_nobody}
use Rattle.tds_relay.specs.Reasons.{HasNoRoom, Unbegun, Unfit, Unheld, Untaken}
use Rattle.tds_relay.proofs.spared.Reasons.{for_reason, no_room_there}
use Rattle.tds_relay.proofs.spared.Begun.{answers_both, answers_from, answers_on, answers_same, answers_unchanged}
use Rattle.tds_relay.proofs.spared.Lasting.{deaf_last, last_all, last_links, same_last}
use Rattle.tds_relay.proofs.seats.Relays.{pool_kept, kept_end, lasting_seated}
use Rattle.tds_relay.proofs.seats.Pools.{gone_on, seated_on}
use Rattle.tds_relay.proofs.spared.Filling.{carried, own_behind, own_end, own_first, own_put}
use Rattle.tds_relay.proofs.held.Numbers.{apart_at, its_holder}
use Rattle.tds_relay.proofs.lending.Fresh.{hold_is, hold_one, hold_unchanged, off_same, off_then}
use Rattle.tds_relay.proofs.steps.Answering.{before_on, on_both, on_then}
use Rattle.tds_relay.proofs.relay.Relay.put.Goals as goal

pub returns-in_default-clause-moves : goal.returns-in_default-clause-moves
returns-in_default-clause-moves c = ok_more c.end.result _ _ (λ e by from h. moves_closes by from _ _ _ _ c.args.key (ap pool_in c.end.ensures.pool) e h) c.end.ensures.ends

pub returns-in_default-clause-underway : goal.returns-in_default-clause-underway
returns-in_default-clause-underway c = ok_more c.end.result _ _ (λ e. of_closed c.args.whole _ c.args.key _ _ _ e) c.end.ensures.ends

pub returns-then-not-may_put-clause-underway : goal.returns-then-not-may_put-clause-underway
returns-then-not-may_put-clause-underway c = ok_more c.fail.result _ _ (λ d. Closes d) c.fail.ensures.over

pub returns-then-not-is_put-clause-underway : goal.returns-then-not-is_put-clause-underway
returns-then-not-is_put-clause-underway c = ok_more c.fail-then-not-is_put.result _ _ (λ d. Closes d) c.fail-then-not-is_put.ensures.over

pub returns-else-fits-clause-underway : goal.returns-else-fits-clause-underway
returns-else-fits-clause-underway c = ok_more c.fail-else-fits.result _ _ (λ d. Closes d) c.fail-else-fits.ensures.over

pub returns-then-fits-clause-underway : goal.returns-then-fits-clause-underway
returns-then-fits-clause-underway c =
    Sends (subst (λ (d : code.Pool). SendsOn c.args.whole (pool_in d) c.args.key) (sym (c.fits_on.ensures.pool ∙ c.note_went_on.ensures.pool)) (c.in_ok-is_put.ensures.sends (search rules)))

pub returns-then-not-is_put-clause-read : goal.returns-then-not-is_put-clause-read
returns-then-not-is_put-clause-read c =
    ok_more c.fail-then-not-is_put.result _ _ (λ s. subst (λ (ls : List Link). LinksStay ls c.fail-then-not-is_put.new.self.links.items) c.note_went_on.ensures.links s) c.fail-then-not-is_put.ensures.read

pub returns-then-fits-clause-read : goal.returns-then-fits-clause-read
returns-then-fits-clause-read c = stays_behind _ _ _ c.note_went_on.ensures.links c.in_ok-fits.ensures.read

pub returns-else-fits-clause-read : goal.returns-else-fits-clause-read
returns-else-fits-clause-read c = stays_on c.fail-else-fits.result _ _ _ (stays_behind _ _ _ c.note_went_on.ensures.links c.in_ok-fits.ensures.read) c.fail-else-fits.ensures.read

pub returns-then-not-is_put-clause-moves : goal.returns-then-not-is_put-clause-moves
returns-then-not-is_put-clause-moves c =
    ok_more c.fail-then-not-is_put.result _ _ (λ m by from h. m by from (moves_same by from _ _ _ _ (ap pool_in c.note_went_on.ensures.pool) refl
    (moves_puts by from _ _ _ _ c.args.key c.args.whole c.put_on.new.out.items (subst (λ (xs : List ℕ). MayPut c.args.key c.args.whole (pool_in c.args.self.now.pool) (pool_in c.put_on.new.pool) xs c.put_on.new.out.items) (search rules) c.in_ok-is_put.ensures.puts)
    (c.may_put.ensures.begun (search rules)) c.note_went_on.ensures.ends h))) c.fail-then-not-is_put.ensures.moves

pub returns-then-fits-clause-moves : goal.returns-then-fits-clause-moves
returns-then-fits-clause-moves c = λ by from h.
    moves_same by from _ _ _ _ (ap pool_in c.fits_on.ensures.pool) c.in_ok-fits.ensures.ends (moves_same by from _ _ _ _ (ap pool_in c.note_went_on.ensures.pool) refl
    (moves_puts by from _ _ _ _ c.args.key c.args.whole c.put_on.new.out.items (subst (λ (xs : List ℕ). MayPut c.args.key c.args.whole (pool_in c.args.self.now.pool) (pool_in c.put_on.new.pool) xs c.put_on.new.out.items) (search rules) c.in_ok-is_put.ensures.puts)
    (c.may_put.ensures.begun (search rules)) c.note_went_on.ensures.ends h))

pub returns-else-fits-clause-moves : goal.returns-else-fits-clause-moves
returns-else-fits-clause-moves c =
    ok_more c.fail-else-fits.result _ _ (λ m by from h. m by from (moves_same by from _ _ _ _ (ap pool_in c.fits_on.ensures.pool) c.in_ok-fits.ensures.ends (moves_same by from _ _ _ _ (ap pool_in c.note_went_on.ensures.pool) refl
    (moves_puts by from _ _ _ _ c.args.key c.args.whole c.put_on.new.out.items (subst (λ (xs : List ℕ). MayPut c.args.key c.args.whole (pool_in c.args.self.now.pool) (pool_in c.put_on.new.pool) xs c.put_on.new.out.items) (search rules) c.in_ok-is_put.ensures.puts)
    (c.may_put.ensures.begun (search rules)) c.note_went_on.ensures.ends h)))) c.fail-else-fits.ensures.moves

pub returns-then-fits-clause-stand : goal.returns-then-fits-clause-stand
returns-then-fits-clause-stand c = stand_at _ _ _ (stand_at _ _ _ c.in_ok-is_put.ensures.stand c.note_went_on.ensures.pool) c.fits_on.ensures.pool

pub returns-else-fits-clause-stand : goal.returns-else-fits-clause-stand
returns-else-fits-clause-stand c = stand_on c.fail-else-fits.result _ _ _ (stand_at _ _ _ (stand_at _ _ _ c.in_ok-is_put.ensures.stand c.note_went_on.ensures.pool) c.fits_on.ensures.pool) c.fail-else-fits.ensures.stand

pub returns-then-not-is_put-clause-stand : goal.returns-then-not-is_put-clause-stand
returns-then-not-is_put-clause-stand c = stand_on c.fail-then-not-is_put.result _ _ _ (stand_at _ _ _ c.in_ok-is_put.ensures.stand c.note_went_on.ensures.pool) c.fail-then-not-is_put.ensures.stand

pub returns-in_default-clause-others : goal.returns-in_default-clause-others
returns-in_default-clause-others c = λ reached.
    others_all c.end.result c.args.key c.args.self.now c.args.self.now c.end.new.self (same_on c.end.result c.args.self.now c.end.new.self c.end.ensures.pool c.end.ensures.links c.end.ensures.asks)
    (others_refl c.args.key c.args.self.now)

pub returns-then-not-may_put-clause-others : goal.returns-then-not-may_put-clause-others
returns-then-not-may_put-clause-others c = λ reached.
    others_all c.fail.result c.args.key c.args.self.now c.args.self.now c.fail.new.self (c.fail.ensures.rests reached) (others_refl c.args.key c.args.self.now)

pub returns-then-fits-clause-others : goal.returns-then-fits-clause-others
returns-then-fits-clause-others c = λ reached.
    sent_rest c.args.key c.in-Some.hold c.args.self.now c.note_went_on.new.self c.fits_on.new.self c.put_on.new.pool reached (sym c.hold_of.ensures ∙ c.in-Some.is) c.in_ok-is_put.ensures.others c.note_went_on.ensures.pool c.note_went_on.ensures.links c.note_went_on.ensures.asks c.fits_on.ensures.pool
    c.in_ok-fits.ensures.others c.in_ok-fits.ensures.asks

pub returns-then-not-is_put-clause-others : goal.returns-then-not-is_put-clause-others
returns-then-not-is_put-clause-others c = λ reached.
    others_all c.fail-then-not-is_put.result c.args.key c.args.self.now c.note_went_on.new.self c.fail-then-not-is_put.new.self (c.fail-then-not-is_put.ensures.rests (put_reached c.args.self.now.pool c.put_on.new.pool c.note_went_on.new.self.pool c.in_ok-is_put.ensures.goes c.note_went_on.ensures.pool reached))
    (put_rest c.args.key c.in-Some.hold c.args.self.now c.note_went_on.new.self c.put_on.new.pool reached (sym c.hold_of.ensures ∙ c.in-Some.is) c.in_ok-is_put.ensures.others c.note_went_on.ensures.pool c.note_went_on.ensures.links c.note_went_on.ensures.asks)

pub returns-else-fits-clause-others : goal.returns-else-fits-clause-others
returns-else-fits-clause-others c = λ reached.
    others_all c.fail-else-fits.result c.args.key c.args.self.now c.fits_on.new.self c.fail-else-fits.new.self (c.fail-else-fits.ensures.rests (put_reached c.args.self.now.pool c.put_on.new.pool c.fits_on.new.self.pool c.in_ok-is_put.ensures.goes (c.fits_on.ensures.pool ∙ c.note_went_on.ensures.pool) reached))
    (sent_rest c.args.key c.in-Some.hold c.args.self.now c.note_went_on.new.self c.fits_on.new.self c.put_on.new.pool reached (sym c.hold_of.ensures ∙ c.in-Some.is) c.in_ok-is_put.ensures.others c.note_went_on.ensures.pool c.note_went_on.ensures.links c.note_went_on.ensures.asks c.fits_on.ensures.pool
    c.in_ok-fits.ensures.others c.in_ok-fits.ensures.asks)

pub returns-then-not-is_put-clause-goes : goal.returns-then-not-is_put-clause-goes
returns-then-not-is_put-clause-goes c = ok_more c.fail-then-not-is_put.result _ _
    (λ g by from h. g by from (subst (λ (d : code.Pool). Reaches by from (pool_in d)) (sym c.note_went_on.ensures.pool) (c.in_ok-is_put.ensures.goes by from h)))
    c.fail-then-not-is_put.ensures.goes

pub returns-else-fits-clause-goes : goal.returns-else-fits-clause-goes
returns-else-fits-clause-goes c = ok_more c.fail-else-fits.result _ _
    (λ g by from h. g by from (subst (λ (d : code.Pool). Reaches by from (pool_in d)) (sym (c.fits_on.ensures.pool ∙ c.note_went_on.ensures.pool)) (c.in_ok-is_put.ensures.goes by from h)))
    c.fail-else-fits.ensures.goes

pub returns-then-fits-clause-goes : goal.returns-then-fits-clause-goes
returns-then-fits-clause-goes c = λ by from h.
    subst (λ (d : code.Pool). Reaches by from (pool_in d)) (sym (c.fits_on.ensures.pool ∙ c.note_went_on.ensures.pool)) (c.in_ok-is_put.ensures.goes by from h)

pub returns-in_default-clause-body : goal.returns-in_default-clause-body
returns-in_default-clause-body c = ok_more c.end.result _ _ (λ e. inl (closed_body c.args.key c.end.new.self.applications _ (going_of c.args.key c.end.new.self) e)) c.end.ensures.ends

pub returns-then-not-may_put-clause-body : goal.returns-then-not-may_put-clause-body
returns-then-not-may_put-clause-body c = ok_more c.fail.result _ _ (λ d. inl (shut c.fail.new.self.applications c.args.key (going_of c.args.key c.fail.new.self) d)) c.fail.ensures.over

pub returns-then-not-is_put-clause-body : goal.returns-then-not-is_put-clause-body
returns-then-not-is_put-clause-body c = ok_more c.fail-then-not-is_put.result _ _ (λ d. inl (shut c.fail-then-not-is_put.new.self.applications c.args.key (going_of c.args.key c.fail-then-not-is_put.new.self) d)) c.fail-then-not-is_put.ensures.over

pub returns-else-fits-clause-body : goal.returns-else-fits-clause-body
returns-else-fits-clause-body c = ok_more c.fail-else-fits.result _ _ (λ d. inl (shut c.fail-else-fits.new.self.applications c.args.key (going_of c.args.key c.fail-else-fits.new.self) d)) c.fail-else-fits.ensures.over

pub returns-then-fits-clause-body : goal.returns-then-fits-clause-body
returns-then-fits-clause-body c =
    let after : List ℕ = c.put_on.new.out.items in
    let ls : List Link = c.args.self.now.links.items in
    let p : ClientPuts c.args.whole c.args.bytes.now c.args.key c.args.self.now.pool c.put_on.new.pool [] after =
    subst (λ (xs : List ℕ). ClientPuts c.args.whole c.args.bytes.now c.args.key c.args.self.now.pool c.put_on.new.pool xs after) (search rules) (c.in_ok-is_put.ensures.body (search rules)) in
    inr (
      λ goes. c.in_ok-fits.ensures.asks c.args.key goes ∙ c.note_went_on.ensures.asks c.args.key goes,
      subst (λ (d : code.Pool). Grows c.args.whole c.args.bytes.now (going_of c.args.key c.args.self.now) (going d.service c.fits_on.new.self.links.items (find_key c.args.key d.holds.items))) (sym (c.fits_on.ensures.pool ∙ c.note_went_on.ensures.pool))
          (grows_on c.args.whole c.args.bytes.now c.args.key c.args.self.now.pool c.put_on.new.pool after ls c.fits_on.new.self.links.items c.in-Some.hold (sym c.hold_of.ensures ∙ c.in-Some.is) p
          (waits_behind c.in-Some.hold.number c.fits_on.new.self.links.items _ ls _ after (c.in_ok-fits.ensures.waits (search rules)) c.note_went_on.ensures.links c.note_went_on.ensures.outbox)),
    )

pub returns-in_default-clause-alone : goal.returns-in_default-clause-alone
returns-in_default-clause-alone c = ok_more c.end.result _ _ (λ e. alone_changed c.args.key closes (core_in c.args.self.now) (core_in c.end.new.self) e (ap (λ (d : code.Pool). (pool_in d).line) c.end.ensures.pool)) c.end.ensures.ends

pub returns-then-not-is_put-clause-alone : goal.returns-then-not-is_put-clause-alone
returns-then-not-is_put-clause-alone c =
    alone_on c.fail-then-not-is_put.result c.args.key (core_in c.args.self.now) (core_in c.note_went_on.new.self) _ c.fail-then-not-is_put.ensures.alone
    (alone_changed c.args.key _ (core_in c.args.self.now) (core_in c.note_went_on.new.self) c.note_went_on.ensures.ends (ap (λ (d : code.Pool). (pool_in d).line) c.note_went_on.ensures.pool ∙ c.in_ok-is_put.ensures.line))

pub returns-then-fits-clause-alone : goal.returns-then-fits-clause-alone
returns-then-fits-clause-alone c =
    alone_both c.args.key (core_in c.args.self.now) (core_in c.note_went_on.new.self) (core_in c.fits_on.new.self)
    (alone_changed c.args.key _ (core_in c.args.self.now) (core_in c.note_went_on.new.self) c.note_went_on.ensures.ends (ap (λ (d : code.Pool). (pool_in d).line) c.note_went_on.ensures.pool ∙ c.in_ok-is_put.ensures.line))
    (alone_same c.args.key (core_in c.note_went_on.new.self) (core_in c.fits_on.new.self) c.in_ok-fits.ensures.ends (ap (λ (d : code.Pool). (pool_in d).line) c.fits_on.ensures.pool))

pub returns-else-fits-clause-alone : goal.returns-else-fits-clause-alone
returns-else-fits-clause-alone c =
    alone_on c.fail-else-fits.result c.args.key (core_in c.args.self.now) (core_in c.fits_on.new.self) _ c.fail-else-fits.ensures.alone
    (alone_both c.args.key (core_in c.args.self.now) (core_in c.note_went_on.new.self) (core_in c.fits_on.new.self)
    (alone_changed c.args.key _ (core_in c.args.self.now) (core_in c.note_went_on.new.self) c.note_went_on.ensures.ends (ap (λ (d : code.Pool). (pool_in d).line) c.note_went_on.ensures.pool ∙ c.in_ok-is_put.ensures.line))
    (alone_same c.args.key (core_in c.note_went_on.new.self) (core_in c.fits_on.new.self) c.in_ok-fits.ensures.ends (ap (λ (d : code.Pool). (pool_in d).line) c.fits_on.ensures.pool)))

pub returns-in_default-clause-ordered : goal.returns-in_default-clause-ordered
returns-in_default-clause-ordered c = ordered_closing c.end.result _ _ _ _ c.end.ensures.ordered (ordered_refl _)

pub returns-then-not-is_put-clause-ordered : goal.returns-then-not-is_put-clause-ordered
returns-then-not-is_put-clause-ordered c = ordered_on c.fail-then-not-is_put.result _ _ _ c.fail-then-not-is_put.ensures.ordered (ordered_same _ _ c.note_went_on.ensures.orders)

pub returns-then-fits-clause-ordered : goal.returns-then-fits-clause-ordered
returns-then-fits-clause-ordered c = ordered_both _ _ _ (ordered_same _ _ c.note_went_on.ensures.orders) c.in_ok-fits.ensures.ordered

pub returns-else-fits-clause-ordered : goal.returns-else-fits-clause-ordered
returns-else-fits-clause-ordered c = ordered_on c.fail-else-fits.result _ _ _ c.fail-else-fits.ensures.ordered (ordered_both _ _ _ (ordered_same _ _ c.note_went_on.ensures.orders) c.in_ok-fits.ensures.ordered)

pub returns-in_default-clause-answers : goal.returns-in_default-clause-answers
returns-in_default-clause-answers c = answers_unchanged c.end.result _ _ c.end.ensures.links

pub returns-then-not-is_put-clause-answers : goal.returns-then-not-is_put-clause-answers
returns-then-not-is_put-clause-answers c = answers_from c.fail-then-not-is_put.result _ _ _ c.note_went_on.ensures.links c.fail-then-not-is_put.ensures.answers

pub returns-then-fits-clause-answers : goal.returns-then-fits-clause-answers
returns-then-fits-clause-answers c = answers_both _ _ _ (answers_same _ _ c.note_went_on.ensures.links) c.in_ok-fits.ensures.answers

pub returns-else-fits-clause-answers : goal.returns-else-fits-clause-answers
returns-else-fits-clause-answers c = answers_on c.fail-else-fits.result _ _ _ (answers_both _ _ _ (answers_same _ _ c.note_went_on.ensures.links) c.in_ok-fits.ensures.answers) c.fail-else-fits.ensures.answers

pub returns-in_default-clause-lasts : goal.returns-in_default-clause-lasts
returns-in_default-clause-lasts c = same_last c.end.result c.args.key _ c.end.new.self c.end.ensures.links

pub returns-then-not-may_put-clause-lasts : goal.returns-then-not-may_put-clause-lasts
returns-then-not-may_put-clause-lasts c = deaf_last c.fail.result c.args.key _ c.fail.new.self c.fail.ensures.over

pub returns-then-not-is_put-clause-lasts : goal.returns-then-not-is_put-clause-lasts
returns-then-not-is_put-clause-lasts c = deaf_last c.fail-then-not-is_put.result c.args.key _ c.fail-then-not-is_put.new.self c.fail-then-not-is_put.ensures.over

pub returns-then-fits-clause-lasts : goal.returns-then-fits-clause-lasts
returns-then-fits-clause-lasts c = inl (last_all _ _ _ (last_links _ _ c.note_went_on.ensures.links) c.in_ok-fits.ensures.lasts)

pub returns-else-fits-clause-lasts : goal.returns-else-fits-clause-lasts
returns-else-fits-clause-lasts c = deaf_last c.fail-else-fits.result c.args.key _ c.fail-else-fits.new.self c.fail-else-fits.ensures.over

pub returns-in_default-clause-closes : goal.returns-in_default-clause-closes
returns-in_default-clause-closes c = for_reason c.end.result c.args.key _ _ _ (Unheld (sym c.hold_of.ensures ∙ c.in_default.is)) c.end.ensures.closes

pub returns-then-not-may_put-clause-closes : goal.returns-then-not-may_put-clause-closes
returns-then-not-may_put-clause-closes c = for_reason c.fail.result c.args.key _ _ _ (Unbegun (c.may_put.ensures.unbegun (search rules))) c.fail.ensures.closes

pub returns-then-not-is_put-clause-closes : goal.returns-then-not-is_put-clause-closes
returns-then-not-is_put-clause-closes c = for_reason c.fail-then-not-is_put.result c.args.key _ _ _ (Untaken (c.in_ok-is_put.ensures.untaken (search rules) c.in-Some.hold (sym c.hold_of.ensures ∙ c.in-Some.is)))
    (closes_first c.fail-then-not-is_put.result (Itself c.args.key) _ _ _ c.fail-then-not-is_put.ensures.closes c.note_went_on.ensures.closes)

pub returns-then-fits-clause-closes : goal.returns-then-fits-clause-closes
returns-then-fits-clause-closes c = closes_nobody _ _ _ (closes_both NoKey _ _ _ c.note_went_on.ensures.closes c.in_ok-fits.ensures.closes)

pub returns-else-fits-clause-closes : goal.returns-else-fits-clause-closes
returns-else-fits-clause-closes c =
    let after : List ℕ = c.put_on.new.out.items in
    let p : ClientPuts c.args.whole c.args.bytes.now c.args.key c.args.self.now.pool c.put_on.new.pool [] after =
    subst (λ (xs : List ℕ). ClientPuts c.args.whole c.args.bytes.now c.args.key c.args.self.now.pool c.put_on.new.pool xs after) (search rules) (c.in_ok-is_put.ensures.body (search rules)) in
    let none : HasNoRoom c.in-Some.hold.number after c.args.self.now.links.items =
    subst (λ (xs : List ℕ). HasNoRoom c.in-Some.hold.number xs c.args.self.now.links.items) c.note_went_on.ensures.outbox
    (subst (λ (ls : List Link). HasNoRoom c.in-Some.hold.number c.note_went_on.new.self.outbox.items ls) c.note_went_on.ensures.links (c.in_ok-fits.ensures.no_room (search rules))) in
    for_reason c.fail-else-fits.result c.args.key _ _ _
    (Unfit c.put_on.new.pool after p (no_room_there c.args.whole c.args.bytes.now c.args.key c.args.self.now.pool c.put_on.new.pool after c.args.self.now.links.items c.in-Some.hold p (sym c.hold_of.ensures ∙ c.in-Some.is) none))
    (closes_first c.fail-else-fits.result (Itself c.args.key) _ _ _ c.fail-else-fits.ensures.closes (closes_both NoKey _ _ _ c.note_went_on.ensures.closes c.in_ok-fits.ensures.closes))

pub returns-in_default-clause-seated : goal.returns-in_default-clause-seated
returns-in_default-clause-seated c = λ s. kept_end c.end.result c.args.self.now c.end.new.self c.end.ensures.pool c.end.ensures.links s

pub returns-then-not-is_put-clause-seated : goal.returns-then-not-is_put-clause-seated
returns-then-not-is_put-clause-seated c = λ s.
    c.fail-then-not-is_put.ensures.seated (pool_kept c.put_on.new.pool c.args.self.now.links.items c.note_went_on.new.self c.note_went_on.ensures.pool c.note_went_on.ensures.links (seated_on (pool_in c.args.self.now.pool) (pool_in c.put_on.new.pool) c.args.self.now.links.items (gone_on (pool_in c.args.self.now.pool) (pool_in c.put_on.new.pool) c.in_ok-is_put.ensures.goes) c.in_ok-is_put.ensures.seats s))

pub returns-then-fits-clause-seated : goal.returns-then-fits-clause-seated
returns-then-fits-clause-seated c = λ s.
    lasting_seated c.note_went_on.new.self c.fits_on.new.self c.fits_on.ensures.pool c.in_ok-fits.ensures.lasts c.in_ok-fits.ensures.read (pool_kept c.put_on.new.pool c.args.self.now.links.items c.note_went_on.new.self c.note_went_on.ensures.pool c.note_went_on.ensures.links (seated_on (pool_in c.args.self.now.pool) (pool_in c.put_on.new.pool) c.args.self.now.links.items (gone_on (pool_in c.args.self.now.pool) (pool_in c.put_on.new.pool) c.in_ok-is_put.ensures.goes) c.in_ok-is_put.ensures.seats s))

pub returns-else-fits-clause-seated : goal.returns-else-fits-clause-seated
returns-else-fits-clause-seated c = λ s.
    c.fail-else-fits.ensures.seated (lasting_seated c.note_went_on.new.self c.fits_on.new.self c.fits_on.ensures.pool c.in_ok-fits.ensures.lasts c.in_ok-fits.ensures.read (pool_kept c.put_on.new.pool c.args.self.now.links.items c.note_went_on.new.self c.note_went_on.ensures.pool c.note_went_on.ensures.links (seated_on (pool_in c.args.self.now.pool) (pool_in c.put_on.new.pool) c.args.self.now.links.items (gone_on (pool_in c.args.self.now.pool) (pool_in c.put_on.new.pool) c.in_ok-is_put.ensures.goes) c.in_ok-is_put.ensures.seats s)))

pub returns-in_default-clause-own : goal.returns-in_default-clause-own
returns-in_default-clause-own c = λ reached. own_end c.end.result c.args.key c.args.self.now c.end.new.self c.end.ensures.pool c.end.ensures.links

pub returns-then-not-may_put-clause-own : goal.returns-then-not-may_put-clause-own
returns-then-not-may_put-clause-own c = λ reached. c.fail.ensures.own

pub returns-then-not-is_put-clause-own : goal.returns-then-not-is_put-clause-own
returns-then-not-is_put-clause-own c = λ reached.
    own_behind c.fail-then-not-is_put.result c.args.key c.args.self.now c.note_went_on.new.self c.fail-then-not-is_put.new.self
    (own_first c.args.key c.args.self.now c.note_went_on.new.self (ap (λ (d : code.Pool). d.holds.items) c.note_went_on.ensures.pool ∙ c.in_ok-is_put.ensures.holds) (λ n. ap (carried_there n) c.note_went_on.ensures.links)) c.fail-then-not-is_put.ensures.own

pub returns-then-fits-clause-own : goal.returns-then-fits-clause-own
returns-then-fits-clause-own c = λ reached.
    own_put c.args.key c.in-Some.hold.number c.args.self.now.pool.holds.items c.args.self.now.links.items c.fits_on.new.self.pool.holds.items c.fits_on.new.self.links.items
    (ap (λ (d : code.Pool). d.holds.items) (c.fits_on.ensures.pool ∙ c.note_went_on.ensures.pool) ∙ c.in_ok-is_put.ensures.holds)
    (its_holder c.args.key c.in-Some.hold c.args.self.now.pool.holds.items (apart_at (pool_in c.args.self.now.pool) reached) (sym c.hold_of.ensures ∙ c.in-Some.is))
    (λ n differs. carried n c.note_went_on.new.self.links.items c.fits_on.new.self.links.items (c.in_ok-fits.ensures.queues n differs) (c.in_ok-fits.ensures.answers.keeps n) ∙ ap (carried_there n) c.note_went_on.ensures.links)

pub returns-else-fits-clause-own : goal.returns-else-fits-clause-own
returns-else-fits-clause-own c = λ reached.
    own_behind c.fail-else-fits.result c.args.key c.args.self.now c.fits_on.new.self c.fail-else-fits.new.self
    (own_put c.args.key c.in-Some.hold.number c.args.self.now.pool.holds.items c.args.self.now.links.items c.fits_on.new.self.pool.holds.items c.fits_on.new.self.links.items
    (ap (λ (d : code.Pool). d.holds.items) (c.fits_on.ensures.pool ∙ c.note_went_on.ensures.pool) ∙ c.in_ok-is_put.ensures.holds)
    (its_holder c.args.key c.in-Some.hold c.args.self.now.pool.holds.items (apart_at (pool_in c.args.self.now.pool) reached) (sym c.hold_of.ensures ∙ c.in-Some.is))
    (λ n differs. carried n c.note_went_on.new.self.links.items c.fits_on.new.self.links.items (c.in_ok-fits.ensures.queues n differs) (c.in_ok-fits.ensures.answers.keeps n) ∙ ap (carried_there n) c.note_went_on.ensures.links))
    c.fail-else-fits.ensures.own

pub returns-in_default-clause-off : goal.returns-in_default-clause-off
returns-in_default-clause-off c = hold_unchanged c.end.result c.args.key c.args.self.now c.end.new.self c.end.ensures.links

pub returns-then-not-may_put-clause-off : goal.returns-then-not-may_put-clause-off
returns-then-not-may_put-clause-off c = hold_is c.fail.result c.args.key c.in-Some.hold c.args.self.now c.fail.new.self (sym c.hold_of.ensures ∙ c.in-Some.is) c.fail.ensures.off

pub returns-then-not-is_put-clause-off : goal.returns-then-not-is_put-clause-off
returns-then-not-is_put-clause-off c =
    hold_is c.fail-then-not-is_put.result c.args.key c.in-Some.hold c.args.self.now c.fail-then-not-is_put.new.self (sym c.hold_of.ensures ∙ c.in-Some.is)
    (off_then c.fail-then-not-is_put.result c.in-Some.hold.number c.args.self.now.links.items c.note_went_on.new.self.links.items c.fail-then-not-is_put.new.self.links.items
    (off_same c.in-Some.hold.number c.args.self.now.links.items c.note_went_on.new.self.links.items c.note_went_on.ensures.links) c.fail-then-not-is_put.ensures.off)

pub returns-then-fits-clause-off : goal.returns-then-fits-clause-off
returns-then-fits-clause-off c =
    hold_one c.args.key c.in-Some.hold c.args.self.now c.fits_on.new.self (sym c.hold_of.ensures ∙ c.in-Some.is)
    (record { rest = λ n differs. carried n c.note_went_on.new.self.links.items c.fits_on.new.self.links.items (c.in_ok-fits.ensures.queues n differs) (c.in_ok-fits.ensures.answers.keeps n) ∙ ap (carried_there n) c.note_went_on.ensures.links })

pub returns-else-fits-clause-off : goal.returns-else-fits-clause-off
returns-else-fits-clause-off c =
    hold_is c.fail-else-fits.result c.args.key c.in-Some.hold c.args.self.now c.fail-else-fits.new.self (sym c.hold_of.ensures ∙ c.in-Some.is)
    (off_then c.fail-else-fits.result c.in-Some.hold.number c.args.self.now.links.items c.fits_on.new.self.links.items c.fail-else-fits.new.self.links.items
    (record { rest = λ n differs. carried n c.note_went_on.new.self.links.items c.fits_on.new.self.links.items (c.in_ok-fits.ensures.queues n differs) (c.in_ok-fits.ensures.answers.keeps n) ∙ ap (carried_there n) c.note_went_on.ensures.links })
    c.fail-else-fits.ensures.off)

pub returns-then-not-is_put-clause-asks : goal.returns-then-not-is_put-clause-asks
returns-then-not-is_put-clause-asks c = on_then c.fail-then-not-is_put.result c.args.self.now.applications c.note_went_on.new.self.applications c.fail-then-not-is_put.new.self.applications (before_on c.args.self.now.applications c.note_went_on.new.self.applications c.note_went_on.ensures.asks) c.fail-then-not-is_put.ensures.asks

pub returns-then-fits-clause-asks : goal.returns-then-fits-clause-asks
returns-then-fits-clause-asks c = on_both c.args.self.now.applications c.note_went_on.new.self.applications c.fits_on.new.self.applications (before_on c.args.self.now.applications c.note_went_on.new.self.applications c.note_went_on.ensures.asks) (before_on c.note_went_on.new.self.applications c.fits_on.new.self.applications c.in_ok-fits.ensures.asks)

pub returns-else-fits-clause-asks : goal.returns-else-fits-clause-asks
returns-else-fits-clause-asks c = on_then c.fail-else-fits.result c.args.self.now.applications c.fits_on.new.self.applications c.fail-else-fits.new.self.applications (on_both c.args.self.now.applications c.note_went_on.new.self.applications c.fits_on.new.self.applications (before_on c.args.self.now.applications c.note_went_on.new.self.applications c.note_went_on.ensures.asks) (before_on c.note_went_on.new.self.applications c.fits_on.new.self.applications c.in_ok-fits.ensures.asks)) c.fail-else-fits.ensures.asks
