use Rattle.std.proofs.Common.{ap, inl, rules, subst, sym, ◌∙◌, ◌≡◌, None, Option, Some, ℕ, inr, refl}
use Rattle.tds_relay.specs.Ties.{pool_in, IsReached}
use Rattle.tds_relay.proofs.steps.Fronts.{ends_more, moves_same}
use Rattle.tds_relay.proofs.steps.Reaching.{ok_if, ok_more}
use Rattle.tds_relay.proofs.steps.Staying.{stays_on, filled_by, gone_filled}
use Rattle.tds_relay.proofs.bytes.Calls.{stand_from}
use Rattle.tds_relay.proofs.spared.Letting.{sent_all}
use Rattle.tds_relay.specs.declared.pool.Pool as code
use Rattle.tds_relay.proofs.spared.Ordered.{ordered_on}
use Rattle.tds_relay.specs.Closings.{IsWho, NoKey}
use Rattle.tds_relay.specs.Core.{change_whose, closes, holder}
use Rattle.tds_relay.proofs.spared.Closings.{closes_with}
use Rattle.tds_relay.specs.Pool.{find_number, key_of, without_number}
use Rattle.tds_relay.specs.Fronts.{ends_in}
use Rattle.tds_relay.proofs.spared.Cleaned.{not_both, failed_is, more_is, sent_gone, sent_there, waits_none}
use Rattle.tds_relay.proofs.seats.Relays.{lasting_seated}
use Rattle.tds_relay.proofs.seats.Pools.{off_of}
use Rattle.tds_relay.proofs.spared.Begun.{answers_on}
use Rattle.tds_relay.specs.Cleaning.{cleaned_in}
use Rattle.tds_relay.specs.Reads.{waits_on}
use Rattle.tds_relay.specs.Reasons.{HasNoRoom}
use Rattle.tds_relay.proofs.relay.Relay.send_unheld.Goals as goal

pub returns-in-None-clause-read : goal.returns-in-None-clause-read
returns-in-None-clause-read c = stays_on c.lose.result _ _ _ c.in_ok-fits.ensures.read c.lose.ensures.read

pub returns-then-fits-clause-moves : goal.returns-then-fits-clause-moves
returns-then-fits-clause-moves c = λ by from h. moves_same by from _ _ _ _ (ap pool_in c.fits_on.ensures.pool) c.in_ok-fits.ensures.ends h

pub returns-in-Some-clause-moves : goal.returns-in-Some-clause-moves
returns-in-Some-clause-moves c = λ by from h. moves_same by from _ _ _ _ (ap pool_in c.fits_on.ensures.pool) c.in_ok-fits.ensures.ends h

pub returns-in-None-clause-moves : goal.returns-in-None-clause-moves
returns-in-None-clause-moves c =
    ok_more c.lose.result _ _ (λ m by from h. m by from (moves_same by from _ _ _ _ (ap pool_in c.fits_on.ensures.pool) c.in_ok-fits.ensures.ends h)) c.lose.ensures.moves

pub returns-in-None-clause-stand : goal.returns-in-None-clause-stand
returns-in-None-clause-stand c = stand_from c.lose.result _ _ _ c.fits_on.ensures.pool c.lose.ensures.stand

pub returns-then-fits-clause-sends : goal.returns-then-fits-clause-sends
returns-then-fits-clause-sends c = λ reached. inl (c.fits_on.ensures.pool, c.in_ok-fits.ensures.others)

pub returns-in-Some-clause-sends : goal.returns-in-Some-clause-sends
returns-in-Some-clause-sends c = λ reached. inl (c.fits_on.ensures.pool, c.in_ok-fits.ensures.others)

pub returns-in-None-clause-sends : goal.returns-in-None-clause-sends
returns-in-None-clause-sends c = λ reached.
    sent_all c.lose.result c.args.number c.args.self.now (record c.fits_on.new.self { failed = c.saturating_add-self-2.result }) c.lose.new.self reached c.fits_on.ensures.pool c.in_ok-fits.ensures.asks c.in_ok-fits.ensures.others
    (c.lose.ensures.rests (subst (λ (d : code.Pool). IsReached (pool_in d)) (sym c.fits_on.ensures.pool) reached)) c.lose.ensures.shuts

pub returns-in-None-clause-ordered : goal.returns-in-None-clause-ordered
returns-in-None-clause-ordered c = ordered_on c.lose.result _ _ _ c.lose.ensures.ordered c.in_ok-fits.ensures.ordered

pub returns-in-None-clause-closes : goal.returns-in-None-clause-closes
returns-in-None-clause-closes c = closes_with c.lose.result (IsWho (holder (pool_in c.fits_on.new.self.pool) c.args.number)) NoKey _ _ _
    (λ key e. (let u : None ≡ Some key = sym (sym c.key_on.ensures ∙ c.in-None.is) ∙ e in let v : ⊥ = cc in v)) c.lose.ensures.closes c.in_ok-fits.ensures.closes

pub returns-then-fits-clause-puts : goal.returns-then-fits-clause-puts
returns-then-fits-clause-puts c = λ none. filled_by c.args.self.now.outbox.items _ _ (c.in_ok-fits.ensures.waits (search rules))

pub returns-in-Some-clause-puts : goal.returns-in-Some-clause-puts
returns-in-Some-clause-puts c = λ none.
    absurd (not_both _ _ c.in-Some.is (c.key_on.ensures ∙ ap (λ (d : code.Pool). key_of (find_number c.args.number (pool_in d).holds)) c.fits_on.ensures.pool ∙ ap key_of none))

pub returns-in-None-clause-puts : goal.returns-in-None-clause-puts
returns-in-None-clause-puts c = λ none. ok_more c.lose.result _ _ (λ g. gone_filled c.args.self.now.outbox.items c.args.number _ c.lose.new.self.links.items g) c.lose.ensures.gone

pub returns-in-None-clause-ends : goal.returns-in-None-clause-ends
returns-in-None-clause-ends c = ends_more c.lose.result _ _ _ c.lose.ensures.ends
    (ap (λ (o : Option ℕ). change_whose o closes (ends_in c.fits_on.new.self.applications)) (sym c.key_on.ensures ∙ c.in-None.is) ∙ c.in_ok-fits.ensures.ends)

pub returns-then-fits-clause-seated : goal.returns-then-fits-clause-seated
returns-then-fits-clause-seated c = λ s. lasting_seated c.args.self.now c.fits_on.new.self c.fits_on.ensures.pool c.in_ok-fits.ensures.lasts c.in_ok-fits.ensures.read s

pub returns-in-Some-clause-seated : goal.returns-in-Some-clause-seated
returns-in-Some-clause-seated c = λ s. lasting_seated c.args.self.now c.fits_on.new.self c.fits_on.ensures.pool c.in_ok-fits.ensures.lasts c.in_ok-fits.ensures.read s

pub returns-in-None-clause-seated : goal.returns-in-None-clause-seated
returns-in-None-clause-seated c = λ s. c.lose.ensures.seated (off_of c.args.number (pool_in c.fits_on.new.self.pool) c.fits_on.new.self.links.items (lasting_seated c.args.self.now c.fits_on.new.self c.fits_on.ensures.pool c.in_ok-fits.ensures.lasts c.in_ok-fits.ensures.read s))

pub returns-then-fits-clause-others : goal.returns-then-fits-clause-others
returns-then-fits-clause-others c = c.in_ok-fits.ensures.others

pub returns-in-Some-clause-others : goal.returns-in-Some-clause-others
returns-in-Some-clause-others c = c.in_ok-fits.ensures.others

pub returns-in-None-clause-others : goal.returns-in-None-clause-others
returns-in-None-clause-others c = ok_more c.lose.result _ _ (λ h other differs. h other differs ∙ c.in_ok-fits.ensures.others other differs) c.lose.ensures.others

pub returns-then-fits-clause-line : goal.returns-then-fits-clause-line
returns-then-fits-clause-line c = ap (λ (d : code.Pool). (pool_in d).line) c.fits_on.ensures.pool

pub returns-in-Some-clause-line : goal.returns-in-Some-clause-line
returns-in-Some-clause-line c = ap (λ (d : code.Pool). (pool_in d).line) c.fits_on.ensures.pool

pub returns-in-None-clause-line : goal.returns-in-None-clause-line
returns-in-None-clause-line c = ok_more c.lose.result _ _ (λ l. l ∙ ap (λ (d : code.Pool). (pool_in d).line) c.fits_on.ensures.pool) c.lose.ensures.line

pub returns-then-fits-clause-holds : goal.returns-then-fits-clause-holds
returns-then-fits-clause-holds c = inl (ap (λ (d : code.Pool). d.holds.items) c.fits_on.ensures.pool)

pub returns-in-Some-clause-holds : goal.returns-in-Some-clause-holds
returns-in-Some-clause-holds c = inl (ap (λ (d : code.Pool). d.holds.items) c.fits_on.ensures.pool)

pub returns-in-None-clause-holds : goal.returns-in-None-clause-holds
returns-in-None-clause-holds c = ok_more c.lose.result _ _ (λ e. inr (e ∙ ap (λ (d : code.Pool). without_number c.args.number d.holds.items) c.fits_on.ensures.pool)) c.lose.ensures.holds

pub returns-then-fits-clause-queues : goal.returns-then-fits-clause-queues
returns-then-fits-clause-queues c = c.in_ok-fits.ensures.queues

pub returns-in-Some-clause-queues : goal.returns-in-Some-clause-queues
returns-in-Some-clause-queues c = c.in_ok-fits.ensures.queues

pub returns-in-None-clause-queues : goal.returns-in-None-clause-queues
returns-in-None-clause-queues c = ok_more c.lose.result _ _ (λ h other differs. h other differs ∙ c.in_ok-fits.ensures.queues other differs) c.lose.ensures.queues

pub returns-then-fits-clause-answers : goal.returns-then-fits-clause-answers
returns-then-fits-clause-answers c = c.in_ok-fits.ensures.answers

pub returns-in-Some-clause-answers : goal.returns-in-Some-clause-answers
returns-in-Some-clause-answers c = c.in_ok-fits.ensures.answers

pub returns-in-None-clause-answers : goal.returns-in-None-clause-answers
returns-in-None-clause-answers c = answers_on c.lose.result _ _ _ c.in_ok-fits.ensures.answers c.lose.ensures.answers

pub returns-then-fits-clause-counts : goal.returns-then-fits-clause-counts
returns-then-fits-clause-counts c =
    inl (more_is (cleaned_in c.args.self.now) (cleaned_in c.fits_on.new.self) (c.saturating_add-self.result, c.fits_on.new.self.failed) c.saturating_add-self.result c.fits_on.ensures.counts c.saturating_add-self.ensures refl)

pub returns-in-Some-clause-counts : goal.returns-in-Some-clause-counts
returns-in-Some-clause-counts c =
    inr (failed_is (cleaned_in c.args.self.now) (cleaned_in c.fits_on.new.self) (c.fits_on.new.self.cleanings, c.saturating_add-self-2.result) c.saturating_add-self-2.result c.fits_on.ensures.counts c.saturating_add-self-2.ensures refl)

pub returns-in-None-clause-counts : goal.returns-in-None-clause-counts
returns-in-None-clause-counts c =
    ok_if c.lose.result _ (inr (failed_is (cleaned_in c.args.self.now) (cleaned_in c.fits_on.new.self) (cleaned_in c.lose.new.self) c.saturating_add-self-2.result c.fits_on.ensures.counts c.saturating_add-self-2.ensures c.lose.ensures.counts))

pub returns-then-fits-clause-cleaned : goal.returns-then-fits-clause-cleaned
returns-then-fits-clause-cleaned c = λ none there.
    sent_there (HasNoRoom c.args.number c.args.self.now.outbox.items c.args.self.now.links.items) (waits_on c.args.number c.args.self.now.links.items) (waits_on c.args.number c.fits_on.new.self.links.items) c.args.self.now.outbox.items (cleaned_in c.args.self.now) (c.saturating_add-self.result, c.fits_on.new.self.failed)
    (c.in_ok-fits.ensures.waits (search rules)) there
    (more_is (cleaned_in c.args.self.now) (cleaned_in c.fits_on.new.self) (c.saturating_add-self.result, c.fits_on.new.self.failed) c.saturating_add-self.result c.fits_on.ensures.counts c.saturating_add-self.ensures refl)

pub returns-in-Some-clause-cleaned : goal.returns-in-Some-clause-cleaned
returns-in-Some-clause-cleaned c = λ none there.
    absurd (not_both _ _ c.in-Some.is (c.key_on.ensures ∙ ap (λ (d : code.Pool). key_of (find_number c.args.number (pool_in d).holds)) c.fits_on.ensures.pool ∙ ap key_of none))

pub returns-in-None-clause-cleaned : goal.returns-in-None-clause-cleaned
returns-in-None-clause-cleaned c = λ none there.
    ok_more c.lose.result _ _
    (λ g. sent_gone (HasNoRoom c.args.number c.args.self.now.outbox.items c.args.self.now.links.items) c.args.number c.lose.new.self.links.items (cleaned_in c.args.self.now) (cleaned_in c.lose.new.self) (waits_none c.args.number c.lose.new.self.links.items g)
    (failed_is (cleaned_in c.args.self.now) (cleaned_in c.fits_on.new.self) (cleaned_in c.lose.new.self) c.saturating_add-self-2.result c.fits_on.ensures.counts c.saturating_add-self-2.ensures c.lose.ensures.counts)
    (c.in_ok-fits.ensures.no_room (search rules)))
    c.lose.ensures.gone
