use Rattle.std.proofs.Common.{length, refl, rules, sym, ◌∙◌, ◌==◌, ◌≡◌}
use Rattle.tds_relay.specs.Closings.{NoKey, register_in}
use Rattle.tds_relay.proofs.steps.Staying.{stays_then}
use Rattle.tds_relay.proofs.spared.Shutting.{closes_filled_on, closes_kept, unclosed, unfit_kept}
use Rattle.tds_relay.proofs.spared.Begun.{answers_same, answers_both}
use Rattle.tds_relay.proofs.spared.Lasting.{last_put, last_unfit}
use Rattle.tds_relay.proofs.spared.Losing.{is_some_waiting}
use Rattle.tds_relay.proofs.relay.Relay.fits_on.Goals as goal

pub returns-clause-read : goal.returns-clause-read
returns-clause-read c = stays_then _ _ _ c.append_to.ensures.read c.in_ok-order_write_on.ensures.links

pub returns-then-not-fits-clause-closes : goal.returns-then-not-fits-clause-closes
returns-then-not-fits-clause-closes c = closes_kept NoKey _ _ refl refl refl (unfit_kept c.args.number _ _ c.append_to.ensures.read.seen c.append_to.ensures.others (c.in_ok-fits.ensures.unfit (search rules))) (unclosed _ _ refl)

pub returns-clause-closes : goal.returns-clause-closes
returns-clause-closes c =
    closes_filled_on NoKey c.args.number c.deref.result.now (register_in c.args.self.now) _ _ c.in_ok-order_write_on.ensures.ends c.in_ok-order_write_on.ensures.kept refl c.append_to.ensures.read.seen c.append_to.ensures.others (c.in_ok-fits.ensures.appends (search rules)) refl
    c.in_ok-order_write_on.ensures.links c.in_ok-order_write_on.ensures.writes c.in_ok-order_write_on.ensures.times c.in_ok-order_write_on.ensures.closes

pub returns-clause-answers : goal.returns-clause-answers
returns-clause-answers c = answers_both _ _ _ c.append_to.ensures.answers (answers_same _ _ c.in_ok-order_write_on.ensures.links)

pub returns-then-not-fits-clause-lasts : goal.returns-then-not-fits-clause-lasts
returns-then-not-fits-clause-lasts c = last_unfit c.args.number _ _ c.append_to.ensures.others (c.in_ok-fits.ensures.unfit (search rules))

pub returns-clause-lasts : goal.returns-clause-lasts
returns-clause-lasts c = last_put c.args.number c.deref.result.now _ _ _ c.append_to.ensures.others (c.in_ok-fits.ensures.appends (search rules)) c.in_ok-order_write_on.ensures.links

pub returns-then-not-fits-clause-some : goal.returns-then-not-fits-clause-some
returns-then-not-fits-clause-some c = λ no none.
    let same : c.is_empty.result ≡ (length c.args.self.now.outbox.items == 0) = search rules in
    is_some_waiting c.args.self.now.outbox.items (sym same ∙ c.if-is_empty.false) none
