use Rattle.std.proofs.Common.{sym, refl, rules, ◌∙◌, ap}
use Rattle.tds_relay.specs.Ties.{Application, pool_in}
use Rattle.tds_relay.proofs.steps.Reaching.{ok_if, ok_more}
use Rattle.tds_relay.proofs.steps.Staying.{stays_refl, stays_same}
use Rattle.tds_relay.specs.Bodies.{body_of, standing_in}
use Rattle.tds_relay.proofs.steps.Bodied.{same_starts}
use Rattle.tds_relay.proofs.spared.Closings.{closes_nobody}
use Rattle.tds_relay.proofs.spared.Reasons.{for_that}
use Rattle.tds_relay.proofs.spared.Turned.{turned_held}
use Rattle.tds_relay.proofs.spared.Cleaned.{not_both}
use Rattle.tds_relay.proofs.spared.Speaking.{waited_rest}
use Rattle.tds_relay.proofs.spared.Elsewhere.{aside_own, aside_refl, aside_waits}
use Rattle.tds_relay.specs.Reads.{waits_on}
use Rattle.tds_relay.proofs.steps.Still.{put_same}
use Rattle.tds_relay.proofs.spared.Rightly.{held_right_on, waits_right_on}
use Rattle.tds_relay.proofs.spared.Begun.{answers_refl, answers_then}
use Rattle.tds_relay.proofs.lending.Tending.{none_led, tend_kept, tend_waits}
use Rattle.tds_relay.proofs.relay.Relay.seek.Goals as goal

pub returns-in-None-clause-goes : goal.returns-in-None-clause-goes
returns-in-None-clause-goes c = ok_more c.wait.result _ _ (λ g from h. g (Application c.args.key) refl from h) c.wait.ensures.goes

pub returns-in-None-clause-moves : goal.returns-in-None-clause-moves
returns-in-None-clause-moves c = ok_more c.wait.result _ _ (λ m begun from h. m (Application c.args.key) refl begun from h) c.wait.ensures.moves

pub returns-in-None-clause-underway : goal.returns-in-None-clause-underway
returns-in-None-clause-underway c = λ whole waits. ok_more c.wait.result _ _ (λ u. u whole) (c.wait.ensures.underway (search rules))

pub returns-in-None-clause-read : goal.returns-in-None-clause-read
returns-in-None-clause-read c = stays_same c.wait.result _ _ _ (stays_refl c.args.self.now.links.items) (ok_if c.wait.result _ c.wait.ensures.links)

pub returns-in-None-clause-body : goal.returns-in-None-clause-body
returns-in-None-clause-body c = ok_if c.wait.result _ (same_starts (body_of c.args.key c.args.self.now) (body_of c.args.key c.wait.new.self) (c.wait.ensures.body c.args.key))

pub returns-in-None-clause-closes : goal.returns-in-None-clause-closes
returns-in-None-clause-closes c = ok_if c.wait.result _ (closes_nobody _ _ _ c.wait.ensures.closes)

pub returns-in-Some-clause-stays : goal.returns-in-Some-clause-stays
returns-in-Some-clause-stays c = λ none. absurd (not_both _ _ c.in-Some.is (c.hold_of.ensures ∙ none))

pub returns-in-None-clause-stays : goal.returns-in-None-clause-stays
returns-in-None-clause-stays c = λ none. ok_if c.wait.result _ (c.wait.ensures.body c.args.key)

pub returns-in-Some-clause-closes : goal.returns-in-Some-clause-closes
returns-in-Some-clause-closes c = for_that c.start_kept.result c.args.key _ _ _ _ (λ why. turned_held c.args.key _ c.args.self.now (sym c.hold_of.ensures ∙ c.in-Some.is) why) c.start_kept.ensures.closes

pub returns-in-Some-clause-others : goal.returns-in-Some-clause-others
returns-in-Some-clause-others c = c.start_kept.ensures.others

pub returns-in-None-clause-others : goal.returns-in-None-clause-others
returns-in-None-clause-others c = λ reached. waited_rest c.wait.result c.args.key c.args.self.now c.wait.new.self c.wait.ensures.body c.wait.ensures.service c.wait.ensures.holds

pub returns-in-Some-clause-moves : goal.returns-in-Some-clause-moves
returns-in-Some-clause-moves c = ok_more c.start_kept.result _ _ (λ m begun from h. m (Application c.args.key) from h) c.start_kept.ensures.moves

pub returns-in-Some-clause-aside : goal.returns-in-Some-clause-aside
returns-in-Some-clause-aside c = λ reached. aside_own c.start_kept.result c.args.key c.args.self.now c.start_kept.new.self (c.start_kept.ensures.own reached)

pub returns-in-None-clause-aside : goal.returns-in-None-clause-aside
returns-in-None-clause-aside c = λ reached. aside_waits c.wait.result c.args.key c.args.self.now c.args.self.now c.wait.new.self (aside_refl c.args.key c.args.self.now) c.wait.ensures.holds c.wait.ensures.links

pub returns-in-None-clause-puts : goal.returns-in-None-clause-puts
returns-in-None-clause-puts c = ok_if c.wait.result _ (put_same (standing_in c.args.key c.args.self.now) (standing_in c.args.key c.wait.new.self) (c.wait.ensures.body c.args.key) (λ number. ap (waits_on number) c.wait.ensures.links))

pub returns-in-Some-clause-right : goal.returns-in-Some-clause-right
returns-in-Some-clause-right c = held_right_on c.start_kept.result c.args.key c.start_kept.new.self c.start_kept.ensures.placed

pub returns-in-None-clause-right : goal.returns-in-None-clause-right
returns-in-None-clause-right c = waits_right_on c.wait.result c.args.key c.args.self.now c.wait.new.self c.wait.ensures.holds (sym c.hold_of.ensures ∙ c.in-None.is)

pub returns-in-None-clause-answers : goal.returns-in-None-clause-answers
returns-in-None-clause-answers c = answers_then c.wait.result _ _ _ (answers_refl c.args.self.now.links.items) (ok_if c.wait.result _ c.wait.ensures.links)

pub returns-in-Some-clause-awaits : goal.returns-in-Some-clause-awaits
returns-in-Some-clause-awaits c =
    tend_kept c.start_kept.result c.args.key c.args.self.now c.start_kept.new.self (none_led c.start_kept.result (pool_in c.args.self.now.pool) (pool_in c.start_kept.new.self.pool) c.start_kept.ensures.goes) (returns-in-Some-clause-aside c)

pub returns-in-None-clause-awaits : goal.returns-in-None-clause-awaits
returns-in-None-clause-awaits c = tend_waits c.wait.result c.args.key c.args.self.now c.wait.new.self c.wait.ensures.goes c.wait.ensures.links
