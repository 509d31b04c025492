use Rattle.std.proofs.Common.{refl, rules, ◌≡◌}
use Rattle.tds_relay.specs.Ties.{Application, pool_in}
use Rattle.tds_relay.proofs.steps.Fronts.{ends_kept}
use Rattle.tds_relay.proofs.steps.Queueing.{queues_kept}
use Rattle.tds_relay.proofs.steps.Reaching.{reaches_turn}
use Rattle.tds_relay.proofs.steps.Bodied.{none_starts, nothing_starts}
use Rattle.tds_relay.specs.Closings.{NoKey}
use Rattle.tds_relay.proofs.spared.Sending.{kept_refl}
use Rattle.tds_relay.proofs.spared.Shutting.{closes_kept, unclosed}
use Rattle.tds_relay.proofs.spared.Speaking.{forgotten_rest, unwaited_rest}
use Rattle.tds_relay.proofs.spared.Reasons.{asked_goes}
use Rattle.tds_relay.specs.declared.state.Asking.TheVariants as asking
use Rattle.slab.specs.Slab.{get}
use Rattle.tds_relay.proofs.steps.Underway.{out_by}
use Rattle.tds_relay.proofs.lending.Tending.{tend_here}
use Rattle.tds_relay.proofs.lending.Newly.{turned_was}
use Rattle.tds_relay.proofs.relay.Relay.forget_request.Goals as goal
use Rattle.tds_relay.specs.Places.{own_asking}

pub returns-in_default-clause-goes : goal.returns-in_default-clause-goes
returns-in_default-clause-goes c = λ from h. reaches_turn (Application c.args.key) from _ _ _ _ _ c.unwait.ensures.turns refl h

pub returns-clause-goes : goal.returns-clause-goes
returns-clause-goes c = λ from h. reaches_turn (Application c.args.key) from _ _ _ _ _ c.unwait.ensures.turns refl h

pub returns-clause-kept : goal.returns-clause-kept
returns-clause-kept c = queues_kept c.args.self.now.applications c.args.key c.in-Some.application.now _ c.in-Some.ensures.value c.forget.ensures.queue

pub returns-clause-ends : goal.returns-clause-ends
returns-clause-ends c = ends_kept c.args.self.now.applications c.args.key c.in-Some.application.now _ c.in-Some.ensures.value c.forget.ensures.end

pub returns-in_default-clause-body : goal.returns-in_default-clause-body
returns-in_default-clause-body c = λ goes. none_starts c.args.self.now.applications c.args.key goes (search rules)

pub returns-clause-body : goal.returns-clause-body
returns-clause-body c = λ goes. nothing_starts c.args.self.now.applications c.args.key c.in-Some.application.now _ goes c.in-Some.ensures.value c.forget.ensures.asking

pub returns-clause-closes : goal.returns-clause-closes
returns-clause-closes c = closes_kept NoKey _ _ (ends_kept c.args.self.now.applications c.args.key c.in-Some.application.now _ c.in-Some.ensures.value c.forget.ensures.end) (queues_kept c.args.self.now.applications c.args.key c.in-Some.application.now _ c.in-Some.ensures.value c.forget.ensures.queue) refl (kept_refl c.args.self.now.links.items) (unclosed _ _ refl)

pub returns-in_default-clause-others : goal.returns-in_default-clause-others
returns-in_default-clause-others c = unwaited_rest c.args.key c.args.self.now _ (search rules) c.unwait.ensures.service refl refl

pub returns-clause-others : goal.returns-clause-others
returns-clause-others c = forgotten_rest c.args.key _ c.args.self.now _ (search rules) c.unwait.ensures.service refl refl

pub returns-clause-asked : goal.returns-clause-asked
returns-clause-asked c = λ e goes.
    let asks : own_asking c.in-Some.application.now ≡ asking.Goes = search rules in
    asked_goes (get c.args.self.now.applications c.args.key) c.in-Some.application.now goes c.in-Some.ensures.value asks

pub returns-in_default-clause-away : goal.returns-in_default-clause-away
returns-in_default-clause-away c = out_by c.args.key _ _ c.unwait.ensures.turns.pool_is

pub returns-clause-away : goal.returns-clause-away
returns-clause-away c = out_by c.args.key _ _ c.unwait.ensures.turns.pool_is

pub returns-in_default-clause-awaits : goal.returns-in_default-clause-awaits
returns-in_default-clause-awaits c = tend_here (pool_in c.args.self.now.pool) (pool_in c.unwait.new.self) c.args.self.now.links.items (λ reached n. turned_was n _ _ _ _ _ reached c.unwait.ensures.turns tt)

pub returns-clause-awaits : goal.returns-clause-awaits
returns-clause-awaits c = tend_here (pool_in c.args.self.now.pool) (pool_in c.unwait.new.self) c.args.self.now.links.items (λ reached n. turned_was n _ _ _ _ _ reached c.unwait.ensures.turns tt)
