use Rattle.tds_relay.specs.Core.{lets_go}
use Rattle.tds_relay.proofs.steps.Fronts.{ends_moved}
use Rattle.tds_relay.proofs.steps.Queueing.{queues_kept}
use Rattle.std.proofs.Common.{refl}
use Rattle.tds_relay.specs.Closings.{NoKey}
use Rattle.tds_relay.proofs.spared.Sending.{kept_refl}
use Rattle.tds_relay.proofs.spared.Shutting.{closes_moved, keeps_lets_go, unclosed}
use Rattle.tds_relay.proofs.steps.Bodied.{asks_kept}
use Rattle.tds_relay.proofs.relay.Relay.let_go.Goals as goal

pub returns-in-Some-clause-kept : goal.returns-in-Some-clause-kept
returns-in-Some-clause-kept c = queues_kept c.args.self.now.applications c.args.key c.in-Some.application.now c.let_go.new.self c.in-Some.ensures.value c.let_go.ensures.queue

pub returns-in-Some-clause-ends : goal.returns-in-Some-clause-ends
returns-in-Some-clause-ends c = ends_moved c.args.self.now.applications c.args.key c.in-Some.application.now c.let_go.new.self lets_go c.in-Some.ensures.value c.let_go.ensures.end

pub returns-in-Some-clause-closes : goal.returns-in-Some-clause-closes
returns-in-Some-clause-closes c = closes_moved NoKey c.args.key lets_go _ _ keeps_lets_go (ends_moved c.args.self.now.applications c.args.key c.in-Some.application.now c.let_go.new.self lets_go c.in-Some.ensures.value c.let_go.ensures.end) (queues_kept c.args.self.now.applications c.args.key c.in-Some.application.now c.let_go.new.self c.in-Some.ensures.value c.let_go.ensures.queue) refl (kept_refl c.args.self.now.links.items) (unclosed _ _ refl)

pub returns-in-Some-clause-asks : goal.returns-in-Some-clause-asks
returns-in-Some-clause-asks c = asks_kept c.args.self.now.applications c.args.key c.in-Some.application.now c.let_go.new.self c.in-Some.ensures.value c.let_go.ensures.body
