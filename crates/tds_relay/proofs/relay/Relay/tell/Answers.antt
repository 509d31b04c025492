use Rattle.std.proofs.Common.{◌∙◌, ap, Some, Option, subst, sym, ℕ}
use Rattle.tds_relay.specs.Fronts.{ends_in}
use Rattle.tds_relay.specs.Reasons.{HasTakenBack}
use Rattle.tds_relay.specs.declared.pool.coming.What.TheVariants as whats
use Rattle.tds_relay.proofs.steps.Fronts.{told_as, told_nobody}
use Rattle.tds_relay.proofs.spared.Ordered.{ordered_closed}
use Rattle.tds_relay.proofs.spared.Waking.{not_silent}
use Rattle.tds_relay.specs.Closings.{Itself, register_in}
use Rattle.tds_relay.proofs.spared.Closings.{closes_more, closes_nobody, closes_refl}
use Rattle.tds_relay.specs.Coming.{asking_in}
use Rattle.tds_relay.proofs.steps.Answering.{tells_as, tells_closed, tells_goes, tells_nobody}
use Rattle.tds_relay.proofs.relay.Relay.tell.Goals as goal

pub returns-in_default-clause-ends : goal.returns-in_default-clause-ends
returns-in_default-clause-ends c = told_nobody c.args.heard.key c.args.heard.what _ c.in_default.is

pub returns-in-Goes-clause-ends : goal.returns-in-Goes-clause-ends
returns-in-Goes-clause-ends c = told_as c.args.heard.key c.in-Some.key c.args.heard.what whats.Goes _ _ c.in-Some.is c.in-Goes.is c.goes_on.ensures.ends

pub returns-in-Finished-clause-ends : goal.returns-in-Finished-clause-ends
returns-in-Finished-clause-ends c = told_as c.args.heard.key c.in-Some.key c.args.heard.what whats.Finished _ _ c.in-Some.is c.in-Finished.is c.answered.ensures.ends

pub returns-in-Acknowledged-clause-ends : goal.returns-in-Acknowledged-clause-ends
returns-in-Acknowledged-clause-ends c = told_as c.args.heard.key c.in-Some.key c.args.heard.what whats.Acknowledged _ _ c.in-Some.is c.in-Acknowledged.is c.acknowledged.ensures.ends

pub returns-in_ok-end-in-Closed-clause-ends : goal.returns-in_ok-end-in-Closed-clause-ends
returns-in_ok-end-in-Closed-clause-ends c = told_as c.args.heard.key c.in-Some.key c.args.heard.what whats.Closed _ _ c.in-Some.is c.in-Closed.is c.in_ok-end-in-Closed.ensures.ends

pub returns-in_ok-end-in-Closed-clause-ordered : goal.returns-in_ok-end-in-Closed-clause-ordered
returns-in_ok-end-in-Closed-clause-ordered c = ordered_closed _ _ _ c.in_ok-end-in-Closed.ensures.ordered

pub returns-in-Acknowledged-clause-silent : goal.returns-in-Acknowledged-clause-silent
returns-in-Acknowledged-clause-silent c = λ resumes key h. not_silent c.args.heard c.in-Some.key key _ c.in-Some.is c.in-Acknowledged.is (c.acknowledged.ensures.silent resumes) h

pub returns-in_default-clause-closes : goal.returns-in_default-clause-closes
returns-in_default-clause-closes c = closes_refl _ (register_in c.args.self.now)

pub returns-in-Goes-clause-closes : goal.returns-in-Goes-clause-closes
returns-in-Goes-clause-closes c = closes_nobody _ _ _ c.goes_on.ensures.closes

pub returns-in-Finished-clause-closes : goal.returns-in-Finished-clause-closes
returns-in-Finished-clause-closes c = closes_nobody _ _ _ c.answered.ensures.closes

pub returns-in-Acknowledged-clause-closes : goal.returns-in-Acknowledged-clause-closes
returns-in-Acknowledged-clause-closes c = closes_nobody _ _ _ c.acknowledged.ensures.closes

pub returns-in_ok-end-in-Closed-clause-closes : goal.returns-in_ok-end-in-Closed-clause-closes
returns-in_ok-end-in-Closed-clause-closes c = closes_more (Itself c.in-Some.key) _ _ _ (λ other same. (c.in-Some.is ∙ ap (λ (k : ℕ). Some k) (sym same), c.in-Closed.is)) c.in_ok-end-in-Closed.ensures.closes

pub returns-in-Acknowledged-clause-resumes : goal.returns-in-Acknowledged-clause-resumes
returns-in-Acknowledged-clause-resumes c = λ resumes. subst (λ (o : Option ℕ). HasTakenBack o (ends_in c.args.self.now.applications)) (sym c.in-Some.is) (c.acknowledged.ensures.resumes resumes)

pub returns-in_ok-end-in-Closed-clause-outbox : goal.returns-in_ok-end-in-Closed-clause-outbox
returns-in_ok-end-in-Closed-clause-outbox c = λ lasts. absurd (lasts c.in-Closed.is)

pub returns-in_default-clause-told : goal.returns-in_default-clause-told
returns-in_default-clause-told c = tells_nobody c.args.heard (ends_in c.args.self.now.applications) c.args.self.now.applications c.in_default.is

pub returns-in-Goes-clause-told : goal.returns-in-Goes-clause-told
returns-in-Goes-clause-told c = tells_goes c.args.heard (ends_in c.args.self.now.applications) c.args.self.now.applications c.goes_on.new.self.applications c.in-Goes.is c.goes_on.ensures.asks

pub returns-in-Finished-clause-told : goal.returns-in-Finished-clause-told
returns-in-Finished-clause-told c = tells_as c.args.heard c.in-Some.key whats.Finished (ends_in c.args.self.now.applications) (asking_in c.args.self.now.applications) (asking_in c.answered.new.self.applications) c.in-Some.is c.in-Finished.is c.answered.ensures.told

pub returns-in-Acknowledged-clause-told : goal.returns-in-Acknowledged-clause-told
returns-in-Acknowledged-clause-told c = tells_as c.args.heard c.in-Some.key whats.Acknowledged (ends_in c.args.self.now.applications) (asking_in c.args.self.now.applications) (asking_in c.acknowledged.new.self.applications) c.in-Some.is c.in-Acknowledged.is c.acknowledged.ensures.told

pub returns-in_ok-end-in-Closed-clause-told : goal.returns-in_ok-end-in-Closed-clause-told
returns-in_ok-end-in-Closed-clause-told c = tells_closed c.args.heard (ends_in c.args.self.now.applications) c.args.self.now.applications c.end.new.self.applications c.in-Closed.is c.in_ok-end-in-Closed.ensures.asks
