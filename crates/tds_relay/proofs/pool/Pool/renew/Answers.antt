use Rattle.std.proofs.Common.{is_some, ◌≡◌, ◌∷◌, ◌++◌, [], rules, ap, refl}
use Rattle.std.specs.Prelude.{Some}
use Rattle.tds_service.specs.Table.{service_in}
use Rattle.tds_relay.specs.Pool.{find_key, holding, ticket_in, without_lease}
use Rattle.tds_relay.specs.Ties.{pool_in}
use Rattle.tds_relay.proofs.steps.Made.{renewed}
use Rattle.tds_service.specs.Service as calls
use Rattle.tds_relay.proofs.bytes.Walking.{keeps_stand, same_stand}
use Rattle.tds_service.specs.Service.{Service}
use Rattle.tds_relay.proofs.seats.Pools.{both_keep}
use Rattle.tds_relay.proofs.seats.Rests.{call_keeps, same_keeps}
use Rattle.tds_relay.proofs.lending.Earlier.{relent_later}
use Rattle.tds_relay.proofs.spared.Aside.{renewed_others}
use Rattle.tds_relay.proofs.spared.Held.{action_others, action_refl}
use Rattle.std.proofs.lemmas.Bool.{eqb-true}
use Rattle.tds_relay.proofs.held.Lists.{found_key}
use Rattle.tds_relay.proofs.pool.Pool.renew.Goals as goal

pub returns-clause-turns : goal.returns-clause-turns
returns-clause-turns c =
    let d = pool_in c.args.self.now in
    let h = c.in-Some.hold in
    let found : find_key c.args.key d.holds ≡ Some h = search rules in
    let held : c.push.new.self.items ≡ without_lease h.lease d.holds ++ holding h.key c.in-Ok-resume.lent.lease c.in-Ok-resume.lent.number ∷ [] = search rules in
    renewed d c.args.key h (service_in c.keep.new.self) (service_in c.resume.new.self) c.in-Ok.ticket c.in-Ok-resume.lent.lease c.in-Ok-resume.lent.number _ _ c.in-Ok-resume.lent.had c.push.new.self.items found
    c.in-Ok.ensures.ok.1 c.in-Ok-resume.ensures.ok held

pub returns-clause-stand : goal.returns-clause-stand
returns-clause-stand c = λ n r h. keeps_stand c.keep.new.self c.resume.new.self (calls.Resume c.in-Ok.ticket) c.in-Ok-resume.ensures.ok.service_is (λ opens. opens) c.in-Ok-resume.ensures.makes c.in-Ok-resume.ensures.sizes c.in-Ok-resume.ensures.keeps n r (keeps_stand c.args.self.now.service c.keep.new.self (calls.Keep c.in-Some.hold.lease) c.in-Ok.ensures.ok.1.service_is (λ opens. opens) c.in-Ok.ensures.makes c.in-Ok.ensures.sizes c.in-Ok.ensures.keeps n r h)

pub returns-in-Err-clause-stand : goal.returns-in-Err-clause-stand
returns-in-Err-clause-stand c = same_stand c.args.self.now.service c.keep.new.self c.in-Err.ensures.err c.in-Err.ensures.makes c.in-Err.ensures.sizes c.in-Err.ensures.keeps

pub returns-in_default-clause-seats : goal.returns-in_default-clause-seats
returns-in_default-clause-seats c = λ reached n. refl

pub returns-in-Err-clause-seats : goal.returns-in-Err-clause-seats
returns-in-Err-clause-seats c = λ reached. same_keeps (service_in c.args.self.now.service) (service_in c.keep.new.self) c.in-Err.ensures.err

pub returns-clause-seats : goal.returns-clause-seats
returns-clause-seats c = λ reached.
    both_keep (service_in c.args.self.now.service) (service_in c.keep.new.self) (service_in c.resume.new.self)
    (call_keeps (service_in c.args.self.now.service) (service_in c.keep.new.self) (calls.Keep c.in-Some.hold.lease) tt c.in-Ok.ensures.ok.1.service_is)
    (call_keeps (service_in c.keep.new.self) (service_in c.resume.new.self) (calls.Resume c.in-Ok.ticket) tt c.in-Ok-resume.ensures.ok.service_is)

pub returns-in_default-clause-others : goal.returns-in_default-clause-others
returns-in_default-clause-others c = action_refl c.args.self.now c.args.key

pub returns-in-Err-clause-others : goal.returns-in-Err-clause-others
returns-in-Err-clause-others c = action_others c.args.self.now _ c.args.key c.in-Some.hold (search rules) refl c.in-Err.ensures.clients

pub returns-clause-others : goal.returns-clause-others
returns-clause-others c =
    renewed_others c.args.self.now _ c.args.key c.in-Some.hold (holding c.in-Some.hold.key c.in-Ok-resume.lent.lease c.in-Ok-resume.lent.number) c.keep.new.self (search rules) (search rules) c.in-Ok.ensures.ok.1.service_is c.in-Ok.ensures.clients c.in-Ok-resume.ensures.clients

pub returns-clause-is : goal.returns-clause-is
returns-clause-is c =
    let its : find_key c.args.key c.args.self.now.holds.items ≡ Some c.in-Some.hold = search rules in
    (c.in-Some.hold, its, eqb-true c.in-Some.hold.key c.args.key (found_key c.args.key c.in-Some.hold c.args.self.now.holds.items its), search rules)

pub returns-clause-keeps : goal.returns-clause-keeps
returns-clause-keeps c = (c.in-Some.hold, search rules, ap (λ (r : calls.Reply). is_some (ticket_in r)) c.in-Ok.ensures.ok.1.reply_is)

pub returns-clause-later : goal.returns-clause-later
returns-clause-later c = λ reached.
    relent_later (pool_in c.args.self.now) (service_in c.keep.new.self) c.in-Some.hold.lease c.in-Ok.ticket c.in-Ok-resume.lent.lease c.in-Ok-resume.lent.number _ reached c.in-Ok.ensures.ok.1.service_is c.in-Ok-resume.ensures.ok.reply_is
