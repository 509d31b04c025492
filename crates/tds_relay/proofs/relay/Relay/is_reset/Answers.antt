use Rattle.std.proofs.Common.{◌≡◌, ◌∙◌, None, Option, Some, ap, option_map, refl, rules, subst, sym}
use Rattle.slab.specs.Slab.{get}
use Rattle.tds_packet.specs.declared.status.Reset.{Reset}
use Rattle.tds_service.specs.Service.{seat_numbered}
use Rattle.tds_relay.specs.Anew.{ResetsNext, ResetsFor}
use Rattle.tds_relay.specs.Fronts.{own_end, ends_in}
use Rattle.tds_relay.specs.Core.{IfAsked, IsReset, end_at}
use Rattle.tds_relay.specs.Ties.{pool_in}
use Rattle.tds_relay.proofs.steps.Fronts.{asked_there, end_is, none_reset, reset_there}
use Rattle.tds_relay.proofs.spared.Undone.{asks_map}
use Rattle.tds_relay.proofs.relay.Relay.is_reset.Goals as goal
use Rattle.tds_relay.specs.Places.{own_reset}

pub returns-in_default-clause-reset : goal.returns-in_default-clause-reset
returns-in_default-clause-reset c = λ its e.
    let none : get c.args.self.now.applications c.args.key ≡ None = search rules in
    subst (IsReset (pool_in c.args.self.now.pool) c.args.key) (sym (end_is c.args.self.now.applications c.args.key ∙ ap (option_map own_end) none)) tt

pub returns-in-Some-reset-clause-reset : goal.returns-in-Some-reset-clause-reset
returns-in-Some-reset-clause-reset c = λ its e.
    let d = pool_in c.args.self.now.pool in
    let is : own_reset c.in-Some.application.now ≡ Some c.in-Some-reset.reset = search rules in
    reset_there d c.args.key c.args.hold.number (Some c.in-Some-reset.reset) c.args.hold _ its refl
    (subst (λ (r : Option Reset). IfAsked r (end_at (ends_in c.args.self.now.applications) c.args.key)) is (asked_there c.args.self.now.applications c.args.key c.in-Some.application.now c.in-Some.ensures))
    (λ r same. let one : c.in-Some-reset.reset ≡ r = cc in subst (λ (x : Reset). ResetsNext x (seat_numbered c.args.hold.number d.service.seats)) one (c.resets_on.ensures.resets e))

pub returns-in-None-clause-reset : goal.returns-in-None-clause-reset
returns-in-None-clause-reset c = λ its e.
    let is : own_reset c.in-Some.application.now ≡ None = search rules in
    none_reset (pool_in c.args.self.now.pool) c.args.key _
    (subst (λ (r : Option Reset). IfAsked r (end_at (ends_in c.args.self.now.applications) c.args.key)) is (asked_there c.args.self.now.applications c.args.key c.in-Some.application.now c.in-Some.ensures))

pub returns-in-Some-reset-clause-not_reset : goal.returns-in-Some-reset-clause-not_reset
returns-in-Some-reset-clause-not_reset c = λ e.
    let d = pool_in c.args.self.now.pool in
    let is : own_reset c.in-Some.application.now ≡ Some c.in-Some-reset.reset = search rules in
    asks_map (λ (asks : Option Reset). asks ≡ own_reset c.in-Some.application.now) (λ (asks : Option Reset). ¬ ResetsFor asks (Some c.args.hold) d) (end_at (ends_in c.args.self.now.applications) c.args.key)
    (λ asks same. subst (λ (r : Option Reset). ¬ ResetsFor r (Some c.args.hold) d) (sym (same ∙ is)) (c.resets_on.ensures.resets_not e))
    (asked_there c.args.self.now.applications c.args.key c.in-Some.application.now c.in-Some.ensures)
