use Rattle.std.proofs.Common.{true, false, ap, is_some, sym, ◌∙◌}
use Rattle.tds_service.specs.Table.{service_in, rest_of}
use Rattle.tds_relay.proofs.steps.Made.{released_free}
use Rattle.tds_relay.proofs.bytes.Leaving.{given_back_stand}
use Rattle.tds_relay.proofs.bytes.Walking.{led_on}
use Rattle.tds_service.specs.Service as calls
use Rattle.tds_relay.proofs.spared.Aside.{called_for, refl_for}
use Rattle.tds_relay.proofs.spared.Cleaned.{cancelled, cancelled_cleaned}
use Rattle.tds_service.specs.declared.place.Rest.{Rest}
use Rattle.tds_service.specs.Service.{Service}
use Rattle.tds_relay.proofs.seats.Rests.{back_stays, free_stays}
use Rattle.tds_relay.proofs.lending.Tending.{cleaned_put, given_was}
use Rattle.tds_service.specs.Ties.{cancel_out}
use Rattle.tds_relay.proofs.spared.Marking.{drains_once, free_once, shut_once}
use Rattle.tds_relay.proofs.pool.leaving.release.Goals as goal

pub returns-in_ok-clean-in-Ok-default-Free-clause-makes : goal.returns-in_ok-clean-in-Ok-default-Free-clause-makes
returns-in_ok-clean-in-Ok-default-Free-clause-makes c =
    let back = rw c.in-Ok-default-Free.field-0-1-is at c.in-Ok-default-Free.ensures.ok in
    let h = c.in_ok-clean-in-Ok-default-Free.ensures.makes in (
      true,
      h.0,
      released_free (service_in c.args.service.now) (service_in c.give_back.new.self) (service_in c.clean.new.service) c.args.hold.lease c.args.hold.number _ h.0 c.args.out.now.items c.give_back.new.out.items
          c.clean.new.out.items back h.2,
    )

pub returns-in_ok-clean-in-Ok-default-Free-clause-stand : goal.returns-in_ok-clean-in-Ok-default-Free-clause-stand
returns-in_ok-clean-in-Ok-default-Free-clause-stand c = λ n r h. c.in_ok-clean-in-Ok-default-Free.ensures.stand n r (given_back_stand c.args.service.now c.give_back.new.self c.args.hold.lease c.in-Ok-default-Free.field-0-0 c.in-Ok-default-Free.field-0-1 _ _ c.in-Ok-default-Free.ensures.ok c.in-Ok-default-Free.ensures.makes c.in-Ok-default-Free.ensures.sizes c.in-Ok-default-Free.ensures.keeps n r h)

pub returns-in-Ok-default-Draining-clause-stand : goal.returns-in-Ok-default-Draining-clause-stand
returns-in-Ok-default-Draining-clause-stand c = given_back_stand c.args.service.now c.give_back.new.self c.args.hold.lease c.in-Ok-default-Draining.field-0-0 c.in-Ok-default-Draining.field-0-1 _ _ c.in-Ok-default-Draining.ensures.ok c.in-Ok-default-Draining.ensures.makes c.in-Ok-default-Draining.ensures.sizes c.in-Ok-default-Draining.ensures.keeps

pub returns-in-Ok-default-Closed-clause-stand : goal.returns-in-Ok-default-Closed-clause-stand
returns-in-Ok-default-Closed-clause-stand c = given_back_stand c.args.service.now c.give_back.new.self c.args.hold.lease c.in-Ok-default-Closed.field-0-0 c.in-Ok-default-Closed.field-0-1 _ _ c.in-Ok-default-Closed.ensures.ok c.in-Ok-default-Closed.ensures.makes c.in-Ok-default-Closed.ensures.sizes c.in-Ok-default-Closed.ensures.keeps

pub returns-in_ok-clean-in-Ok-default-Free-clause-aside : goal.returns-in_ok-clean-in-Ok-default-Free-clause-aside
returns-in_ok-clean-in-Ok-default-Free-clause-aside c = λ lease client differs aside there.
    (called_for lease c.args.hold.lease c.args.hold.number c.args.service.now c.give_back.new.self c.clean.new.service (calls.GiveBack c.args.hold.lease) tt c.in-Ok-default-Free.ensures.ok.service_is c.give_back.ensures.clients differs
    (λ x a t. c.in_ok-clean-in-Ok-default-Free.ensures.aside c.args.hold.lease lease x differs a t)) client aside there

pub returns-in-Ok-default-Draining-clause-aside : goal.returns-in-Ok-default-Draining-clause-aside
returns-in-Ok-default-Draining-clause-aside c = λ lease client differs aside there.
    (called_for lease c.args.hold.lease c.args.hold.number c.args.service.now c.give_back.new.self c.give_back.new.self (calls.GiveBack c.args.hold.lease) tt c.in-Ok-default-Draining.ensures.ok.service_is c.give_back.ensures.clients differs
    (refl_for lease c.args.hold.number c.give_back.new.self)) client aside there

pub returns-in-Ok-default-Closed-clause-aside : goal.returns-in-Ok-default-Closed-clause-aside
returns-in-Ok-default-Closed-clause-aside c = λ lease client differs aside there.
    (called_for lease c.args.hold.lease c.args.hold.number c.args.service.now c.give_back.new.self c.give_back.new.self (calls.GiveBack c.args.hold.lease) tt c.in-Ok-default-Closed.ensures.ok.service_is c.give_back.ensures.clients differs
    (refl_for lease c.args.hold.number c.give_back.new.self)) client aside there

pub returns-in_ok-clean-in-Ok-default-Free-clause-ends : goal.returns-in_ok-clean-in-Ok-default-Free-clause-ends
returns-in_ok-clean-in-Ok-default-Free-clause-ends c = λ led there.
    let stops = c.in-Ok-default-Free.ensures.stops in
    let free = free_once c.args.hold.lease c.args.service.now stops.0 stops.1 (c.in-Ok-default-Free.ensures.ok.reply_is ∙ ap (λ (r : Rest). calls.Back (rest_of r)) c.in-Ok-default-Free.field-0-1-is) in
    cancelled_cleaned c.args.text.now c.args.hold.lease c.args.service.now c.args.out.now.items c.give_back.new.out.items c.clean.new.out.items stops free
    (c.in_ok-clean-in-Ok-default-Free.ensures.cleans (led_on (service_in c.args.service.now) (service_in c.give_back.new.self) (calls.GiveBack c.args.hold.lease) c.in-Ok-default-Free.ensures.ok.service_is led))

pub returns-in-Ok-default-Draining-clause-ends : goal.returns-in-Ok-default-Draining-clause-ends
returns-in-Ok-default-Draining-clause-ends c = λ led there.
    let stops = c.in-Ok-default-Draining.ensures.stops in
    cancelled c.args.text.now c.args.hold.lease c.args.service.now c.args.out.now.items c.give_back.new.out.items stops
    (drains_once c.args.hold.lease c.args.service.now stops.0 stops.1 (c.in-Ok-default-Draining.ensures.ok.reply_is ∙ ap (λ (r : Rest). calls.Back (rest_of r)) c.in-Ok-default-Draining.field-0-1-is))

pub returns-in_ok-clean-in-Ok-default-Free-clause-seats : goal.returns-in_ok-clean-in-Ok-default-Free-clause-seats
returns-in_ok-clean-in-Ok-default-Free-clause-seats c = λ led on.
    let h = c.in_ok-clean-in-Ok-default-Free.ensures.makes in
    free_stays (service_in c.args.service.now) (service_in c.give_back.new.self) (service_in c.clean.new.service) c.args.hold.lease c.args.hold.number c.in-Ok-default-Free.field-0-1 c.in-Ok-default-Free.field-0-0 _ _ _ _ true led on c.in-Ok-default-Free.ensures.ok
    (ap (λ (r : Rest). is_some (rest_of r)) c.in-Ok-default-Free.field-0-1-is) (h.0, sym h.1, h.2)

pub returns-in-Ok-default-Draining-clause-seats : goal.returns-in-Ok-default-Draining-clause-seats
returns-in-Ok-default-Draining-clause-seats c = λ led on. back_stays true (service_in c.args.service.now) (service_in c.give_back.new.self) c.args.hold.lease c.args.hold.number c.in-Ok-default-Draining.field-0-1 c.in-Ok-default-Draining.field-0-0 _ _ led on c.in-Ok-default-Draining.ensures.ok
    (ap (λ (r : Rest). is_some (rest_of r)) c.in-Ok-default-Draining.field-0-1-is)

pub returns-in-Ok-default-Closed-clause-seats : goal.returns-in-Ok-default-Closed-clause-seats
returns-in-Ok-default-Closed-clause-seats c = λ led on. back_stays false (service_in c.args.service.now) (service_in c.give_back.new.self) c.args.hold.lease c.args.hold.number c.in-Ok-default-Closed.field-0-1 c.in-Ok-default-Closed.field-0-0 _ _ led on c.in-Ok-default-Closed.ensures.ok
    (ap (λ (r : Rest). is_some (rest_of r)) c.in-Ok-default-Closed.field-0-1-is)

pub returns-in_ok-clean-in-Ok-default-Free-clause-newly : goal.returns-in_ok-clean-in-Ok-default-Free-clause-newly
returns-in_ok-clean-in-Ok-default-Free-clause-newly c = λ led there.
    let stops = c.in-Ok-default-Free.ensures.stops in
    cleaned_put c.args.text.now c.args.out.now.items c.give_back.new.out.items c.clean.new.out.items (service_in c.args.service.now) (service_in c.clean.new.service) (cancel_out stops.0.stage) stops.2
    (c.in_ok-clean-in-Ok-default-Free.ensures.cleans (led_on (service_in c.args.service.now) (service_in c.give_back.new.self) (calls.GiveBack c.args.hold.lease) c.in-Ok-default-Free.ensures.ok.service_is led))

pub returns-in-Ok-default-Draining-clause-newly : goal.returns-in-Ok-default-Draining-clause-newly
returns-in-Ok-default-Draining-clause-newly c = λ led there.
    given_was c.args.text.now _ _ (service_in c.args.service.now) (service_in c.give_back.new.self) c.args.hold.lease led c.in-Ok-default-Draining.ensures.ok.service_is

pub returns-in-Ok-default-Closed-clause-shut : goal.returns-in-Ok-default-Closed-clause-shut
returns-in-Ok-default-Closed-clause-shut c = λ gone.
    let stops = c.in-Ok-default-Closed.ensures.stops in (
      stops.0,
      stops.1,
      shut_once c.args.hold.lease c.args.service.now stops.0 stops.1 (c.in-Ok-default-Closed.ensures.ok.reply_is ∙ ap (λ (r : Rest). calls.Back (rest_of r)) c.in-Ok-default-Closed.field-0-1-is),
    )
