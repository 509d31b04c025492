use Rattle.std.proofs.Common.{[], true, refl, ap, is_some, ◌∙◌}
use Rattle.tds_relay.proofs.bytes.Leaving.{cleaned_stand}
use Rattle.tds_relay.proofs.bytes.Walking.{same_stand, led_on}
use Rattle.tds_service.specs.declared.place.Rest.{Rest}
use Rattle.tds_service.specs.Service as calls
use Rattle.tds_service.specs.Service.{Service}
use Rattle.tds_service.specs.Table.{rest_of, service_in}
use Rattle.tds_relay.specs.Ties.{lost_by}
use Rattle.tds_relay.proofs.seats.Rests.{forgot_stays, rest_stays, then_forgot}
use Rattle.tds_relay.proofs.spared.Aside.{called_for, forgot_for, refused_for}
use Rattle.tds_relay.proofs.pool.coming.cleaned.Goals as goal

pub returns-in-Ok-default-Free-clause-stand : goal.returns-in-Ok-default-Free-clause-stand
returns-in-Ok-default-Free-clause-stand c = cleaned_stand c.args.service.now c.cleaned.new.self c.args.lease c.in-Ok-default-Free.field-0-0 c.in-Ok-default-Free.field-0-1 [] [] c.in-Ok-default-Free.ensures.ok c.in-Ok-default-Free.ensures.makes c.in-Ok-default-Free.ensures.sizes c.in-Ok-default-Free.ensures.keeps

pub returns-in_ok-forget-in-Ok-default-Closed-clause-stand : goal.returns-in_ok-forget-in-Ok-default-Closed-clause-stand
returns-in_ok-forget-in-Ok-default-Closed-clause-stand c = λ n r h. c.in_ok-forget-in-Ok-default-Closed.ensures.stand n r (cleaned_stand c.args.service.now c.cleaned.new.self c.args.lease c.in-Ok-default-Closed.field-0-0 c.in-Ok-default-Closed.field-0-1 [] [] c.in-Ok-default-Closed.ensures.ok c.in-Ok-default-Closed.ensures.makes c.in-Ok-default-Closed.ensures.sizes c.in-Ok-default-Closed.ensures.keeps n r h)

pub returns-in_ok-forget-in-Err-clause-stand : goal.returns-in_ok-forget-in-Err-clause-stand
returns-in_ok-forget-in-Err-clause-stand c = λ n r h. c.in_ok-forget-in-Err.ensures.stand n r (same_stand c.args.service.now c.cleaned.new.self c.in-Err.ensures.err c.in-Err.ensures.makes c.in-Err.ensures.sizes c.in-Err.ensures.keeps_all n r h)

pub returns-in-Ok-default-Free-clause-seats : goal.returns-in-Ok-default-Free-clause-seats
returns-in-Ok-default-Free-clause-seats c = λ led on. rest_stays true (service_in c.args.service.now) (service_in c.cleaned.new.self) c.args.lease c.args.number c.in-Ok-default-Free.field-0-1 c.in-Ok-default-Free.field-0-0 _ _ led on c.in-Ok-default-Free.ensures.ok
    (ap (λ (r : Rest). is_some (rest_of r)) c.in-Ok-default-Free.field-0-1-is)

pub returns-in_ok-forget-in-Ok-default-Closed-clause-seats : goal.returns-in_ok-forget-in-Ok-default-Closed-clause-seats
returns-in_ok-forget-in-Ok-default-Closed-clause-seats c = λ led on.
    then_forgot _ c.args.number (service_in c.args.service.now) (service_in c.cleaned.new.self) (service_in c.forget-in-Ok-default-Closed.new.service)
    (rest_stays _ (service_in c.args.service.now) (service_in c.cleaned.new.self) c.args.lease c.args.number c.in-Ok-default-Closed.field-0-1 c.in-Ok-default-Closed.field-0-0 _ _ led on c.in-Ok-default-Closed.ensures.ok refl)
    (led_on (service_in c.args.service.now) (service_in c.cleaned.new.self) (calls.Cleaned c.args.lease) c.in-Ok-default-Closed.ensures.ok.service_is led) c.in_ok-forget-in-Ok-default-Closed.ensures.lost

pub returns-in_ok-forget-in-Err-clause-seats : goal.returns-in_ok-forget-in-Err-clause-seats
returns-in_ok-forget-in-Err-clause-seats c = λ led on. forgot_stays c.args.number (service_in c.args.service.now) (service_in c.forget-in-Err.new.service) led
    (c.in_ok-forget-in-Err.ensures.lost ∙ ap (λ (s : Service). lost_by s c.args.number) c.in-Err.ensures.err)

pub returns-in_ok-forget-in-Ok-default-Closed-clause-aside : goal.returns-in_ok-forget-in-Ok-default-Closed-clause-aside
returns-in_ok-forget-in-Ok-default-Closed-clause-aside c = λ lease client differs aside there.
    (called_for lease c.args.lease c.args.number c.args.service.now c.cleaned.new.self c.forget-in-Ok-default-Closed.new.service (calls.Cleaned c.args.lease) tt c.in-Ok-default-Closed.ensures.ok.service_is c.cleaned.ensures.clients differs
    (forgot_for lease c.args.number c.cleaned.new.self c.forget-in-Ok-default-Closed.new.service c.in_ok-forget-in-Ok-default-Closed.ensures.clients)) client aside there

pub returns-in_ok-forget-in-Err-clause-aside : goal.returns-in_ok-forget-in-Err-clause-aside
returns-in_ok-forget-in-Err-clause-aside c = λ lease client differs aside there.
    (refused_for lease c.args.lease c.args.number c.args.service.now c.cleaned.new.self c.forget-in-Err.new.service c.in-Err.ensures.err c.cleaned.ensures.clients differs
    (forgot_for lease c.args.number c.cleaned.new.self c.forget-in-Err.new.service c.in_ok-forget-in-Err.ensures.clients)) client aside there
