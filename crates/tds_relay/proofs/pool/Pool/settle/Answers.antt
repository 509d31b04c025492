use Rattle.std.proofs.Common.{◌≡◌, ◌∙◌, ap, rules, true, ℕ, subst, sym, Bool, inl, inr, refl, List}
use Rattle.std.specs.Prelude.{Option, None}
use Rattle.tds_service.specs.Table.{service_in}
use Rattle.tds_relay.specs.declared.pool.Hold.{Hold}
use Rattle.tds_relay.specs.Pool.{NotLent, cleaned_by, find_lease, settles, settles_of}
use Rattle.tds_relay.specs.Ties.{pool_in}
use Rattle.tds_relay.proofs.steps.Made.{settles_by}
use Rattle.tds_relay.specs.Few.{SeatStays}
use Rattle.tds_relay.proofs.seats.Counting.{stays_refl}
use Rattle.tds_relay.proofs.seats.Rests.{if_left, made_stays}
use Rattle.tds_relay.proofs.spared.Aside.{drained_held}
use Rattle.tds_relay.proofs.lending.Awaiting.{settled_was}
use Rattle.tds_relay.specs.Cleaning.{IsCleaning, IsPutBehind}
use Rattle.tds_relay.proofs.pool.Pool.settle.Goals as goal

pub returns-in_ok-is_there-in-None-find_lease-clause-settles : goal.returns-in_ok-is_there-in-None-find_lease-clause-settles
returns-in_ok-is_there-in-None-find_lease-clause-settles c =
    let d = pool_in c.args.self.now in
    let lease = c.in-Some.lease in
    let found : find_lease lease d.holds ≡ None = search rules in
    let is : settles d.holds d.service c.args.number NotLent c.args.lease ≡ cleaned_by d.service c.args.number lease =
    ap (λ (o : Option ℕ). settles d.holds d.service c.args.number NotLent o) c.in-Some.is ∙ ap (λ (o : Option Hold). settles_of d.service c.args.number lease NotLent o) found in (
      NotLent,
      settles_by d (service_in c.cleaned.new.service) (cleaned_by d.service c.args.number lease) (settles d.holds d.service c.args.number NotLent c.args.lease) c.args.out.now.items c.args.out.now.items is
          (c.in_ok-is_there-in-None-find_lease.ensures.makes c.args.out.now.items),
    )

pub returns-in-Some-find_lease-clause-seats : goal.returns-in-Some-find_lease-clause-seats
returns-in-Some-find_lease-clause-seats c = λ led on left. subst (λ (b : Bool). SeatStays b c.args.number (pool_in c.args.self.now).service (pool_in c.args.self.now).service) (sym left) (stays_refl c.args.number (pool_in c.args.self.now).service)

pub returns-in_ok-is_there-in-None-find_lease-clause-seats : goal.returns-in_ok-is_there-in-None-find_lease-clause-seats
returns-in_ok-is_there-in-None-find_lease-clause-seats c = λ led on left.
    if_left c.in_ok-is_there-in-None-find_lease.is_there c.what_of.result c.args.number (service_in c.args.self.now.service) (service_in c.cleaned.new.service) c.what_of.ensures
    (c.in_ok-is_there-in-None-find_lease.ensures.seats led (on c.in-Some.lease c.in-Some.is))

pub returns-in_ok-clean-in-None-clause-seats : goal.returns-in_ok-clean-in-None-clause-seats
returns-in_ok-clean-in-None-clause-seats c = λ led on left.
    let made = c.in_ok-clean-in-None.ensures.makes in
    made_stays (service_in c.args.self.now.service) (service_in c.clean.new.service) c.args.number true made.0 _ _ led (sym made.1) made.2

pub returns-in_ok-clean-in-None-clause-aside : goal.returns-in_ok-clean-in-None-clause-aside
returns-in_ok-clean-in-None-clause-aside c = drained_held c.args.number c.args.self.now.holds.items c.args.self.now.service c.clean.new.service c.in_ok-clean-in-None.ensures.aside

pub returns-in-Some-find_lease-clause-leases : goal.returns-in-Some-find_lease-clause-leases
returns-in-Some-find_lease-clause-leases c = λ left. inl refl

pub returns-in_ok-is_there-in-None-find_lease-clause-leases : goal.returns-in_ok-is_there-in-None-find_lease-clause-leases
returns-in_ok-is_there-in-None-find_lease-clause-leases c = λ left. inl refl

pub returns-in-Some-find_lease-clause-newly : goal.returns-in-Some-find_lease-clause-newly
returns-in-Some-find_lease-clause-newly c = λ led left. record { here = λ l at. inl (at, refl) }

pub returns-in_ok-is_there-in-None-find_lease-clause-newly : goal.returns-in_ok-is_there-in-None-find_lease-clause-newly
returns-in_ok-is_there-in-None-find_lease-clause-newly c = λ led left. record {
  here = λ l at. inl (
    settled_was c.args.number l (service_in c.args.self.now.service) (service_in c.cleaned.new.service) c.args.number c.in-Some.lease led (c.in_ok-is_there-in-None-find_lease.ensures.makes c.args.out.now.items).service_is at,
    refl,
  );
}

pub returns-in_ok-clean-in-None-clause-newly : goal.returns-in_ok-clean-in-None-clause-newly
returns-in_ok-clean-in-None-clause-newly c = λ led left. record {
  here = λ l at. inr (c.in-None.is, subst (λ (text : List ℕ). IsPutBehind (IsCleaning text) c.args.out.now.items c.clean.new.out.items) c.cleaning_text.ensures (c.in_ok-clean-in-None.ensures.cleans led));
}
