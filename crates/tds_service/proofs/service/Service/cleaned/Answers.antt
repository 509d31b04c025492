use Rattle.std.proofs.Common.{[], refl, sym, subst, arith, rules, suc}
use Rattle.std.specs.Prelude.{Option, vec_capacity}
use Rattle.tds_service.specs.declared.refusal.Refusal.{Refusal}
use Rattle.tds_service.specs.declared.refusal.Refusal.TheVariants as refusals
use Rattle.tds_service.specs.Service.{Seat, Place, Back, cleaned, rests_cleaned, find_by, has_lease}
use Rattle.tds_service.specs.Table.{StepsIn, RefusesIn, service_in, seat_in, seats_in, rest_of}
use Rattle.tds_service.proofs.Tables.{with_seats, meets_here}
use Rattle.tds_service.proofs.Reached.{reached_at, found_there, closed_there, rests_there, reads_there, clients_resting_there, sizes_resting_there}
use Rattle.tds_service.proofs.Indexing.{lease_id}
use Rattle.tds_service.proofs.Reindexing.{rested_index}
use Rattle.tds_service.proofs.service.Service.cleaned.Goals as goal

pub returns-in-Ok-clause-ok : goal.returns-in-Ok-clause-ok
returns-in-Ok-clause-ok c =
    let old = service_in c.args.self.now in
    let at = reached_at (has_lease c.args.lease) c.args.self.now c.cleaned_at.new.seats refl c.deref_mut.ensures.value c.in-Some.ensures.first (first_of (omega arith, search rules)) in
    let test = has_lease c.args.lease in
    let k = c.in-Ok.ensures.ok at.here.seat at.here.at_lent in
    let rest = c.in-Ok.rest in
    let did = rests_there at k.0 rest c.close.new.seats.items [] (Back (rest_of rest)) k.1 (closed_there at c.in-Ok.rest c.close.new.seats.items c.close.ensures.items) k.2 k.4 k.6 in
    let new = with_seats old (seats_in c.close.new.seats.items) in
    subst (λ (x : Option Seat). StepsIn (cleaned old test x) new (Back (rest_of rest)) c.in-Ok.number [] [])
    (sym (found_there at))
    (subst (λ (p : Option (Option Place)). StepsIn (rests_cleaned old test (seat_in at.here.seat) p) new (Back (rest_of rest)) c.in-Ok.number [] []) k.5
    (record { service_is = did; reply_is = refl; number_is = sym k.3; bytes = ([], refl, refl) }))

pub returns-in-Err-clause-refused : goal.returns-in-Err-clause-refused
returns-in-Err-clause-refused c =
    let old = service_in c.args.self.now in
    let test = has_lease c.args.lease in
    let at = reached_at (has_lease c.args.lease) c.args.self.now c.cleaned_at.new.seats refl c.deref_mut.ensures.value c.in-Some.ensures.first (first_of (omega arith, search rules)) in
    subst (λ (r : Refusal). RefusesIn old (cleaned old test (find_by test old.seats)) r) (sym c.in-Err.ensures.refused.0)
    (subst (λ (x : Option Seat). RefusesIn old (cleaned old test x) refusals.NotNow) (sym (found_there at))
    (subst (λ (p : Option (Option Place)). RefusesIn old (rests_cleaned old test (seat_in at.here.seat) p) refusals.NotNow) (sym (c.in-Err.ensures.refused.1 at.here.seat at.here.at_lent)) refl))

pub returns-in-Ok-clause-keeps : goal.returns-in-Ok-clause-keeps
returns-in-Ok-clause-keeps c =
    let at = reached_at (has_lease c.args.lease) c.args.self.now c.cleaned_at.new.seats refl c.deref_mut.ensures.value c.in-Some.ensures.first (first_of (omega arith, search rules)) in
    let k = c.in-Ok.ensures.ok at.here.seat at.here.at_lent in
    reads_there at k.0 c.in-Ok.rest c.in-Ok.number _ k.1 (closed_there at c.in-Ok.rest c.close.new.seats.items c.close.ensures.items) k.3 c.cleaned_at.ensures.keeps

pub returns-in-Ok-clause-clients : goal.returns-in-Ok-clause-clients
returns-in-Ok-clause-clients c =
    let at = reached_at (has_lease c.args.lease) c.args.self.now c.cleaned_at.new.seats refl c.deref_mut.ensures.value c.in-Some.ensures.first (first_of (omega arith, search rules)) in
    let k = c.in-Ok.ensures.ok at.here.seat at.here.at_lent in
    clients_resting_there c.args.lease at k.0 c.in-Ok.rest c.close.new.seats.items k.1 (closed_there at c.in-Ok.rest c.close.new.seats.items c.close.ensures.items) k.6

pub returns-in-Ok-clause-sizes : goal.returns-in-Ok-clause-sizes
returns-in-Ok-clause-sizes c =
    let at = reached_at (has_lease c.args.lease) c.args.self.now c.cleaned_at.new.seats refl c.deref_mut.ensures.value c.in-Some.ensures.first (first_of (omega arith, search rules)) in
    sizes_resting_there at c.in-Ok.rest _ (closed_there at c.in-Ok.rest c.close.new.seats.items c.close.ensures.items) c.cleaned_at.ensures.sizes refl

pub forget-requires : goal.forget-requires
forget-requires c = record { rising = (suc c.args.self.now.given, c.args.self.now.indexed.0) }

pub invariant_of-self-clause-indexed : goal.invariant_of-self-clause-indexed
invariant_of-self-clause-indexed c =
    let at = reached_at (has_lease c.args.lease) c.args.self.now c.cleaned_at.new.seats refl c.deref_mut.ensures.value c.in-Some.ensures.first (first_of (omega arith, search rules)) in
    let k = c.in-Ok.ensures.ok at.here.seat at.here.at_lent in
    rested_index at k.0 c.in-Ok.rest c.close.new.seats.items c.args.lease (vec_capacity c.forget.new.index) c.forget.new.index.items k.1 c.close.ensures.items k.2
    (lease_id c.args.lease at.here.seat.place (meets_here (has_lease c.args.lease) c.args.self.now.seats.items c.deref_mut.result.now c.in-Some.index at.here))
    k.6 c.forget.ensures.forgets c.forget.ensures.capacity
