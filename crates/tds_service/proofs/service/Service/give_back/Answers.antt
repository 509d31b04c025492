use Rattle.std.proofs.Common.{◌∙◌, [], ◌∷◌, refl, sym, ap, subst, arith, rules, suc}
use Rattle.std.specs.Prelude.{Option, vec_capacity}
use Rattle.tds_service.specs.declared.refusal.Refusal.{Refusal}
use Rattle.tds_service.specs.declared.refusal.Refusal.TheVariants as refusals
use Rattle.tds_service.specs.Line as line
use Rattle.tds_service.specs.Line.{Line}
use Rattle.tds_service.specs.Service.{Seat, Place, Back, gives_back, does, rests, find_by, has_lease}
use Rattle.tds_service.specs.Table.{StepsIn, RefusesIn, service_in, seat_in, seats_in, rest_of}
use Rattle.tds_service.proofs.Holding.{held_here}
use Rattle.tds_service.proofs.Tables.{with_seats, meets_here}
use Rattle.tds_service.proofs.Reached.{reached_at, found_there, closed_there, rests_there, reads_there, clients_resting_there, sizes_resting_there}
use Rattle.tds_service.proofs.Indexing.{lease_id}
use Rattle.tds_service.proofs.Reindexing.{rested_index}
use Rattle.tds_service.proofs.service.Service.give_back.Goals as goal

pub returns-in-Ok-clause-ok : goal.returns-in-Ok-clause-ok
returns-in-Ok-clause-ok c =
    let old = service_in c.args.self.now in
    let at = reached_at (has_lease c.args.lease) c.args.self.now c.give_back_at.new.seats refl c.deref_mut.ensures.value c.in-Some.ensures.first (first_of (omega arith, search rules)) in
    let test = has_lease c.args.lease in
    let k = c.in-Ok.ensures.ok at.here.seat at.here.at_lent in
    let rest = c.in-Ok.rest in
    let before = c.args.out.now.items in
    let after = c.give_back_at.new.out.items in
    let did = rests_there at k.0 rest c.close.new.seats.items (line.Cancel ∷ []) (Back (rest_of rest)) k.1 (closed_there at c.in-Ok.rest c.close.new.seats.items c.close.ensures.items) k.2 k.4.line_is k.6 in
    let new = with_seats old (seats_in c.close.new.seats.items) in
    subst (λ (x : Option Seat). StepsIn (gives_back old test x) new (Back (rest_of rest)) c.in-Ok.number before after)
    (sym (found_there at))
    (subst (λ (p : Option Place). StepsIn (does old old.given test (seat_in at.here.seat) p (line.Cancel ∷ []) (Back p)) new (Back (rest_of rest)) c.in-Ok.number before after)
    (k.5 ∙ ap (λ (l : Line). rests l.stage) k.4.line_is)
    (record { service_is = did; reply_is = refl; number_is = sym k.3; bytes = k.4.bytes }))

pub returns-in-Ok-clause-stops : goal.returns-in-Ok-clause-stops
returns-in-Ok-clause-stops c =
    let at = reached_at (has_lease c.args.lease) c.args.self.now c.give_back_at.new.seats refl c.deref_mut.ensures.value c.in-Some.ensures.first (first_of (omega arith, search rules)) in (
      at.here.seat.connection.client,
      held_here c.args.lease c.args.self.now c.deref_mut.result.now c.in-Some.index at.here,
      c.in-Ok.ensures.stops at.here.seat at.here.at_lent,
    )

pub returns-in-Err-clause-refused : goal.returns-in-Err-clause-refused
returns-in-Err-clause-refused c =
    let old = service_in c.args.self.now in
    let test = has_lease c.args.lease in
    let at = reached_at (has_lease c.args.lease) c.args.self.now c.give_back_at.new.seats refl c.deref_mut.ensures.value c.in-Some.ensures.first (first_of (omega arith, search rules)) in
    subst (λ (r : Refusal). RefusesIn old (gives_back old test (find_by test old.seats)) r) (sym c.in-Err.ensures.refused)
    (subst (λ (x : Option Seat). RefusesIn old (gives_back old test x) refusals.Memory) (sym (found_there at)) (λ numbers. refl))

pub returns-in-Ok-clause-keeps : goal.returns-in-Ok-clause-keeps
returns-in-Ok-clause-keeps c =
    let at = reached_at (has_lease c.args.lease) c.args.self.now c.give_back_at.new.seats refl c.deref_mut.ensures.value c.in-Some.ensures.first (first_of (omega arith, search rules)) in
    let k = c.in-Ok.ensures.ok at.here.seat at.here.at_lent in
    reads_there at k.0 c.in-Ok.rest c.in-Ok.number _ k.1 (closed_there at c.in-Ok.rest c.close.new.seats.items c.close.ensures.items) k.3 c.give_back_at.ensures.keeps

pub returns-in-Ok-clause-clients : goal.returns-in-Ok-clause-clients
returns-in-Ok-clause-clients c =
    let at = reached_at (has_lease c.args.lease) c.args.self.now c.give_back_at.new.seats refl c.deref_mut.ensures.value c.in-Some.ensures.first (first_of (omega arith, search rules)) in
    let k = c.in-Ok.ensures.ok at.here.seat at.here.at_lent in
    clients_resting_there c.args.lease at k.0 c.in-Ok.rest c.close.new.seats.items k.1 (closed_there at c.in-Ok.rest c.close.new.seats.items c.close.ensures.items) k.6

pub returns-in-Ok-clause-sizes : goal.returns-in-Ok-clause-sizes
returns-in-Ok-clause-sizes c =
    let at = reached_at (has_lease c.args.lease) c.args.self.now c.give_back_at.new.seats refl c.deref_mut.ensures.value c.in-Some.ensures.first (first_of (omega arith, search rules)) in
    sizes_resting_there at c.in-Ok.rest _ (closed_there at c.in-Ok.rest c.close.new.seats.items c.close.ensures.items) c.give_back_at.ensures.sizes refl

pub forget-requires : goal.forget-requires
forget-requires c = record { rising = (suc c.args.self.now.given, c.args.self.now.indexed.0) }

pub invariant_of-self-clause-indexed : goal.invariant_of-self-clause-indexed
invariant_of-self-clause-indexed c =
    let at = reached_at (has_lease c.args.lease) c.args.self.now c.give_back_at.new.seats refl c.deref_mut.ensures.value c.in-Some.ensures.first (first_of (omega arith, search rules)) in
    let k = c.in-Ok.ensures.ok at.here.seat at.here.at_lent in
    rested_index at k.0 c.in-Ok.rest c.close.new.seats.items c.args.lease (vec_capacity c.forget.new.index) c.forget.new.index.items k.1 c.close.ensures.items k.2
    (lease_id c.args.lease at.here.seat.place (meets_here (has_lease c.args.lease) c.args.self.now.seats.items c.deref_mut.result.now c.in-Some.index at.here))
    k.6 c.forget.ensures.forgets c.forget.ensures.capacity
