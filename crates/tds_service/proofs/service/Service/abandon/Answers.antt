use Rattle.std.proofs.Common.{◌≡◌, ◌∙◌, [], length, refl, sym, ap, subst, arith, rules, suc}
use Rattle.std.proofs.lemmas.List.{with_items_is}
use Rattle.std.specs.Prelude.{Option, vec_capacity}
use Rattle.tds_service.specs.Service.{Seat, Place, Back, abandons, does, has_ticket}
use Rattle.tds_service.specs.Table.{StepsIn, service_in, place_of, seat_in, seats_in, rest_of, without_closed}
use Rattle.tds_service.proofs.Tables.{with_seats, here_in, found_here, meets_here, rests_here}
use Rattle.tds_service.proofs.Keeping.{keeps_resting}
use Rattle.tds_service.proofs.Holding.{kept_held, stays_resting}
use Rattle.tds_service.proofs.Sizing.{keeps_sizes_resting}
use Rattle.tds_service.proofs.Indexing.{ticket_id}
use Rattle.tds_service.proofs.Reached.{reached_at}
use Rattle.tds_service.proofs.Reindexing.{rested_index}
use Rattle.tds_service.proofs.service.Service.abandon.Goals as goal

pub returns-in-Some-clause-ok : goal.returns-in-Some-clause-ok
returns-in-Some-clause-ok c =
    let old = service_in c.args.self.now in
    let items = c.args.self.now.seats.items in
    let index = c.in-Some.index in
    let here = here_in (has_ticket c.args.ticket) items c.args.self.now.seats.items c.deref_mut.result.now index refl c.deref_mut.ensures.value c.in-Some.ensures.first in
    let found = found_here (has_ticket c.args.ticket) items c.deref_mut.result.now index here in
    let k = c.rest_at-number.ensures.rests here.seat here.at_lent in
    let rest = c.rest_at-number.result.1 in
    let news = c.rest_at-number.new.seats in
    let len : length news ≡ c.args.self.now.seats.len = first_of (omega arith, search rules) in
    let closed = c.close.ensures.items ∙ ap (without_closed rest index) (with_items_is c.args.self.now.seats news len) in
    let did = rests_here old (has_ticket c.args.ticket) [] rest (Back (rest_of rest)) items c.deref_mut.result.now news c.close.new.seats.items index here k.0 refl c.deref_mut.ensures.value k.1 closed k.2 k.4 k.6 in
    let new = with_seats old (seats_in c.close.new.seats.items) in
    subst (λ (x : Option Seat). StepsIn (abandons old (has_ticket c.args.ticket) x) new (Back (rest_of rest)) c.rest_at-number.result.0 [] []) (sym found)
    (subst (λ (p : Option Place). StepsIn (does old old.given (has_ticket c.args.ticket) (seat_in here.seat) p [] (Back p)) new (Back (rest_of rest)) c.rest_at-number.result.0 [] []) k.5
    (record { service_is = did; reply_is = refl; number_is = sym k.3; bytes = ([], refl, refl) }))

pub returns-in-Some-clause-keeps : goal.returns-in-Some-clause-keeps
returns-in-Some-clause-keeps c =
    let items = c.args.self.now.seats.items in
    let index = c.in-Some.index in
    let lent = c.deref_mut.result.now in
    let here = here_in (has_ticket c.args.ticket) items c.args.self.now.seats.items lent index refl c.deref_mut.ensures.value c.in-Some.ensures.first in
    let k = c.rest_at-number.ensures.rests here.seat here.at_lent in
    let rest = c.rest_at-number.result.1 in
    let news = c.rest_at-number.new.seats in
    let len : length news ≡ c.args.self.now.seats.len = first_of (omega arith, search rules) in
    let closed = c.close.ensures.items ∙ ap (without_closed rest index) (with_items_is c.args.self.now.seats news len) in
    keeps_resting rest c.rest_at-number.result.0 c.args.self.now _ (has_ticket c.args.ticket) lent news index here k.0 c.deref_mut.ensures.value k.1 closed k.3 c.rest_at-number.ensures.keeps

pub returns-in-Some-clause-clients : goal.returns-in-Some-clause-clients
returns-in-Some-clause-clients c = λ l.
    let items = c.args.self.now.seats.items in
    let index = c.in-Some.index in
    let lent = c.deref_mut.result.now in
    let news = c.rest_at-number.new.seats in
    let here = here_in (has_ticket c.args.ticket) items c.args.self.now.seats.items lent index refl c.deref_mut.ensures.value c.in-Some.ensures.first in
    let len : length news ≡ c.args.self.now.seats.len = first_of (omega arith, search rules) in
    let items_are = with_items_is c.args.self.now.seats news len in
    let k = c.rest_at-number.ensures.rests here.seat here.at_lent in
    let rest = c.rest_at-number.result.1 in
    stays_resting l rest (has_ticket c.args.ticket) items _ lent news index here k.0 c.deref_mut.ensures.value k.1 (c.close.ensures.items ∙ ap (without_closed rest index) items_are) k.6
    (kept_held l c.args.ticket (place_of here.seat.place) (meets_here (has_ticket c.args.ticket) items lent index here))

pub returns-in-Some-clause-sizes : goal.returns-in-Some-clause-sizes
returns-in-Some-clause-sizes c =
    let index = c.in-Some.index in
    let rest = c.rest_at-number.result.1 in
    let news = c.rest_at-number.new.seats in
    let len : length news ≡ c.args.self.now.seats.len = first_of (omega arith, search rules) in
    let closed = c.close.ensures.items ∙ ap (without_closed rest index) (with_items_is c.args.self.now.seats news len) in
    keeps_sizes_resting rest index c.args.self.now _ c.deref_mut.result.now news c.deref_mut.ensures.value closed c.rest_at-number.ensures.sizes refl

pub forget-requires : goal.forget-requires
forget-requires c = record { rising = (suc c.args.self.now.given, c.args.self.now.indexed.0) }

pub invariant_of-self-clause-indexed : goal.invariant_of-self-clause-indexed
invariant_of-self-clause-indexed c =
    let at = reached_at (has_ticket c.args.ticket) c.args.self.now c.rest_at-number.new.seats refl c.deref_mut.ensures.value c.in-Some.ensures.first (first_of (omega arith, search rules)) in
    let k = c.rest_at-number.ensures.rests at.here.seat at.here.at_lent in
    rested_index at k.0 c.rest_at-number.result.1 c.close.new.seats.items c.args.ticket (vec_capacity c.forget.new.index) c.forget.new.index.items k.1 c.close.ensures.items k.2
    (ticket_id c.args.ticket at.here.seat.place (meets_here (has_ticket c.args.ticket) c.args.self.now.seats.items c.deref_mut.result.now c.in-Some.index at.here))
    k.6 c.forget.ensures.forgets c.forget.ensures.capacity
