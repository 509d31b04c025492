use Rattle.std.proofs.Common.{◌≡◌, ◌∙◌, ◌+◌, List, [], ◌∷◌, true, length, suc, refl, sym, ap, subst, arith, rules}
use Rattle.std.proofs.lemmas.List.{with_items_is}
use Rattle.std.specs.Prelude.{Option, Some, vec_capacity}
use Rattle.tds_wire.specs.declared.told.Token.{Token}
use Rattle.tds_packet.specs.declared.status.Reset.TheVariants.{KeepTransaction}
use Rattle.tds_service.specs.declared.seat.Seat as code
use Rattle.tds_service.specs.declared.refusal.Refusal.{Refusal}
use Rattle.tds_service.specs.declared.refusal.Refusal.TheVariants as refusals
use Rattle.tds_service.specs.Line as line
use Rattle.tds_service.specs.Service.{Service, Seat, Leased, Lent, NotNow, ServiceStep, resumes, does, nothing, find_by, has_ticket, is_idle, lease_in}
use Rattle.tds_service.specs.Table.{StepsIn, RefusesIn, service_in, seat_in, seats_in, place_of}
use Rattle.tds_service.specs.Ties.{line_in}
use Rattle.tds_service.proofs.Tables.{here_in, found_here, meets_here, lends_here, lent_same, steps_as, marked_idle, refused_busy, not_now_in, done_in}
use Rattle.tds_service.proofs.Holding.{lends_clients, kept_held}
use Rattle.tds_service.proofs.Sizing.{keeps_sizes}
use Rattle.tds_service.specs.Index.{holder_in}
use Rattle.tds_service.proofs.Indexing.{ticket_id}
use Rattle.tds_service.proofs.Reached.{reached_at}
use Rattle.tds_service.proofs.Reindexing.{newest_of, found_id, room_of, gone_on_index, rising_there}
use Rattle.tds_service.proofs.service.Service.resume.Goals as goal

pub returns-in-Ok-clause-ok : goal.returns-in-Ok-clause-ok
returns-in-Ok-clause-ok c =
    let old = service_in c.args.self.now in
    let items = c.args.self.now.seats.items in
    let index = c.in-Some.index in
    let lease = c.in_ok-lease.lease in
    let news = c.lend_at.new.seats in
    let here = here_in (has_ticket c.args.ticket) items c.args.self.now.seats.items c.deref_mut.result.now index refl c.deref_mut.ensures.value c.in-Some.ensures.first in
    let len : length news ≡ c.args.self.now.seats.len = first_of (omega arith, search rules) in
    let items_are = with_items_is c.args.self.now.seats news len in
    let k = c.in-Ok.ensures.ok here.seat here.at_lent in
    let is : lease ≡ suc old.given = c.in_ok-lease.ensures.value ∙ (let e : old.given + 1 ≡ suc old.given = omega arith in e) in
    let did = lends_here old (has_ticket c.args.ticket) Leased KeepTransaction lease c.in-Ok.number items c.deref_mut.result.now news index here k.0 is refl c.deref_mut.ensures.value k.1 k.2 (ap place_of k.3) k.4 k.5 in
    let new : Service = record { max = old.max; last = old.last; given = lease; seats = seats_in news } in
    let P = λ (t : ServiceStep Token). StepsIn t new (Lent lease c.in-Ok.number true) c.in-Ok.number [] [] in
    let found = found_here (has_ticket c.args.ticket) items c.deref_mut.result.now index here in
    let stepped = subst (λ (x : Option Seat). P (resumes old (has_ticket c.args.ticket) x)) (sym found) (done_in P (does old (suc old.given) (has_ticket c.args.ticket) (seat_in here.seat) (Some (Leased (suc old.given))) (line.Mark KeepTransaction ∷ []) (Lent (suc old.given) here.seat.number true)) (nothing old NotNow) (is_idle (line_in here.seat.connection).stage) (marked_idle (line_in here.seat.connection) KeepTransaction k.5.answer_is) did) in
    steps_as (resumes old (has_ticket c.args.ticket) (find_by (has_ticket c.args.ticket) old.seats)) new _ (Lent lease c.in-Ok.number true) _ c.in-Ok.number _
    (ap (λ (cs : List code.Seat). let t : Service = record { max = old.max; last = old.last; given = lease; seats = seats_in cs } in t) items_are)
    (lent_same lease c.lent_again.result.lease c.in-Ok.number c.lent_again.result.number c.lent_again.result.had c.lent_again.ensures.0 c.lent_again.ensures.1 c.lent_again.ensures.2)
    (sym c.lent_again.ensures.1) stepped

pub returns-in-Err-clause-refused : goal.returns-in-Err-clause-refused
returns-in-Err-clause-refused c =
    let old = service_in c.args.self.now in
    let items = c.args.self.now.seats.items in
    let index = c.in-Some.index in
    let here = here_in (has_ticket c.args.ticket) items c.args.self.now.seats.items c.deref_mut.result.now index refl c.deref_mut.ensures.value c.in-Some.ensures.first in
    let found = found_here (has_ticket c.args.ticket) items c.deref_mut.result.now index here in
    let busy = c.in-Err.ensures.refused.1 here.seat here.at_lent in
    subst (λ (r : Refusal). RefusesIn old (resumes old (has_ticket c.args.ticket) (find_by (has_ticket c.args.ticket) old.seats)) r) (sym c.in-Err.ensures.refused.0)
    (subst (λ (x : Option Seat). RefusesIn old (resumes old (has_ticket c.args.ticket) x) refusals.NotNow) (sym found)
    (not_now_in old (does old (suc old.given) (has_ticket c.args.ticket) (seat_in here.seat) (Some (Leased (suc old.given))) (line.Mark KeepTransaction ∷ []) (Lent (suc old.given) here.seat.number true)) (is_idle (line_in here.seat.connection).stage) (refused_busy (line_in here.seat.connection) KeepTransaction busy.0 busy.1)))

pub returns-in-Ok-clause-clients : goal.returns-in-Ok-clause-clients
returns-in-Ok-clause-clients c =
    let items = c.args.self.now.seats.items in
    let index = c.in-Some.index in
    let lent = c.deref_mut.result.now in
    let news = c.lend_at.new.seats in
    let here = here_in (has_ticket c.args.ticket) items c.args.self.now.seats.items lent index refl c.deref_mut.ensures.value c.in-Some.ensures.first in
    let len : length news ≡ c.args.self.now.seats.len = first_of (omega arith, search rules) in
    let items_are = with_items_is c.args.self.now.seats news len in
    let k = c.in-Ok.ensures.ok here.seat here.at_lent in
    let is = c.in_ok-lease.ensures.value in
    lends_clients (c.args.self.now.given + 1) (has_ticket c.args.ticket) items _ lent news index here k.0 c.deref_mut.ensures.value k.1 items_are
    (λ l. kept_held l c.args.ticket (place_of here.seat.place) (meets_here (has_ticket c.args.ticket) items lent index here))
    (ap (λ p. lease_in (place_of p)) k.3 ∙ ap Some is)

pub returns-in-Ok-clause-sizes : goal.returns-in-Ok-clause-sizes
returns-in-Ok-clause-sizes c =
    let news = c.lend_at.new.seats in
    let len : length news ≡ c.args.self.now.seats.len = first_of (omega arith, search rules) in
    keeps_sizes c.args.self.now _ c.deref_mut.result.now news c.deref_mut.ensures.value (with_items_is c.args.self.now.seats news len) c.lend_at.ensures.sizes refl

pub go_on-requires-clause-newest : goal.go_on-requires-clause-newest
go_on-requires-clause-newest c = newest_of c.args.self.now c.in_ok-lease.lease c.in_ok-lease.ensures.value

pub go_on-requires-clause-there : goal.go_on-requires-clause-there
go_on-requires-clause-there c =
    let at = reached_at (has_ticket c.args.ticket) c.args.self.now c.lend_at.new.seats refl c.deref_mut.ensures.value c.in-Some.ensures.first (first_of (omega arith, search rules)) in
    let k = c.in-Ok.ensures.ok at.here.seat at.here.at_lent in
    found_id at c.args.ticket c.in-Ok.number (ticket_id c.args.ticket at.here.seat.place (meets_here (has_ticket c.args.ticket) c.args.self.now.seats.items c.deref_mut.result.now c.in-Some.index at.here)) k.4

pub go_on-requires-clause-room : goal.go_on-requires-clause-room
go_on-requires-clause-room c = room_of c.args.self.now

pub invariant_of-self-clause-indexed : goal.invariant_of-self-clause-indexed
invariant_of-self-clause-indexed c =
    let at = reached_at (has_ticket c.args.ticket) c.args.self.now c.lend_at.new.seats refl c.deref_mut.ensures.value c.in-Some.ensures.first (first_of (omega arith, search rules)) in
    let k = c.in-Ok.ensures.ok at.here.seat at.here.at_lent in
    gone_on_index at k.0 c.args.ticket c.in_ok-lease.lease c.in-Ok.number (vec_capacity c.go_on.new.index) c.go_on.new.index.items k.1 k.2
    (ticket_id c.args.ticket at.here.seat.place (meets_here (has_ticket c.args.ticket) c.args.self.now.seats.items c.deref_mut.result.now c.in-Some.index at.here))
    (ap holder_in k.3) c.in_ok-lease.ensures.value k.4 c.go_on.ensures.goes_on c.go_on.ensures.capacity

pub invariant_of-self-clause-rising : goal.invariant_of-self-clause-rising
invariant_of-self-clause-rising c = rising_there (reached_at (has_ticket c.args.ticket) c.args.self.now c.lend_at.new.seats refl c.deref_mut.ensures.value c.in-Some.ensures.first (first_of (omega arith, search rules))) c.lend_at.ensures.numbers
