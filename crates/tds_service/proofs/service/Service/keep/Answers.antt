use Rattle.std.proofs.Common.{◌≡◌, ◌∙◌, ◌+◌, ℕ, List, [], length, suc, refl, sym, ap, subst, arith, rules}
use Rattle.std.proofs.Math.ListN.{set}
use Rattle.std.proofs.lemmas.List.{with_items_is}
use Rattle.std.specs.Prelude.{Option, Some, vec_capacity}
use Rattle.tds_wire.specs.declared.told.Token.{Token}
use Rattle.tds_service.specs.declared.seat.Seat as code
use Rattle.tds_service.specs.declared.refusal.Refusal.{Refusal}
use Rattle.tds_service.specs.declared.refusal.Refusal.TheVariants as refusals
use Rattle.tds_service.specs.Service.{Service, Seat, Kept, Ticket, NotNow, ServiceStep, keeps_it, may_keep, does, nothing, find_by, has_lease, holds}
use Rattle.tds_service.specs.Table.{StepsIn, RefusesIn, service_in, seat_in, seats_in, place_of}
use Rattle.tds_service.proofs.Tables.{here_in, found_here, does_alike, not_now_in, done_in, steps_as, meets_here}
use Rattle.tds_service.proofs.Holding.{other_held_here, stays_here}
use Rattle.tds_service.proofs.Sizing.{keeps_sizes}
use Rattle.tds_service.specs.Index.{holder_in}
use Rattle.tds_service.proofs.Indexing.{lease_id}
use Rattle.tds_service.proofs.Reached.{reached_at}
use Rattle.tds_service.proofs.Reindexing.{newest_of, found_id, room_of, gone_on_index, rising_there}
use Rattle.tds_service.proofs.service.Service.keep.Goals as goal

pub returns-in-Ok-clause-ok : goal.returns-in-Ok-clause-ok
returns-in-Ok-clause-ok c =
    let old = service_in c.args.self.now in
    let items = c.args.self.now.seats.items in
    let index = c.in-Some.index in
    let here = here_in (has_lease c.args.lease) items c.args.self.now.seats.items c.deref_mut.result.now index refl c.deref_mut.ensures.value c.in-Some.ensures.first in
    let found = found_here (has_lease c.args.lease) items c.deref_mut.result.now index here in
    let k = c.in-Ok.ensures.ok here.seat here.at_lent in
    let ticket = c.in_ok-ticket.ticket in
    let is : ticket ≡ suc old.given = c.in_ok-ticket.ensures.value ∙ (let e : old.given + 1 ≡ suc old.given = omega arith in e) in
    let news = c.keep_at.new.seats in
    let len : length news ≡ c.args.self.now.seats.len = first_of (omega arith, search rules) in
    let table = k.1 ∙ ap (λ (cs : List code.Seat). set cs index k.0) c.deref_mut.ensures.value in
    let did = does_alike old (suc old.given) (has_lease c.args.lease) (Kept (suc old.given)) [] (Ticket (suc old.given)) items index here.seat k.0 refl here.first here.at k.2 (ap place_of k.3 ∙ ap Kept is) k.5 in
    let new : Service = record { max = old.max; last = old.last; given = ticket; seats = seats_in news } in
    let P = λ (t : ServiceStep Token). StepsIn t new (Ticket ticket) here.seat.number [] [] in
    let same = ap (λ (cs : List code.Seat). let t : Service = record { max = old.max; last = old.last; given = ticket; seats = seats_in cs } in t) table
    ∙ (ap (λ (g : ℕ). let t : Service = record { max = old.max; last = old.last; given = g; seats = seats_in (set items index k.0) } in t) is ∙ did) in
    let stepped = subst (λ (x : Option Seat). P (keeps_it old (has_lease c.args.lease) x)) (sym found)
    (done_in P (does old (suc old.given) (has_lease c.args.lease) (seat_in here.seat) (Some (Kept (suc old.given))) [] (Ticket (suc old.given))) (nothing old NotNow) (may_keep (seat_in here.seat)) k.6
    (record { service_is = same; reply_is = ap Ticket (sym is); number_is = refl; bytes = ([], refl, refl) })) in (
      here.seat.number,
      steps_as (keeps_it old (has_lease c.args.lease) (find_by (has_lease c.args.lease) old.seats)) new _ (Ticket ticket) (Ticket ticket) here.seat.number here.seat.number
          (ap (λ (cs : List code.Seat). let t : Service = record { max = old.max; last = old.last; given = ticket; seats = seats_in cs } in t) (with_items_is c.args.self.now.seats news len))
          refl refl stepped,
    )

pub returns-in-Err-clause-refused : goal.returns-in-Err-clause-refused
returns-in-Err-clause-refused c =
    let old = service_in c.args.self.now in
    let items = c.args.self.now.seats.items in
    let index = c.in-Some.index in
    let here = here_in (has_lease c.args.lease) items c.args.self.now.seats.items c.deref_mut.result.now index refl c.deref_mut.ensures.value c.in-Some.ensures.first in
    let found = found_here (has_lease c.args.lease) items c.deref_mut.result.now index here in
    subst (λ (r : Refusal). RefusesIn old (keeps_it old (has_lease c.args.lease) (find_by (has_lease c.args.lease) old.seats)) r) (sym c.in-Err.ensures.refused.0)
    (subst (λ (x : Option Seat). RefusesIn old (keeps_it old (has_lease c.args.lease) x) refusals.NotNow) (sym found)
    (not_now_in old (does old (suc old.given) (has_lease c.args.lease) (seat_in here.seat) (Some (Kept (suc old.given))) [] (Ticket (suc old.given))) (may_keep (seat_in here.seat)) (c.in-Err.ensures.refused.1 here.seat here.at_lent)))

pub returns-in-Ok-clause-clients : goal.returns-in-Ok-clause-clients
returns-in-Ok-clause-clients c = λ l other.
    let items = c.args.self.now.seats.items in
    let index = c.in-Some.index in
    let lent = c.deref_mut.result.now in
    let news = c.keep_at.new.seats in
    let here = here_in (has_lease c.args.lease) items c.args.self.now.seats.items lent index refl c.deref_mut.ensures.value c.in-Some.ensures.first in
    let len : length news ≡ c.args.self.now.seats.len = first_of (omega arith, search rules) in
    let items_are = with_items_is c.args.self.now.seats news len in
    let k = c.in-Ok.ensures.ok here.seat here.at_lent in
    stays_here l (has_lease c.args.lease) items _ lent news index here k.0 c.deref_mut.ensures.value k.1 items_are (other_held_here l c.args.lease items lent index here other)
    (ap (λ p. holds l (place_of p)) k.3)

pub returns-in-Ok-clause-sizes : goal.returns-in-Ok-clause-sizes
returns-in-Ok-clause-sizes c =
    let news = c.keep_at.new.seats in
    let len : length news ≡ c.args.self.now.seats.len = first_of (omega arith, search rules) in
    keeps_sizes c.args.self.now _ c.deref_mut.result.now news c.deref_mut.ensures.value (with_items_is c.args.self.now.seats news len) c.keep_at.ensures.sizes refl

pub go_on-requires-clause-newest : goal.go_on-requires-clause-newest
go_on-requires-clause-newest c = newest_of c.args.self.now c.in_ok-ticket.ticket c.in_ok-ticket.ensures.value

pub go_on-requires-clause-there : goal.go_on-requires-clause-there
go_on-requires-clause-there c =
    let at = reached_at (has_lease c.args.lease) c.args.self.now c.keep_at.new.seats refl c.deref_mut.ensures.value c.in-Some.ensures.first (first_of (omega arith, search rules)) in
    let k = c.in-Ok.ensures.ok at.here.seat at.here.at_lent in
    found_id at c.args.lease c.in-Ok.number (lease_id c.args.lease at.here.seat.place (meets_here (has_lease c.args.lease) c.args.self.now.seats.items c.deref_mut.result.now c.in-Some.index at.here)) k.4

pub go_on-requires-clause-room : goal.go_on-requires-clause-room
go_on-requires-clause-room c = room_of c.args.self.now

pub invariant_of-self-clause-indexed : goal.invariant_of-self-clause-indexed
invariant_of-self-clause-indexed c =
    let at = reached_at (has_lease c.args.lease) c.args.self.now c.keep_at.new.seats refl c.deref_mut.ensures.value c.in-Some.ensures.first (first_of (omega arith, search rules)) in
    let k = c.in-Ok.ensures.ok at.here.seat at.here.at_lent in
    gone_on_index at k.0 c.args.lease c.in_ok-ticket.ticket c.in-Ok.number (vec_capacity c.go_on.new.index) c.go_on.new.index.items k.1 k.2
    (lease_id c.args.lease at.here.seat.place (meets_here (has_lease c.args.lease) c.args.self.now.seats.items c.deref_mut.result.now c.in-Some.index at.here))
    (ap holder_in k.3) c.in_ok-ticket.ensures.value k.4 c.go_on.ensures.goes_on c.go_on.ensures.capacity

pub invariant_of-self-clause-rising : goal.invariant_of-self-clause-rising
invariant_of-self-clause-rising c = rising_there (reached_at (has_lease c.args.lease) c.args.self.now c.keep_at.new.seats refl c.deref_mut.ensures.value c.in-Some.ensures.first (first_of (omega arith, search rules))) c.keep_at.ensures.numbers
