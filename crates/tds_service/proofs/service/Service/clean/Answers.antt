use Rattle.std.proofs.Common.{◌≡◌, ◌∙◌, ◌+◌, List, [], ◌∷◌, true, length, suc, refl, sym, ap, subst, arith, rules}
use Rattle.std.proofs.lemmas.List.{with_items_is}
use Rattle.std.specs.Prelude.{Option, Some, vec_capacity}
use Rattle.tds_wire.specs.declared.told.Token.{Token}
use Rattle.tds_packet.specs.declared.status.Reset.TheVariants.{Full}
use Rattle.tds_service.specs.declared.seat.Seat as code
use Rattle.tds_service.specs.declared.refusal.Refusal.{Refusal}
use Rattle.tds_service.specs.declared.refusal.Refusal.TheVariants as refusals
use Rattle.tds_service.specs.Line as line
use Rattle.tds_service.specs.Service.{Service, Seat, Cleaning, Lent, NotNow, ServiceStep, cleans, does, nothing, find_by, has_number, is_lendable, lease_in, is_idle}
use Rattle.tds_service.specs.Table.{StepsIn, RefusesIn, service_in, seat_in, seats_in, place_of}
use Rattle.tds_service.proofs.Tables.{here_in, found_here, lends_here, lent_same, steps_as, not_now_in, done_in}
use Rattle.tds_service.proofs.Holding.{lends_clients, lendable_held}
use Rattle.tds_service.proofs.Sizing.{keeps_sizes}
use Rattle.tds_service.specs.Index.{holder_in}
use Rattle.tds_service.specs.Ties.{line_in}
use Rattle.tds_service.proofs.Indexing.{lendable_id}
use Rattle.tds_service.proofs.Reached.{reached_at}
use Rattle.tds_service.proofs.Reindexing.{newest_of, room_there, lent_index, rising_there}
use Rattle.tds_service.proofs.service.Service.clean.Goals as goal

pub returns-in-Ok-clause-ok : goal.returns-in-Ok-clause-ok
returns-in-Ok-clause-ok c =
    let old = service_in c.args.self.now in
    let items = c.args.self.now.seats.items in
    let index = c.in-Some.index in
    let lease = c.in_ok-lease.lease in
    let news = c.clean_at.new.seats in
    let here = here_in (has_number c.args.number) items items c.deref_mut.result.now index refl c.deref_mut.ensures.value c.in-Some.ensures.first in
    let len : length news ≡ c.args.self.now.seats.len = first_of (omega arith, search rules) in
    let items_are = with_items_is c.args.self.now.seats news len in
    let k = c.in-Ok.ensures.ok here.seat here.at_lent in
    let is : lease ≡ suc old.given = c.in_ok-lease.ensures.value ∙ (let e : old.given + 1 ≡ suc old.given = omega arith in e) in
    let did = lends_here old (has_number c.args.number) Cleaning Full lease c.in-Ok.number items c.deref_mut.result.now news index here k.0 is refl c.deref_mut.ensures.value k.1 k.2 (ap place_of k.3) k.4 k.5 in
    let new : Service = record { max = old.max; last = old.last; given = lease; seats = seats_in news } in
    let P = λ (t : ServiceStep Token). StepsIn t new (Lent lease c.in-Ok.number true) c.in-Ok.number [] [] in
    let found = found_here (has_number c.args.number) items c.deref_mut.result.now index here in
    let stepped = subst (λ (x : Option Seat). P (cleans old (has_number c.args.number) x)) (sym found) (done_in P (does old (suc old.given) (has_number c.args.number) (seat_in here.seat) (Some (Cleaning (suc old.given))) (line.Mark Full ∷ []) (Lent (suc old.given) here.seat.number true)) (nothing old NotNow) (is_lendable (seat_in here.seat)) k.6 did) in
    steps_as (cleans old (has_number c.args.number) (find_by (has_number c.args.number) old.seats)) new _ (Lent lease c.in-Ok.number true) _ c.in-Ok.number _
    (ap (λ (cs : List code.Seat). let t : Service = record { max = old.max; last = old.last; given = lease; seats = seats_in cs } in t) items_are)
    (lent_same lease c.lent_again.result.lease c.in-Ok.number c.lent_again.result.number c.lent_again.result.had c.lent_again.ensures.0 c.lent_again.ensures.1 c.lent_again.ensures.2)
    (sym c.lent_again.ensures.1) stepped

pub returns-in-Err-clause-refused : goal.returns-in-Err-clause-refused
returns-in-Err-clause-refused c =
    let old = service_in c.args.self.now in
    let items = c.args.self.now.seats.items in
    let index = c.in-Some.index in
    let here = here_in (has_number c.args.number) items items c.deref_mut.result.now index refl c.deref_mut.ensures.value c.in-Some.ensures.first in
    let found = found_here (has_number c.args.number) items c.deref_mut.result.now index here in
    subst (λ (r : Refusal). RefusesIn old (cleans old (has_number c.args.number) (find_by (has_number c.args.number) old.seats)) r) (sym c.in-Err.ensures.refused.0)
    (subst (λ (x : Option Seat). RefusesIn old (cleans old (has_number c.args.number) x) refusals.NotNow) (sym found)
    (not_now_in old (does old (suc old.given) (has_number c.args.number) (seat_in here.seat) (Some (Cleaning (suc old.given))) (line.Mark Full ∷ []) (Lent (suc old.given) here.seat.number true)) (is_lendable (seat_in here.seat)) (c.in-Err.ensures.refused.1 here.seat here.at_lent)))

pub returns-in-Ok-clause-clients : goal.returns-in-Ok-clause-clients
returns-in-Ok-clause-clients c =
    let items = c.args.self.now.seats.items in
    let index = c.in-Some.index in
    let lent = c.deref_mut.result.now in
    let news = c.clean_at.new.seats in
    let here = here_in (has_number c.args.number) items items lent index refl c.deref_mut.ensures.value c.in-Some.ensures.first in
    let len : length news ≡ c.args.self.now.seats.len = first_of (omega arith, search rules) in
    let items_are = with_items_is c.args.self.now.seats news len in
    let k = c.in-Ok.ensures.ok here.seat here.at_lent in
    let is = c.in_ok-lease.ensures.value in
    lends_clients (c.args.self.now.given + 1) (has_number c.args.number) items _ lent news index here k.0 c.deref_mut.ensures.value k.1 items_are
    (λ l. lendable_held l (seat_in here.seat) k.6)
    (ap (λ p. lease_in (place_of p)) k.3 ∙ ap Some is)

pub returns-in-Ok-clause-sizes : goal.returns-in-Ok-clause-sizes
returns-in-Ok-clause-sizes c =
    let news = c.clean_at.new.seats in
    let len : length news ≡ c.args.self.now.seats.len = first_of (omega arith, search rules) in
    keeps_sizes c.args.self.now _ c.deref_mut.result.now news c.deref_mut.ensures.value (with_items_is c.args.self.now.seats news len) c.clean_at.ensures.sizes refl

pub add-requires-clause-newest : goal.add-requires-clause-newest
add-requires-clause-newest c = newest_of c.args.self.now c.in_ok-lease.lease c.in_ok-lease.ensures.value

pub add-requires-clause-room : goal.add-requires-clause-room
add-requires-clause-room c =
    let at = reached_at (has_number c.args.number) c.args.self.now c.clean_at.new.seats refl c.deref_mut.ensures.value c.in-Some.ensures.first (first_of (omega arith, search rules)) in
    let k = c.in-Ok.ensures.ok at.here.seat at.here.at_lent in
    room_there at (lendable_id at.here.seat.place (is_idle (line_in at.here.seat.connection).stage) k.6)

pub invariant_of-self-clause-indexed : goal.invariant_of-self-clause-indexed
invariant_of-self-clause-indexed c =
    let at = reached_at (has_number c.args.number) c.args.self.now c.clean_at.new.seats refl c.deref_mut.ensures.value c.in-Some.ensures.first (first_of (omega arith, search rules)) in
    let k = c.in-Ok.ensures.ok at.here.seat at.here.at_lent in
    lent_index at k.0 c.in_ok-lease.lease c.in-Ok.number (vec_capacity c.add.new.index) c.add.new.index.items k.1 k.2
    (lendable_id at.here.seat.place (is_idle (line_in at.here.seat.connection).stage) k.6)
    (ap holder_in k.3) c.in_ok-lease.ensures.value k.4 c.add.ensures.adds c.add.ensures.capacity

pub invariant_of-self-clause-rising : goal.invariant_of-self-clause-rising
invariant_of-self-clause-rising c = rising_there (reached_at (has_number c.args.number) c.args.self.now c.clean_at.new.seats refl c.deref_mut.ensures.value c.in-Some.ensures.first (first_of (omega arith, search rules))) c.clean_at.ensures.numbers
