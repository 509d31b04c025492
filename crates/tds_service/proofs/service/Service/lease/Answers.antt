use Rattle.std.proofs.Common.{◌≡◌, ◌∙◌, ◌+◌, ℕ, List, [], Bool, true, false, length, suc, refl, sym, ap, subst, arith, rules}
use Rattle.std.proofs.lemmas.List.{with_items_is}
use Rattle.std.specs.Prelude.{Option, Some, nat_lt, if◌then◌else◌, vec_capacity}
use Rattle.tds_wire.specs.declared.told.Token.{Token}
use Rattle.tds_packet.specs.declared.status.Reset.TheVariants.{Full}
use Rattle.tds_service.specs.declared.seat.Seat as code
use Rattle.tds_service.specs.Service.{Service, Seat, Leased, Lent, ServiceStep, lends, opens, find_by, is_lendable, lease_in, is_idle}
use Rattle.tds_service.specs.Table.{StepsIn, RefusesIn, service_in, seat_in, seats_in, place_of}
use Rattle.tds_service.specs.Ties.{line_in}
use Rattle.tds_service.proofs.Tables.{here_in, found_here, meets_here, lends_here, lent_same, steps_as, refused_busy, busy_not_lendable, length_in, on_err}
use Rattle.tds_service.proofs.Holding.{lends_clients, lendable_held}
use Rattle.tds_service.proofs.Sizing.{keeps_sizes}
use Rattle.tds_service.specs.Index.{holder_in}
use Rattle.tds_service.proofs.Indexing.{lendable_id}
use Rattle.tds_service.proofs.Reached.{reached_at}
use Rattle.tds_service.proofs.Reindexing.{newest_of, room_there, lent_index, rising_there}
use Rattle.tds_service.proofs.service.Service.lease.Goals as goal

lent_number : (n m : ℕ) (had : Bool) → n ≡ m → had ≡ true → m ≡ (if had then n else 0)
lent_number n m true e f = sym e
lent_number n m false e f = absurd (let u : ⊥ = cc in u)

not_both : {A : Type 0} (b : Bool) → b ≡ true → b ≡ false → A
not_both true e f = absurd (let u : ⊥ = cc in u)
not_both false e f = absurd (let u : ⊥ = cc in u)

pub returns-in-Ok-clause-ok : goal.returns-in-Ok-clause-ok
returns-in-Ok-clause-ok c =
    let old = service_in c.args.self.now in
    let items = c.args.self.now.seats.items in
    let index = c.in-Some.index in
    let lease = c.in_ok-lease.lease in
    let news = c.lend_at.new.seats in
    let here = here_in is_lendable items c.deref.result.now c.deref_mut.result.now index c.deref.ensures.value c.deref_mut.ensures.value c.in-Some.ensures.first in
    let len : length news ≡ c.args.self.now.seats.len = first_of (omega arith, search rules) in
    let items_are = with_items_is c.args.self.now.seats news len in
    let k = c.in-Ok.ensures.ok here.seat here.at_lent in
    let is : lease ≡ suc old.given = c.in_ok-lease.ensures.value ∙ (let e : old.given + 1 ≡ suc old.given = omega arith in e) in
    let did = lends_here old is_lendable Leased Full lease c.in-Ok.number items c.deref_mut.result.now news index here k.0 is refl c.deref_mut.ensures.value k.1 k.2 (ap place_of k.3) k.4 k.5 in
    let new : Service = record { max = old.max; last = old.last; given = lease; seats = seats_in news } in
    let P = λ (t : ServiceStep Token). StepsIn t new (Lent lease c.in-Ok.number true) c.in-Ok.number [] [] in
    let found = found_here is_lendable items c.deref_mut.result.now index here in
    let stepped = subst (λ (x : Option Seat). P (lends old x)) (sym found) did in
    steps_as (lends old (find_by is_lendable old.seats)) new _ (Lent lease c.in-Ok.number true) _ c.in-Ok.number _
    (ap (λ (cs : List code.Seat). let t : Service = record { max = old.max; last = old.last; given = lease; seats = seats_in cs } in t) items_are)
    (lent_same lease c.lent_again.result.lease c.in-Ok.number c.lent_again.result.number c.lent_again.result.had c.lent_again.ensures.0 c.lent_again.ensures.1 c.lent_again.ensures.2)
    (lent_number c.lent_again.result.number c.in-Ok.number c.lent_again.result.had c.lent_again.ensures.1 c.lent_again.ensures.2) stepped

pub returns-in-Err-clause-refused : goal.returns-in-Err-clause-refused
returns-in-Err-clause-refused c =
    let old = service_in c.args.self.now in
    let items = c.args.self.now.seats.items in
    let index = c.in-Some.index in
    let here = here_in is_lendable items c.deref.result.now c.deref_mut.result.now index c.deref.ensures.value c.deref_mut.ensures.value c.in-Some.ensures.first in
    let found = found_here is_lendable items c.deref_mut.result.now index here in
    let busy = c.in-Err.ensures.refused.1 here.seat here.at_lent in
    not_both (is_lendable (seat_in here.seat)) (meets_here is_lendable items c.deref_mut.result.now index here)
    (busy_not_lendable (seat_in here.seat) (refused_busy (line_in here.seat.connection) Full busy.0 busy.1))

pub returns-in-None-clause-refused : goal.returns-in-None-clause-refused
returns-in-None-clause-refused c =
    let old = service_in c.args.self.now in
    let items = c.args.self.now.seats.items in
    let none = ap (λ (cs : List code.Seat). find_by is_lendable (seats_in cs)) (sym c.deref.ensures.value) ∙ c.in-None.ensures.none in
    on_err c.open.result _ _
    (λ refusal h. subst (λ (x : Option Seat). RefusesIn old (lends old x) refusal) (sym none)
    (subst (λ (n : ℕ). RefusesIn old (opens old (nat_lt n old.max)) refusal) (sym (length_in items)) h))
    c.open.ensures.refused

pub returns-in-Ok-clause-clients : goal.returns-in-Ok-clause-clients
returns-in-Ok-clause-clients c =
    let items = c.args.self.now.seats.items in
    let index = c.in-Some.index in
    let lent = c.deref_mut.result.now in
    let news = c.lend_at.new.seats in
    let here = here_in is_lendable items c.deref.result.now lent index c.deref.ensures.value c.deref_mut.ensures.value c.in-Some.ensures.first in
    let len : length news ≡ c.args.self.now.seats.len = first_of (omega arith, search rules) in
    let items_are = with_items_is c.args.self.now.seats news len in
    let k = c.in-Ok.ensures.ok here.seat here.at_lent in
    let is = c.in_ok-lease.ensures.value in
    lends_clients (c.args.self.now.given + 1) is_lendable items _ lent news index here k.0 c.deref_mut.ensures.value k.1 items_are
    (λ l. lendable_held l (seat_in here.seat) (meets_here is_lendable items lent index here))
    (ap (λ p. lease_in (place_of p)) k.3 ∙ ap Some is)

pub returns-in-Ok-clause-sizes : goal.returns-in-Ok-clause-sizes
returns-in-Ok-clause-sizes c =
    let news = c.lend_at.new.seats in
    let len : length news ≡ c.args.self.now.seats.len = first_of (omega arith, search rules) in
    keeps_sizes c.args.self.now _ c.deref_mut.result.now news c.deref_mut.ensures.value (with_items_is c.args.self.now.seats news len) c.lend_at.ensures.sizes refl

pub add-requires-clause-newest : goal.add-requires-clause-newest
add-requires-clause-newest c = newest_of c.args.self.now c.in_ok-lease.lease c.in_ok-lease.ensures.value

pub add-requires-clause-room : goal.add-requires-clause-room
add-requires-clause-room c =
    let at = reached_at is_lendable c.args.self.now c.lend_at.new.seats c.deref.ensures.value c.deref_mut.ensures.value c.in-Some.ensures.first (first_of (omega arith, search rules)) in
    room_there at (lendable_id at.here.seat.place (is_idle (line_in at.here.seat.connection).stage) (meets_here is_lendable c.args.self.now.seats.items c.deref_mut.result.now c.in-Some.index at.here))

pub invariant_of-self-clause-indexed : goal.invariant_of-self-clause-indexed
invariant_of-self-clause-indexed c =
    let at = reached_at is_lendable c.args.self.now c.lend_at.new.seats c.deref.ensures.value c.deref_mut.ensures.value c.in-Some.ensures.first (first_of (omega arith, search rules)) in
    let k = c.in-Ok.ensures.ok at.here.seat at.here.at_lent in
    lent_index at k.0 c.in_ok-lease.lease c.in-Ok.number (vec_capacity c.add.new.index) c.add.new.index.items k.1 k.2
    (lendable_id at.here.seat.place (is_idle (line_in at.here.seat.connection).stage) (meets_here is_lendable c.args.self.now.seats.items c.deref_mut.result.now c.in-Some.index at.here))
    (ap holder_in k.3) c.in_ok-lease.ensures.value k.4 c.add.ensures.adds c.add.ensures.capacity

pub invariant_of-self-clause-rising : goal.invariant_of-self-clause-rising
invariant_of-self-clause-rising c = rising_there (reached_at is_lendable c.args.self.now c.lend_at.new.seats c.deref.ensures.value c.deref_mut.ensures.value c.in-Some.ensures.first (first_of (omega arith, search rules))) c.lend_at.ensures.numbers
