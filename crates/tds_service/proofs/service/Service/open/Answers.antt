use Rattle.std.proofs.Common.{◌≡◌, ◌∙◌, ◌+◌, ◌<◌, ◌==◌, ℕ, true, List, [], ◌∷◌, ◌++◌, length, suc, refl, sym, ap, subst, arith, rules, ◌≤◌}
use Rattle.std.proofs.lemmas.Bool.Decides.{nat_tests}
use Rattle.tds_client.specs.Session.{ClientSession}
use Rattle.tds_service.specs.declared.seat.Seat as code
use Rattle.tds_service.specs.declared.place.Place.TheVariants as places
use Rattle.tds_service.specs.Line as line
use Rattle.tds_service.specs.Rising.{RiseFrom, numbers_in}
use Rattle.tds_service.specs.Service.{Service, Seat, Leased, has_lease, has_number}
use Rattle.tds_service.specs.Table.{client_by, reading_by, seat_in, seats_in}
use Rattle.tds_service.specs.Ties.{line_in}
use Rattle.tds_service.proofs.Tables.{length_in, seats_added}
use Rattle.tds_service.proofs.Keeping.{keeps_added, reads_added}
use Rattle.tds_service.proofs.Holding.{kept_added, other_held}
use Rattle.tds_service.proofs.Sizing.{keeps_sizes_added}
use Rattle.tds_service.proofs.Rising.{added}
use Rattle.std.specs.Prelude.{vec_capacity}
use Rattle.tds_service.specs.declared.index.Indexed.{Indexed}
use Rattle.tds_service.specs.Index.{ids_in}
use Rattle.tds_service.proofs.Reindexing.{newest_of, few_ids, opened_index}
use Rattle.tds_service.proofs.service.Service.open.Goals as goal

pub returns-clause-ok : goal.returns-clause-ok
returns-clause-ok c =
    let s = c.args.self.now in
    let items = s.seats.items in
    let next : s.last + 1 ≡ suc s.last = omega arith in
    let is : c.args.lease ≡ suc s.given = c.requires ∙ (let e : s.given + 1 ≡ suc s.given = omega arith in e) in
    let room : length items < s.max = first_of (search rules, omega arith) in
    let new : code.Seat = record { number = s.last + 1; place = places.Leased c.args.lease; connection = c.in-Ok.connection } in
    let added : seat_in new ≡ record { number = suc s.last; place = Leased (suc s.given); line = line.new_line } =
    ap (λ (n : ℕ). let x : Seat = record { number = n; place = Leased c.args.lease; line = line_in c.in-Ok.connection } in x) next
    ∙ (ap (λ (n : ℕ). let x : Seat = record { number = suc s.last; place = Leased n; line = line_in c.in-Ok.connection } in x) is
    ∙ ap (λ (l : line.Line). let x : Seat = record { number = suc s.last; place = Leased (suc s.given); line = l } in x) c.in-Ok.ensures.line) in
    let seats = ap seats_in (c.push_reserved.ensures.items ∙ ap (λ (cs : List code.Seat). cs ++ new ∷ []) c.reserve.ensures.items) ∙ (seats_added items new ∙ ap (λ (x : Seat). seats_in items ++ x ∷ []) added) in (
      subst (λ (n : ℕ). n < s.max) (sym (length_in items)) room,
      ap (λ ss. let t : Service = record { max = s.max; last = s.last + 1; given = c.args.lease; seats = ss } in t) seats
          ∙ (ap (λ (n : ℕ). let t : Service = record { max = s.max; last = n; given = c.args.lease; seats = seats_in items ++ (record { number = suc s.last; place = Leased (suc s.given); line = line.new_line }) ∷ [] } in t) next
          ∙ ap (λ (n : ℕ). let t : Service = record { max = s.max; last = suc s.last; given = n; seats = seats_in items ++ (record { number = suc s.last; place = Leased (suc s.given); line = line.new_line }) ∷ [] } in t) is),
      is,
      next,
      refl,
    )

pub returns-clause-keeps : goal.returns-clause-keeps
returns-clause-keeps c = λ n r e.
    let s = c.args.self.now in
    let items = s.seats.items in
    let new : code.Seat = record { number = s.last + 1; place = places.Leased c.args.lease; connection = c.in-Ok.connection } in
    ap (reading_by (has_number n)) (c.push_reserved.ensures.items ∙ ap (λ (cs : List code.Seat). cs ++ new ∷ []) c.reserve.ensures.items)
    ∙ keeps_added (has_number n) r new items e

pub returns-clause-clients : goal.returns-clause-clients
returns-clause-clients c = λ l other.
    let s = c.args.self.now in
    let items = s.seats.items in
    let new : code.Seat = record { number = s.last + 1; place = places.Leased c.args.lease; connection = c.in-Ok.connection } in
    ap (client_by (has_lease l)) (c.push_reserved.ensures.items ∙ ap (λ (cs : List code.Seat). cs ++ new ∷ []) c.reserve.ensures.items)
    ∙ kept_added (has_lease l) new items (other_held l c.args.lease (Leased c.args.lease) refl other)

pub returns-clause-sizes : goal.returns-clause-sizes
returns-clause-sizes c =
    let s = c.args.self.now in
    let new : code.Seat = record { number = s.last + 1; place = places.Leased c.args.lease; connection = c.in-Ok.connection } in
    keeps_sizes_added new s _ (c.push_reserved.ensures.items ∙ ap (λ (cs : List code.Seat). cs ++ new ∷ []) c.reserve.ensures.items)
    (ap (λ (x : ClientSession). x.size) c.in-Ok.ensures.client) refl

pub returns-clause-begins : goal.returns-clause-begins
returns-clause-begins c = λ none.
    let s = c.args.self.now in
    let items = s.seats.items in
    let new : code.Seat = record { number = s.last + 1; place = places.Leased c.args.lease; connection = c.in-Ok.connection } in
    let same : ((s.last + 1) == (s.last + 1)) ≡ true = grind (arith, nat_tests) in (
      c.in-Ok.connection.parser,
      ap (reading_by (has_number (s.last + 1))) (c.push_reserved.ensures.items ∙ ap (λ (cs : List code.Seat). cs ++ new ∷ []) c.reserve.ensures.items)
          ∙ reads_added (has_number (s.last + 1)) new items none same,
      c.in-Ok.ensures.begins,
    )

pub invariant_of-self-2-clause-rising : goal.invariant_of-self-2-clause-rising
invariant_of-self-2-clause-rising c =
    let s = c.args.self.now in
    let items = s.seats.items in
    let next : s.last + 1 ≡ suc s.last = omega arith in
    let new : code.Seat = record { number = s.last + 1; place = places.Leased c.args.lease; connection = c.in-Ok.connection } in
    subst (λ (n : ℕ). RiseFrom 0 (numbers_in c.push_reserved.new.self.items) (suc n)) (sym next)
    (subst (λ (cs : List code.Seat). RiseFrom 0 (numbers_in cs) (suc (suc s.last))) (sym (c.push_reserved.ensures.items ∙ ap (λ (cs : List code.Seat). cs ++ new ∷ []) c.reserve.ensures.items))
    (added 0 items new (suc s.last) s.rising next))

pub add-requires-clause-newest : goal.add-requires-clause-newest
add-requires-clause-newest c =
    let s = c.args.self.now in
    subst (λ (es : List Indexed). RiseFrom 0 (ids_in es) c.args.lease) (sym c.reserve-2.ensures.items) (newest_of s c.args.lease c.requires)

pub add-requires-clause-room : goal.add-requires-clause-room
add-requires-clause-room c =
    let s = c.args.self.now in
    let same : length c.reserve-2.new.index.items ≡ length s.index.items = ap (λ (es : List Indexed). length es) c.reserve-2.ensures.items in
    let few : length s.index.items ≤ length s.seats.items = few_ids s in
    let room : suc (length s.seats.items) ≤ vec_capacity c.reserve-2.new.index = first_of (search rules, omega arith) in
    omega (arith, same, few, room)

pub invariant_of-self-2-clause-indexed : goal.invariant_of-self-2-clause-indexed
invariant_of-self-2-clause-indexed c =
    let s = c.args.self.now in
    let new : code.Seat = record { number = s.last + 1; place = places.Leased c.args.lease; connection = c.in-Ok.connection } in
    let next : s.last + 1 ≡ suc s.last = omega arith in
    let room : suc (length s.seats.items) ≤ vec_capacity c.reserve-2.new.index = first_of (search rules, omega arith) in
    opened_index s new c.push_reserved.new.self.items c.args.lease (vec_capacity c.add.new.index) c.reserve-2.new.index.items c.add.new.index.items
    (c.push_reserved.ensures.items ∙ ap (λ (cs : List code.Seat). cs ++ new ∷ []) c.reserve.ensures.items) next refl c.requires
    (subst (λ (n : ℕ). suc (length s.seats.items) ≤ n) (sym c.add.ensures.capacity) room) c.reserve-2.ensures.items c.add.ensures.adds
