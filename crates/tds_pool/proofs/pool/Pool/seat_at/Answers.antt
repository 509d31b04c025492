use Rattle.std.proofs.Common.{◌≡◌, ◌<◌, ◌∙◌, length, sym, ap, None, Some}
use Rattle.slab.specs.Slab.{get}
use Rattle.tds_pool.specs.Fields.{state_of}
use Rattle.tds_numbers.specs.Table.{key_at}
use Rattle.tds_pool.proofs.Seats.{none_at, number_here, numbered_here, next_shown}
use Rattle.tds_pool.proofs.pool.Pool.seat_at.Goals as goal

pub unreachable-requires : goal.unreachable-requires
unreachable-requires c =
    let lt : c.args.place < length c.self.inside.numbers = rw (← c.self.view_is) at c.requires in
    let none : get c.self.inside.seats (key_at c.self.inside.numbers c.args.place) ≡ None = ap (get c.self.inside.seats) (sym c.key.ensures) ∙ sym c.in-None.ensures in
    none_at (state_of c.self.inside) c.self.invariant c.args.place lt none

pub returns-clause-number : goal.returns-clause-number
returns-clause-number c =
    let lt : c.args.place < length c.self.inside.numbers = rw (← c.self.view_is) at c.requires in
    let some : get c.self.inside.seats (key_at c.self.inside.numbers c.args.place) ≡ Some c.in-Some.seat.now = ap (get c.self.inside.seats) (sym c.key.ensures) ∙ sym c.in-Some.ensures in
    rw (← c.self.view_is) (number_here (state_of c.self.inside) c.self.invariant c.args.place c.in-Some.seat.now lt some)

pub returns-clause-shown : goal.returns-clause-shown
returns-clause-shown c =
    let some : get c.self.inside.seats (key_at c.self.inside.numbers c.args.place) ≡ Some c.in-Some.seat.now = ap (get c.self.inside.seats) (sym c.key.ensures) ∙ sym c.in-Some.ensures in
    rw (← c.self.view_is) (numbered_here (state_of c.self.inside) c.self.invariant (key_at c.self.inside.numbers c.args.place) c.in-Some.seat.now some)

pub returns-clause-next : goal.returns-clause-next
returns-clause-next c =
    let lt : c.args.place < length c.self.inside.numbers = rw (← c.self.view_is) at c.requires in
    let some : get c.self.inside.seats (key_at c.self.inside.numbers c.args.place) ≡ Some c.in-Some.seat.now = ap (get c.self.inside.seats) (sym c.key.ensures) ∙ sym c.in-Some.ensures in
    rw (← c.self.view_is) (next_shown (state_of c.self.inside) c.self.invariant c.args.place c.in-Some.seat.now lt some)
