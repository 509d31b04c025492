use Rattle.std.proofs.Common.{◌≡◌, ℕ, Some, refl, sym, ap}
use Rattle.slab.specs.Slab.{get}
use Rattle.tds_client.specs.Session.{ClientSession}
use Rattle.tds_pool.specs.declared.seat.Place.{Place}
use Rattle.tds_pool.specs.declared.seat.Place.TheVariants.{Cleaning}
use Rattle.tds_pool.specs.declared.seat.Seat.{Seat}
use Rattle.tds_pool.specs.Connections.{Connection}
use Rattle.tds_pool.specs.Fields.{state_of}
use Rattle.tds_pool.specs.Calls.{asks_reset, behind_refusal}
use Rattle.tds_pool.proofs.Seats.{pool_reseated, connections_reseated}
use Rattle.tds_pool.proofs.pool.Pool.start_cleaning.Goals as goal

-- a connection at this place, whose client is another
abbrev seated_at : Seat → ℕ → Place → ClientSession → Connection
seated_at seat key place client = record { number = seat.number; key = key; turn = seat.turn; place = place; client = client }

pub invariant_of-self-2 : goal.invariant_of-self-2
invariant_of-self-2 c = pool_reseated (state_of c.self.inside) c.args.key c.in-Some.seat.now _ c.self.invariant (sym c.in-Some.ensures.value) refl

pub invariant_of-self-in-Err : goal.invariant_of-self-in-Err
invariant_of-self-in-Err c = pool_reseated (state_of c.self.inside) c.args.key c.in-Some.seat.now _ c.self.invariant (sym c.in-Some.ensures.value) refl

pub returns-in-Err-clause-err : goal.returns-in-Err-clause-err
returns-in-Err-clause-err c =
    let there : get c.self.inside.seats c.args.key ≡ Some c.in-Some.seat.now = sym c.in-Some.ensures.value in
    rw (← c.self.view_is, there) (connections_reseated (state_of c.self.inside) c.self.invariant c.args.key c.in-Some.seat.now (record { number = c.in-Some.seat.now.number; turn = c.in-Some.seat.now.turn; place = c.in-Some.seat.now.place; client = c.start_reset.new.client }) there (λ d. record d { client = behind_refusal c.in-Err.refusal d.client }) (ap (seated_at c.in-Some.seat.now c.args.key c.in-Some.seat.now.place) (sym c.in-Err.ensures.err)))

pub returns-clause-shown : goal.returns-clause-shown
returns-clause-shown c =
    let there : get c.self.inside.seats c.args.key ≡ Some c.in-Some.seat.now = sym c.in-Some.ensures.value in
    rw (← c.self.view_is, there) (connections_reseated (state_of c.self.inside) c.self.invariant c.args.key c.in-Some.seat.now (record { number = c.in-Some.seat.now.number; turn = c.in-Some.seat.now.turn; place = Cleaning; client = c.start_reset.new.client }) there (λ d. record d { place = Cleaning; client = asks_reset d.client c.args.request.now }) (ap (seated_at c.in-Some.seat.now c.args.key Cleaning) (sym c.in_default-start_reset.ensures.asked)))
