use Rattle.std.proofs.Common.{◌≡◌, ℕ, Some, refl, sym, ap}
use Rattle.slab.specs.Slab.{get}
use Rattle.tds_client.specs.Sending.{cancelled}
use Rattle.tds_client.specs.Session.{ClientSession}
use Rattle.tds_pool.specs.declared.seat.Seat.{Seat}
use Rattle.tds_pool.specs.Connections.{Connection}
use Rattle.tds_pool.specs.Calls.{session_behind}
use Rattle.tds_pool.specs.Fields.{state_of}
use Rattle.tds_pool.proofs.Seats.{pool_reseated, connections_reseated}
use Rattle.tds_pool.proofs.Results.{on_ok}
use Rattle.tds_pool.proofs.pool.Pool.cancel.Goals as goal

-- a connection whose client is another
abbrev seated_at : Seat → ℕ → ClientSession → Connection
seated_at seat key client = record { number = seat.number; key = key; turn = seat.turn; place = seat.place; client = client }

pub invariant_of-self-2 : goal.invariant_of-self-2
invariant_of-self-2 c = pool_reseated (state_of c.self.inside) c.args.key c.in-Some.seat.now _ c.self.invariant (sym c.in-Some.ensures.value) refl

pub returns-clause-shown : goal.returns-clause-shown
returns-clause-shown c =
    let there : get c.self.inside.seats c.args.key ≡ Some c.in-Some.seat.now = sym c.in-Some.ensures.value in
    let after = session_behind (cancelled c.in-Some.seat.now.client) c.in-Some.seat.now.client in
    on_ok c.cancel.result _ _ (λ e. rw (← c.self.view_is, there) (connections_reseated (state_of c.self.inside) c.self.invariant c.args.key c.in-Some.seat.now (record { number = c.in-Some.seat.now.number; turn = c.in-Some.seat.now.turn; place = c.in-Some.seat.now.place; client = c.cancel.new.client }) there (λ d. record d { client = after }) (ap (seated_at c.in-Some.seat.now c.args.key) (sym e)))) c.cancel.ensures.ok
