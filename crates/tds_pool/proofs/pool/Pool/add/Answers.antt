use Rattle.std.proofs.Common.{◌≡◌, ◌<◌, ◌∙◌, suc, length, Some, sym, refl}
use Rattle.slab.specs.Slab.{Updates}
use Rattle.tds_client.specs.Session.{new_session}
use Rattle.tds_pool.specs.declared.seat.Place.TheVariants.{Leased}
use Rattle.tds_pool.specs.declared.seat.Seat.{Seat}
use Rattle.tds_pool.specs.Connections.{PoolState, IsPool, first_turn}
use Rattle.tds_pool.specs.Fields.{state_of}
use Rattle.tds_pool.proofs.Results.{any_err}
use Rattle.tds_pool.proofs.Seats.{pool_grown}
use Rattle.tds_pool.proofs.Taken.{pool_more, connections_more}
use Rattle.tds_pool.proofs.pool.Pool.add.Goals as goal

pub invariant_of-self : goal.invariant_of-self
invariant_of-self c = rw c.reserve.ensures.rest_kept (pool_grown (state_of c.self.inside) c.reserve.new.self.capacity c.self.invariant)

pub returns-in_err-reserve-clause-err : goal.returns-in_err-reserve-clause-err
returns-in_err-reserve-clause-err c = rw (← c.self.view_is, c.reserve.ensures.rest_kept) (any_err c.from_residual.result _ (refl, record { name = refl; max = refl; size = refl; last = refl }))

pub invariant_of-self-in_err-push : goal.invariant_of-self-in_err-push
invariant_of-self-in_err-push c = rw (c.in_err-push.ensures.err, c.reserve.ensures.rest_kept) (pool_grown (state_of c.self.inside) c.reserve.new.self.capacity c.self.invariant)

pub returns-in_err-push-clause-err : goal.returns-in_err-push-clause-err
returns-in_err-push-clause-err c = rw (← c.self.view_is, c.in_err-push.ensures.err, c.reserve.ensures.rest_kept) (any_err c.from_residual-in_err-push.result _ (refl, record { name = refl; max = refl; size = refl; last = refl }))

pub invariant_of-self-2 : goal.invariant_of-self-2
invariant_of-self-2 c =
    let seat : Seat = record { number = c.args.number; turn = first_turn c.self.inside.name; place = Leased; client = c.new.result } in
    let grown : PoolState = record (state_of c.self.inside) { seats = c.reserve.new.self } in
    let pool : IsPool grown = rw c.reserve.ensures.rest_kept (pool_grown (state_of c.self.inside) c.reserve.new.self.capacity c.self.invariant) in
    let same : c.insert_reserved.result ≡ c.vacant_key-key.result = c.insert_reserved.ensures.key ∙ sym c.vacant_key-key.ensures.value in
    let u : Updates c.reserve.new.self c.insert_reserved.new.self c.vacant_key-key.result (Some seat) = rw same at c.insert_reserved.ensures.updates in
    let next : c.args.number ≡ suc c.self.inside.last = rw (← c.self.view_is) at c.requires.next in
    let room : length c.self.inside.numbers < c.self.inside.max = rw (← c.self.view_is) at c.requires.room in
    rw c.in_ok-push.ensures.ok (pool_more grown pool c.insert_reserved.new.self c.vacant_key-key.result seat u c.vacant_key-key.ensures.vacant next room)

pub returns-clause-new : goal.returns-clause-new
returns-clause-new c =
    let seat : Seat = record { number = c.args.number; turn = first_turn c.self.inside.name; place = Leased; client = new_session c.self.inside.size } in
    let grown : PoolState = record (state_of c.self.inside) { seats = c.reserve.new.self } in
    let pool : IsPool grown = rw c.reserve.ensures.rest_kept (pool_grown (state_of c.self.inside) c.reserve.new.self.capacity c.self.invariant) in
    let same : c.insert_reserved.result ≡ c.vacant_key-key.result = c.insert_reserved.ensures.key ∙ sym c.vacant_key-key.ensures.value in
    let u : Updates c.reserve.new.self c.insert_reserved.new.self c.vacant_key-key.result (Some seat) = rw (same, c.new.ensures) at c.insert_reserved.ensures.updates in
    let next : c.args.number ≡ suc c.self.inside.last = rw (← c.self.view_is) at c.requires.next in
    let room : length c.self.inside.numbers < c.self.inside.max = rw (← c.self.view_is) at c.requires.room in
    let more = connections_more grown pool c.insert_reserved.new.self c.vacant_key-key.result seat u c.vacant_key-key.ensures.vacant next room in
    rw (← c.self.view_is, c.in_ok-push.ensures.ok) (rw c.reserve.ensures.rest_kept at more)
