use Rattle.std.proofs.Common.{◌≡◌, Some, refl, sym}
use Rattle.slab.specs.Slab.{get}
use Rattle.tds_client.specs.Session.{marked}
use Rattle.tds_pool.specs.declared.seat.Place.TheVariants.{Leased}
use Rattle.tds_pool.specs.Fields.{state_of}
use Rattle.tds_pool.proofs.Seats.{pool_reseated, connections_reseated}
use Rattle.tds_pool.proofs.pool.Pool.lend_again.Goals as goal

pub invariant_of-self-2 : goal.invariant_of-self-2
invariant_of-self-2 c = pool_reseated (state_of c.self.inside) c.args.key c.in-Some.seat.now _ c.self.invariant (sym c.in-Some.ensures.value) refl

pub returns-clause-shown : goal.returns-clause-shown
returns-clause-shown c =
    let there : get c.self.inside.seats c.args.key ≡ Some c.in-Some.seat.now = sym c.in-Some.ensures.value in
    let marked_now : c.mark.new.client ≡ marked c.in-Some.seat.now.client c.args.reset = c.in_ok-mark.ensures.marked in
    rw (← c.self.view_is, there, marked_now) (connections_reseated (state_of c.self.inside) c.self.invariant c.args.key c.in-Some.seat.now (record { number = c.in-Some.seat.now.number; turn = c.in-Some.seat.now.turn; place = Leased; client = marked c.in-Some.seat.now.client c.args.reset }) there (λ d. record d { place = Leased; client = marked d.client c.args.reset }) refl)
