use Rattle.std.proofs.Common.{refl, sym}
use Rattle.tds_pool.proofs.Seats.{pool_reseated}
use Rattle.tds_pool.proofs.pool.Pool.lend.Goals as goal

pub invariant_of-self-lent : goal.invariant_of-self-lent
invariant_of-self-lent c w = pool_reseated _ c.args.key c.in_ok-seat.seat.now _ c.self.invariant (sym c.in_ok-seat.ensures.value) refl
