use Rattle.std.proofs.Common.{sym}
use Rattle.tds_pool.specs.Fields.{state_of}
use Rattle.tds_pool.proofs.Seats.{none_under, other_under, held_unknown, standing_found, standing_elsewhere, writes_under}
use Rattle.tds_pool.proofs.pool.Pool.held.Goals as goal

pub returns-in_err-seat-clause-unknown : goal.returns-in_err-seat-clause-unknown
returns-in_err-seat-clause-unknown c = rw (c.from_residual.ensures, ← c.self.view_is) (held_unknown (state_of c.self.inside) c.self.invariant c.args.key c.args.number (none_under c.self.inside.seats c.args.key c.args.number (sym c.in_err-seat.ensures)))

pub returns-clause-unknown : goal.returns-clause-unknown
returns-clause-unknown c = rw (← c.self.view_is) (held_unknown (state_of c.self.inside) c.self.invariant c.args.key c.args.number (other_under c.self.inside.seats c.args.key c.args.number c.in_ok-seat.seat.now (sym c.in_ok-seat.ensures) (c.has_number-same.ensures.other c.if-same.false)))

pub returns-then-same-clause-found : goal.returns-then-same-clause-found
returns-then-same-clause-found c = rw (← c.self.view_is) (standing_found (state_of c.self.inside) c.self.invariant c.args.key c.args.number c.in_ok-seat.seat.now (sym c.in_ok-seat.ensures) (c.has_number-same.ensures.same c.if-same.true))

pub returns-then-same-clause-elsewhere : goal.returns-then-same-clause-elsewhere
returns-then-same-clause-elsewhere c = rw (← c.self.view_is) (standing_elsewhere (state_of c.self.inside) c.self.invariant c.args.key c.args.number c.in_ok-seat.seat.now (sym c.in_ok-seat.ensures) (c.has_number-same.ensures.same c.if-same.true))

pub returns-then-same-clause-writes : goal.returns-then-same-clause-writes
returns-then-same-clause-writes c = rw (← c.self.view_is) (writes_under (state_of c.self.inside) c.self.invariant c.args.key c.args.number c.in_ok-seat.seat.now (sym c.in_ok-seat.ensures) (c.has_number-same.ensures.same c.if-same.true))
