use Rattle.std.proofs.Common.{◌<◌, ◌∙◌, None, ap, length}
use Rattle.tds_pool.specs.Connections.{connections, numbered}
use Rattle.slab.specs.Slab.{Updates}
use Rattle.tds_pool.specs.Fields.{state_of}
use Rattle.tds_numbers.specs.Table.{key_at, number_at}
use Rattle.tds_pool.proofs.Seats.{key_here}
use Rattle.tds_pool.proofs.Taken.{pool_without, connections_without, gone}
use Rattle.tds_pool.proofs.pool.Pool.take_out.Goals as goal

pub invariant_of-self : goal.invariant_of-self
invariant_of-self c =
    let lt : c.args.place < length c.self.inside.numbers = rw (← c.self.view_is) at c.requires in
    let u : Updates c.self.inside.seats c.try_remove.new.self (key_at c.self.inside.numbers c.args.place) None = rw c.key.ensures at c.try_remove.ensures.updates in
    rw c.remove.ensures (pool_without (state_of c.self.inside) c.self.invariant c.try_remove.new.self _ (number_at c.self.inside.numbers c.args.place) u (key_here (state_of c.self.inside) c.self.invariant c.args.place lt))

pub returns-clause-shown : goal.returns-clause-shown
returns-clause-shown c =
    let lt : c.args.place < length c.self.inside.numbers = rw (← c.self.view_is) at c.requires in
    let u : Updates c.self.inside.seats c.try_remove.new.self (key_at c.self.inside.numbers c.args.place) None = rw c.key.ensures at c.try_remove.ensures.updates in
    rw (← c.self.view_is, c.remove.ensures) (connections_without (state_of c.self.inside) c.self.invariant c.try_remove.new.self _ (number_at c.self.inside.numbers c.args.place) u (key_here (state_of c.self.inside) c.self.invariant c.args.place lt))

pub returns-clause-gone : goal.returns-clause-gone
returns-clause-gone c =
    let lt : c.args.place < length c.self.inside.numbers = rw (← c.self.view_is) at c.requires in
    let u : Updates c.self.inside.seats c.try_remove.new.self (key_at c.self.inside.numbers c.args.place) None = rw c.key.ensures at c.try_remove.ensures.updates in
    let n = number_at c.self.inside.numbers c.args.place in
    let out = connections_without (state_of c.self.inside) c.self.invariant c.try_remove.new.self _ n u (key_here (state_of c.self.inside) c.self.invariant c.args.place lt) in
    rw (← c.self.view_is, c.remove.ensures) (ap (numbered n) out ∙ gone n (connections (state_of c.self.inside)))
