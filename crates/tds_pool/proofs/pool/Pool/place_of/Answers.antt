use Rattle.tds_pool.specs.Fields.{state_of}
use Rattle.tds_pool.proofs.Seats.{absent_shown, absent_taken, found_shown}
use Rattle.tds_pool.proofs.pool.Pool.place_of.Goals as goal

pub returns-clause-found : goal.returns-clause-found
returns-clause-found c = rw (← c.self.view_is) (found_shown (state_of c.self.inside) c.args.number c.place_of.result c.place_of.ensures.found)

pub returns-clause-unknown : goal.returns-clause-unknown
returns-clause-unknown c = rw (← c.self.view_is) (absent_shown (state_of c.self.inside) c.args.number c.place_of.result c.place_of.ensures.absent)

pub returns-clause-unchanged : goal.returns-clause-unchanged
returns-clause-unchanged c = rw (← c.self.view_is) (absent_taken (state_of c.self.inside) c.args.number c.place_of.result c.place_of.ensures.absent)
