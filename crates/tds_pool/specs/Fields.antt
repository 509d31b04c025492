-- The fields of a pool.
use Rattle.tds_pool.specs.declared.pool.Pool.TheInside.{Inside}
use Rattle.tds_pool.specs.Connections.{PoolState}

abbrev pub state_of : Inside → PoolState
state_of a = record { name = a.name; max = a.max; size = a.size; last = a.last; entries = a.numbers; seats = a.seats }
