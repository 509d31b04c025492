-- A client that is lent.
use Rattle.std.specs.Prelude.{ℕ, Option, Some, None}
use Rattle.std.specs.Borrow.{LendsIf, Fml, MutBor}
use Rattle.slab.specs.Slab.{get}
use Rattle.tds_client.specs.Session.{ClientSession}
use Rattle.tds_pool.specs.Connections.{PoolState, reseated, seat_or_none}
use Rattle.tds_numbers.specs.Table.{key_of}
use Rattle.tds_pool.specs.contracts.pool.Pool.{the_row}
use Rattle.tds_client.specs.contracts.client.Client.{the_row as client_row}

-- the pool with this client under a key
abbrev pub with_client_under : PoolState → ℕ → ClientSession → PoolState
with_client_under p key client = reseated p key (record (seat_or_none (get p.seats key)) { client = client })

-- once the borrow ends, the key has the client that was left
abbrev pub LendsClient : MutBor PoolState → ℕ → Option (MutBor ClientSession) → Fml
LendsClient p key r = LendsIf the_row client_row p r (with_client_under p.now key) p.now

-- the same of the connection of a number
abbrev pub key_or_zero : Option ℕ → ℕ
key_or_zero None = 0
key_or_zero (Some key) = key

abbrev pub with_client_numbered : PoolState → ℕ → ClientSession → PoolState
with_client_numbered p number client = with_client_under p (key_or_zero (key_of p.entries number)) client

abbrev pub LendsNumbered : MutBor PoolState → ℕ → Option (MutBor ClientSession) → Fml
LendsNumbered p number r = LendsIf the_row client_row p r (with_client_numbered p.now number) p.now
