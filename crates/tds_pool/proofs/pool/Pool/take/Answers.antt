use Rattle.std.proofs.Common.{◌≡◌}
use Rattle.std.specs.Prelude.{IsSome}
use Rattle.tds_pool.specs.Cleaning.{client_at}
use Rattle.tds_pool.specs.Connections.{connections, numbered}
use Rattle.tds_pool.specs.Lends.{with_client_numbered}
use Rattle.tds_pool.proofs.Carrying.{client_there, client_then, client_was, takes_by}
use Rattle.tds_pool.proofs.pool.Pool.take.Goals as goal

pub returns-clause-taken : goal.returns-clause-taken
returns-clause-taken c =
    let cs = connections c.args.self.now in
    let there : IsSome (numbered c.args.number cs) = client_there c.args.number cs c.in-Some.client.now c.in-Some.ensures.value in
    let was : client_at c.args.number cs ≡ c.in-Some.client.now = client_was c.args.number cs c.in-Some.client.now c.in-Some.ensures.value in
    let then : client_at c.args.number (connections (with_client_numbered c.args.self.now c.args.number c.take.new.self)) ≡ c.take.new.self =
    client_then c.args.number cs _ c.take.new.self there (c.client_of.ensures.writes c.take.new.self there) in
    takes_by c.take.result c.args.packet c.in-Some.client.now c.take.new.self _ _ _ _ was then c.take.ensures.taken

pub returns-clause-broken : goal.returns-clause-broken
returns-clause-broken c =
    let cs = connections c.args.self.now in
    let there : IsSome (numbered c.args.number cs) = client_there c.args.number cs c.in-Some.client.now c.in-Some.ensures.value in
    let was : client_at c.args.number cs ≡ c.in-Some.client.now = client_was c.args.number cs c.in-Some.client.now c.in-Some.ensures.value in
    let then : client_at c.args.number (connections (with_client_numbered c.args.self.now c.args.number c.take.new.self)) ≡ c.take.new.self =
    client_then c.args.number cs _ c.take.new.self there (c.client_of.ensures.writes c.take.new.self there) in
    rw (was, then) c.take.ensures.broken

pub returns-clause-shown : goal.returns-clause-shown
returns-clause-shown c =
    let cs = connections c.args.self.now in
    let there : IsSome (numbered c.args.number cs) = client_there c.args.number cs c.in-Some.client.now c.in-Some.ensures.value in
    let writes = c.client_of.ensures.writes c.take.new.self there in
    let then : client_at c.args.number (connections (with_client_numbered c.args.self.now c.args.number c.take.new.self)) ≡ c.take.new.self =
    client_then c.args.number cs _ c.take.new.self there writes in
    rw (then) writes
