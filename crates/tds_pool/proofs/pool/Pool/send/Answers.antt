use Rattle.std.proofs.Common.{◌≡◌}
use Rattle.std.specs.Prelude.{IsSome}
use Rattle.tds_pool.specs.Cleaning.{client_at}
use Rattle.tds_pool.specs.Connections.{connections, numbered}
use Rattle.tds_pool.specs.Lends.{with_client_numbered}
use Rattle.tds_pool.proofs.Carrying.{client_there, client_then, client_was, sends_by}
use Rattle.tds_pool.proofs.Results.{both_err}
use Rattle.tds_pool.proofs.pool.Pool.send.Goals as goal

pub returns-clause-ok : goal.returns-clause-ok
returns-clause-ok c =
    let cs = connections c.args.self.now in
    let there : IsSome (numbered c.args.number cs) = client_there c.args.number cs c.in-Some.client.now c.in-Some.ensures.value in
    let was : client_at c.args.number cs ≡ c.in-Some.client.now = client_was c.args.number cs c.in-Some.client.now c.in-Some.ensures.value in
    let then : client_at c.args.number (connections (with_client_numbered c.args.self.now c.args.number c.send.new.self)) ≡ c.send.new.self =
    client_then c.args.number cs _ c.send.new.self there (c.client_of.ensures.writes c.send.new.self there) in
    sends_by c.send.result c.in-Some.client.now c.send.new.self _ _ _ _ was then c.send.ensures.ok

pub returns-clause-err : goal.returns-clause-err
returns-clause-err c =
    let cs = connections c.args.self.now in
    let there : IsSome (numbered c.args.number cs) = client_there c.args.number cs c.in-Some.client.now c.in-Some.ensures.value in
    let was : client_at c.args.number cs ≡ c.in-Some.client.now = client_was c.args.number cs c.in-Some.client.now c.in-Some.ensures.value in
    let then : client_at c.args.number (connections (with_client_numbered c.args.self.now c.args.number c.send.new.self)) ≡ c.send.new.self =
    client_then c.args.number cs _ c.send.new.self there (c.client_of.ensures.writes c.send.new.self there) in
    rw (was, then) (both_err c.send.result _ _ c.send.ensures.err c.send.ensures.nothing)

pub returns-clause-shown : goal.returns-clause-shown
returns-clause-shown c =
    let cs = connections c.args.self.now in
    let there : IsSome (numbered c.args.number cs) = client_there c.args.number cs c.in-Some.client.now c.in-Some.ensures.value in
    let writes = c.client_of.ensures.writes c.send.new.self there in
    let then : client_at c.args.number (connections (with_client_numbered c.args.self.now c.args.number c.send.new.self)) ≡ c.send.new.self =
    client_then c.args.number cs _ c.send.new.self there writes in
    rw (then) writes
