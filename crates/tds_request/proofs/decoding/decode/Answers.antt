use Rattle.std.proofs.Common.{arith}
use Rattle.tds_request.proofs.Decoded.{found_by, only_by, memory_by}
use Rattle.tds_request.proofs.decoding.decode.Goals as goal

pub returns-clause-found : goal.returns-clause-found
returns-clause-found c = found_by c.message.result c.args.kind c.args.bytes.now (λ i. omega (arith, c.type_inv.bytes i)) c.message.ensures.exact

pub returns-clause-only : goal.returns-clause-only
returns-clause-only c = λ descriptor request is. only_by c.message.result c.args.kind c.args.bytes.now descriptor request c.message.ensures.exact is

pub returns-clause-memory : goal.returns-clause-memory
returns-clause-memory c = λ e. memory_by c.message.result c.args.kind c.args.bytes.now (λ i. omega (arith, c.type_inv.bytes i)) c.message.ensures.exact e
