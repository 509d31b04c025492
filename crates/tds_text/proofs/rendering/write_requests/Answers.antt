use Rattle.std.proofs.Common.{◌+◌, drop}
use Rattle.tds_text.specs.Lines.{request_block, request_blocks}
use Rattle.tds_text.proofs.Remaining.{requests_left}
use Rattle.tds_text.proofs.Writing.{one_more, ends_early, at_error}
use Rattle.tds_text.proofs.rendering.write_requests.Goals as goal

pub loop-index-preserved : goal.loop-index-preserved
loop-index-preserved g c =
    one_more _ _ _ (request_blocks 1 c.args.requests.now) (request_block (c.loop-index.index + 1) c.index-requests-index.result)
    (request_blocks (c.loop-index.index + 1 + 1) (drop (c.loop-index.index + 1) c.args.requests.now))
    (rw (requests_left c.args.requests.now c.loop-index.index c.index-requests-index.result c.loop-index-test.true c.index-requests-index.is) at c.loop-index.invariant)
    c.in_ok-write_request.ensures.ok

pub returns-in_err-write_request-clause-fault : goal.returns-in_err-write_request-clause-fault
returns-in_err-write_request-clause-fault g c =
    at_error c.from_residual.result (ends_early _ _ _ (request_blocks 1 c.args.requests.now) (request_block (c.loop-index.index + 1) c.index-requests-index.result)
    (request_blocks (c.loop-index.index + 1 + 1) (drop (c.loop-index.index + 1) c.args.requests.now))
    (rw (requests_left c.args.requests.now c.loop-index.index c.index-requests-index.result c.loop-index-test.true c.index-requests-index.is) at c.loop-index.invariant)
    c.in_err-write_request.ensures.fault)
