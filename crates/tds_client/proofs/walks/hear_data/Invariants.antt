use Rattle.std.proofs.Common.{length}
use Rattle.tds_token.specs.Contents.{contents_of}
use Rattle.tds_client.proofs.Walking.{Hears}
use Rattle.tds_client.proofs.walks.hear_data.Given as goal

abbrev pub invariant-tokens : goal.invariant-tokens
invariant-tokens l = Hears l.cancelling l.heard (contents_of l.tokens.columns l.tokens.bytes) l.fn.heard (contents_of l.fn.columns l.data)

abbrev pub decreases-tokens : goal.decreases-tokens
decreases-tokens l = length l.tokens.bytes
