use Rattle.std.proofs.Common.{length}
use Rattle.tds_show.proofs.vectors.packet.tokens_again.Given as goal

abbrev pub decreases-tokens : goal.decreases-tokens
decreases-tokens l = length l.tokens.bytes
