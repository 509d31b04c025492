use Rattle.std.proofs.Common.{length}
use Rattle.proxy_header.proofs.header.+begins_so.Given as goal

-- proposed from what the function passes where it calls itself
abbrev pub decreases-begins_so : goal.decreases-begins_so
decreases-begins_so l = length l.beginning.now
