use Rattle.std.proofs.Common.{length}
use Rattle.proxy_header.proofs.reader.HeaderReader.+take.Given as goal

-- each time a byte at least is taken
abbrev pub decreases-take : goal.decreases-take
decreases-take l = length l.piece.now
