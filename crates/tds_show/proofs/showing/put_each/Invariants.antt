use Rattle.std.proofs.Common.{◌+◌, length}
use Rattle.tds_show.proofs.showing.put_each.Given as goal

abbrev pub decreases-packets : goal.decreases-packets
decreases-packets l = length l.reader.taken + length l.rest
