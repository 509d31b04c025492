use Rattle.std.proofs.Common.{◌≡◌, drop}
use Rattle.tds_relay.specs.Core.{is_in}
use Rattle.tds_relay.proofs.pool.lists.has_key.Given as goal

abbrev pub invariant-loop-waits : goal.invariant-loop-waits
invariant-loop-waits l = is_in l.key (drop l.waits-index l.line) ≡ is_in l.key l.line
