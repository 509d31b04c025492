use Rattle.std.proofs.Common.{length, drop, ◌-◌, ◌≡◌, ◌≤◌}
use Rattle.tds_listen.specs.Hearing.{heard_data}
use Rattle.tds_listen.proofs.hearing.hear_data.Given as goal

-- what is left does what all of it is to do
abbrev pub invariant-tokens : goal.invariant-tokens
invariant-tokens l = record {
  does : heard_data l.fn.client l.fn.parser l.bytes ≡ heard_data l.client l.parser (drop l.done l.bytes);
  within : l.done ≤ length l.bytes;
}

abbrev pub decreases-tokens : goal.decreases-tokens
decreases-tokens l = length l.bytes - l.done
