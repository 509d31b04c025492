use Rattle.std.proofs.Common.{◌≡◌, ◌-◌, ◌≤◌, length}
use Rattle.tds_c.specs.Tokens.{HasRun}
use Rattle.tds_c.proofs.tokens.run.Given as goal

abbrev pub invariant-tokens : goal.invariant-tokens
invariant-tokens l = record {
  run : HasRun l.data l.fn.cursor l.place (record { before = l.fn.tokens; after = l.tokens; count = l.read });
  same : length l.tokens ≡ length l.fn.tokens;
  within : l.read ≤ length l.fn.tokens;
}

abbrev pub decreases-tokens : goal.decreases-tokens
decreases-tokens l = length l.tokens - l.read
