use Rattle.std.proofs.Common.{◌≡◌, ◌+◌, ◌*◌, ◌-◌, ◌≤◌, length, List}
use Rattle.tds_c.specs.declared.tokens.TdsCursor.{TdsCursor}
use Rattle.tds_c.specs.declared.tokens.TdsToken.{TdsToken}
use Rattle.tds_c.specs.Tokens.{HasRun}
use Rattle.tds_c.proofs.tokens.fill_rows.Given as goal

abbrev pub invariant-rows : goal.invariant-rows
invariant-rows l = record {
  run : (first : TdsCursor) (room : List TdsToken) → length room ≡ length l.fn.tokens → HasRun l.data first l.fn.cursor (record { before = room; after = l.fn.tokens; count = l.fn.read })
      → HasRun l.data first (record { at = l.at; columns = l.columns }) (record { before = room; after = l.tokens; count = l.most - l.left });
  same : length l.tokens ≡ length l.fn.tokens;
  most : l.most ≤ length l.fn.tokens;
  on : l.fn.read + l.left ≤ l.most;
  fits : l.at + l.left * l.size ≤ length l.data;
}

abbrev pub decreases-rows : goal.decreases-rows
decreases-rows l = l.left
