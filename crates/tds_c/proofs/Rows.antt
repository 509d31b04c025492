-- Rows in one run.
use Rattle.std.proofs.Common.{◌≡◌, ℕ, ℤ, List, length, drop, Option, Some, Ok}
use Rattle.tds_token.specs.Runs.{NoRow, row_tokens}
use Rattle.tds_token.specs.Runs as runs
use Rattle.tds_c.specs.declared.tokens.TdsCursor.{TdsCursor}
use Rattle.tds_c.specs.declared.tokens.TdsRows.{TdsRows}
use Rattle.tds_c.specs.Plain.{columns_from}
use Rattle.tds_c.specs.Tokens.{ReadsRows, RunsUnder, StandsAt}

pub as_rows : (content : List ℕ) (old new : TdsCursor) (before after : TdsRows) (columns : Option ℕ) → columns_from old.columns ≡ Some columns → RunsUnder columns content old new after → ReadsRows content old new before after (Ok tt)
as_rows content old new before after columns known run = rw known run

-- a run goes on under the same columns
pub is_run : (content : List ℕ) (old : TdsCursor) (columns behind : Option ℕ) (left : List ℕ) (values : List (List ℤ)) (new : TdsCursor) (rows : TdsRows) → behind ≡ columns
    → runs.GivesInTurn (record { bytes = drop old.at content; columns = columns }) (row_tokens values) (record { bytes = left; columns = behind })
    → NoRow behind left → StandsAt new content left behind → rows.start ≡ old.at → rows.count ≡ length values → rows.columns ≡ old.columns
    → RunsUnder columns content old new rows
is_run content old columns behind left values new rows same turn all stands start count width =
    (values, left, rw same at turn, rw same at all, rw same at stands, start, count, width)
