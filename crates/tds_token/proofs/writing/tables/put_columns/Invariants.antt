use Rattle.std.proofs.Common.{◌≡◌, ◌++◌, ◌∷◌, length, take}
use Rattle.std.specs.Int.{w16, to_le_bytes}
use Rattle.std.specs.List.{flat_map, AllByRecursion}
use Rattle.tds_token.specs.Layout.{RangedColumn, column_bytes}
use Rattle.tds_token.proofs.writing.tables.put_columns.Given as goal

abbrev pub invariant-columns : goal.invariant-columns
invariant-columns l =
    (l.out.items ≡ l.fn.out.items ++ 129 ∷ (to_le_bytes w16 (length l.columns) ++ flat_map column_bytes (take l.column-index l.columns)))
    × AllByRecursion RangedColumn (take l.column-index l.columns)
