-- The numbers of the faults.
use Rattle.std.specs.Prelude.{ℕ}
use Rattle.tds_rows.specs.declared.place.RowFault.{RowFault}
use Rattle.tds_rows.specs.declared.place.RowFault.TheVariants.{Short, OtherToken, NoColumns, UnknownType, NoRoom}

abbrev pub row_fault_number : RowFault → ℕ
row_fault_number Short = 1
row_fault_number OtherToken = 71
row_fault_number NoColumns = 72
row_fault_number UnknownType = 73
row_fault_number NoRoom = 74
