-- What the exports tell of columns, and of the places of a row's values.
use Rattle.std.specs.Prelude.{◌≡◌, ℕ, ◌==◌, if◌then◌else◌, Option, Some, None, Result, Ok, Err}
use Rattle.tds_rows.specs.declared.place.Described.{Described}
use Rattle.tds_rows.specs.declared.place.RowFault.{RowFault}
use Rattle.tds_rows.specs.declared.place.RowsPlaced.{RowsPlaced}
use Rattle.tds_rows.specs.declared.come.Come.{Come}
use Rattle.tds_rows.specs.Faults.{row_fault_number}
use Rattle.tds_rows.specs.Pieces.{PartsAt, InLength, InCount, InPart, PartsOver, PartsNull, Beyond}

-- 2 where nothing is described, so that the columns that are known stay
abbrev pub described_number : Option ℕ → ℕ
described_number (Some n) = 0
described_number None = 2

abbrev pub described_count : Option ℕ → ℕ
described_count (Some n) = n
described_count None = 0

abbrev pub TellsColumns : Result Described RowFault → ℕ → ℕ → ℕ → Type 0
TellsColumns (Ok d) answer count taken = (answer ≡ described_number d.count) × (count ≡ described_count d.count) × (taken ≡ d.length)
TellsColumns (Err fault) answer count taken = (answer ≡ row_fault_number fault) × (count ≡ 0) × (taken ≡ 0)

abbrev pub TellsRow : Result ℕ RowFault → ℕ → ℕ → Type 0
TellsRow (Ok n) answer taken = (answer ≡ 0) × (taken ≡ n)
TellsRow (Err fault) answer taken = (answer ≡ row_fault_number fault) × (taken ≡ 0)

-- 0 where no byte is left behind rows
abbrev pub rows_number : Option RowFault → ℕ
rows_number (Some fault) = row_fault_number fault
rows_number None = 0

abbrev pub TellsRows : RowsPlaced → ℕ → ℕ → ℕ → Type 0
TellsRows found answer rows taken = (answer ≡ rows_number found.stop) × (rows ≡ found.rows) × (taken ≡ found.taken)

-- 1 where the value of a column isn't whole
abbrev pub come_number : ℕ → ℕ → ℕ
come_number next count = if next == count then 0 else 1

abbrev pub TellsCome : Result Come RowFault → ℕ → ℕ → ℕ → ℕ → Type 0
TellsCome (Ok c) count answer next taken = (answer ≡ come_number c.next count) × (next ≡ c.next) × (taken ≡ c.taken)
TellsCome (Err fault) count answer next taken = (answer ≡ row_fault_number fault) × (next ≡ 0) × (taken ≡ 0)

-- a value in parts: 0 it is over, 2 it is over and null, 1 more is to come
abbrev pub parts_number : PartsAt → ℕ
parts_number (InLength seen ones) = 1
parts_number (InCount came) = 1
parts_number (InPart left) = 1
parts_number PartsOver = 0
parts_number PartsNull = 2
parts_number Beyond = 0
