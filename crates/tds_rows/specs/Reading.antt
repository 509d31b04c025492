-- What a reader of fields gives, as the layout has it.
use Rattle.std.specs.Prelude.{◌≡◌, ℕ, List, Result, Ok, Err}
use Rattle.tds_wire.specs.declared.fault.WireFault.TheVariants as wire
use Rattle.tds_wire.specs.Layout.{Read, Got, Short, Wrong}
use Rattle.tds_rows.specs.declared.place.RowFault.{RowFault}
use Rattle.tds_rows.specs.declared.place.RowFault.TheVariants as fault

-- the bytes end first, or a type is unknown
abbrev pub Fails : {Y : Type 0} → RowFault → Read Y → Type 0
Fails fault.Short read = read ≡ Short
Fails fault.UnknownType read = (rest : List ℕ) × (read ≡ Wrong wire.UnknownType rest)
Fails fault.OtherToken read = ⊥
Fails fault.NoColumns read = ⊥
Fails fault.NoRoom read = ⊥

-- what was read, by its value and by the bytes that are left
abbrev pub Gives : {X Y : Type 0} → (X → Y) → (X → List ℕ) → Result X RowFault → Read Y → Type 0
Gives value rest (Ok x) read = read ≡ Got (value x) (rest x)
Gives value rest (Err e) read = Fails e read
