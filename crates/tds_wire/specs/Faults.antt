-- The numbers of the faults.
use Rattle.std.specs.Prelude.{ℕ}
use Rattle.tds_wire.specs.declared.fault.WireFault.{WireFault}
use Rattle.tds_wire.specs.declared.fault.WireFault.TheVariants.{UnknownToken, NoColumns, UnknownType, ManyColumns}

abbrev pub fault_number : WireFault → ℕ
fault_number UnknownToken = 1
fault_number NoColumns = 2
fault_number UnknownType = 3
fault_number ManyColumns = 4
