-- The number of each fault.
use Rattle.std.specs.Prelude.{ℕ}
use Rattle.tds_front.specs.declared.fault.FrontFault.{FrontFault}
use Rattle.tds_front.specs.declared.fault.FrontFault.TheVariants as faults

abbrev pub fault_number : FrontFault → ℕ
fault_number faults.UnknownType = 1
fault_number faults.WrongStatus = 2
fault_number faults.WrongLength = 3
fault_number faults.EmptyPart = 4
fault_number faults.RequestWhileAnswering = 5
fault_number faults.TypeChanged = 6
fault_number faults.BothResets = 7
fault_number faults.WrongAttention = 8
fault_number faults.IgnoredPart = 9
fault_number faults.SecondAttention = 10
fault_number faults.WrongHeaders = 11
