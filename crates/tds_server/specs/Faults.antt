-- The numbers of the faults.
use Rattle.std.specs.Prelude.{ℕ}
use Rattle.tds_server.specs.declared.fault.ServerFault.{ServerFault}
use Rattle.tds_server.specs.declared.fault.ServerFault.TheVariants.{RequestWhileAnswering, TypeChanged, BothResets, WrongAttention, LongMessage, WrongRequest, IgnoredPart, Lost}

-- 1 to 8, in the order of the variants
abbrev pub fault_number : ServerFault → ℕ
fault_number RequestWhileAnswering = 1
fault_number TypeChanged = 2
fault_number BothResets = 3
fault_number WrongAttention = 4
fault_number LongMessage = 5
fault_number (WrongRequest fault) = 6
fault_number IgnoredPart = 7
fault_number Lost = 8
