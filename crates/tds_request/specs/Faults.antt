-- The numbers of the faults.
use Rattle.std.specs.Prelude.{ℕ}
use Rattle.tds_request.specs.declared.fault.RequestFault.{RequestFault}
use Rattle.tds_request.specs.declared.fault.RequestFault.TheVariants.{Short, WrongTotalLength, WrongHeader, WrongCount, WrongTextLength, WrongRequestType, WrongIsolation, WrongName, WrongFlags, BytesLeftOver, Memory}

-- The fields' faults are numbered in the order of the fields. Want of memory is the last.
abbrev pub fault_number : RequestFault → ℕ
fault_number Short = 1
fault_number WrongTotalLength = 2
fault_number WrongHeader = 3
fault_number WrongCount = 4
fault_number WrongTextLength = 5
fault_number WrongRequestType = 6
fault_number WrongIsolation = 7
fault_number WrongName = 8
fault_number WrongFlags = 9
fault_number BytesLeftOver = 10
fault_number Memory = 11
