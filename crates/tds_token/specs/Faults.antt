-- The numbers of the faults.
use Rattle.std.specs.Prelude.{ℕ}
use Rattle.tds_token.specs.declared.fault.TokenFault.{TokenFault}
use Rattle.tds_token.specs.declared.fault.TokenFault.TheVariants.{UnknownToken, Cut, WrongLength, WrongEnvChange, WrongStatus, NoColumns, WrongColumn}

abbrev pub fault_number : TokenFault → ℕ
fault_number UnknownToken = 1
fault_number Cut = 2
fault_number WrongLength = 3
fault_number WrongEnvChange = 4
fault_number WrongStatus = 5
fault_number NoColumns = 6
fault_number WrongColumn = 7
