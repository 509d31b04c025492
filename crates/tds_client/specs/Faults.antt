-- The numbers of the faults and refusals.
use Rattle.std.specs.Prelude.{ℕ}
use Rattle.tds_client.specs.declared.fault.ClientFault.{ClientFault}
use Rattle.tds_client.specs.declared.fault.ClientFault.TheVariants as faults
use Rattle.tds_client.specs.declared.fault.ClientRefusal.{ClientRefusal}
use Rattle.tds_client.specs.declared.fault.ClientRefusal.TheVariants as refusals

abbrev pub fault_number : ClientFault → ℕ
fault_number faults.AnswerInIdle = 1
fault_number faults.AnswerInSending = 2
fault_number faults.UnaskedAcknowledgement = 3
fault_number faults.WrongEnvChange = 4
fault_number faults.UnaskedReset = 5
fault_number faults.NoFinalDone = 6
fault_number faults.BehindFinalDone = 7
fault_number (faults.Token fault) = 8
fault_number faults.Lost = 9

abbrev pub refusal_number : ClientRefusal → ℕ
refusal_number refusals.NotIdle = 1
refusal_number refusals.NotSending = 2
refusal_number refusals.Broken = 3
refusal_number refusals.Memory = 4
