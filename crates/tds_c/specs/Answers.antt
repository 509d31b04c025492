-- The numbers of what a call answers. Each is a constant of include/tds.h.
use Rattle.std.specs.Prelude.{ℕ, ◌+◌, Result, Ok, Err}
use Rattle.tds_packet.specs.Faults as packet
use Rattle.tds_token.specs.Faults as token
use Rattle.tds_client.specs.declared.fault.ClientRefusal.{ClientRefusal}
use Rattle.tds_client.specs.declared.fault.ClientRefusal.TheVariants as refusals
use Rattle.tds_client.specs.Faults.{fault_number}
use Rattle.tds_client.specs.declared.state.Cancelled.{Cancelled}
use Rattle.tds_client.specs.declared.state.Cancelled.TheVariants as cancels
use Rattle.tds_client.specs.declared.state.Sent.{Sent}
use Rattle.tds_client.specs.declared.state.Sent.TheVariants as sents
use Rattle.tds_client.specs.declared.state.Taken.{Taken}
use Rattle.tds_client.specs.declared.state.Taken.TheVariants as takes
use Rattle.tds_c.specs.declared.answers.Stop.{Stop}
use Rattle.tds_c.specs.declared.answers.Stop.TheVariants as stops

abbrev pub refusal_number : ClientRefusal → ℕ
refusal_number refusals.NotIdle = 31
refusal_number refusals.NotSending = 32
refusal_number refusals.Broken = 33
refusal_number refusals.Memory = 22

abbrev pub stop_number : Stop → ℕ
stop_number stops.NoClient = 20
stop_number stops.NoRoom = 21
stop_number stops.OutOfRange = 23
stop_number stops.WantsBytes = 24
stop_number stops.NoPacket = 25
stop_number stops.NoPlace = 26
stop_number (stops.Refused refusal) = refusal_number refusal
stop_number (stops.Packet fault) = 40 + packet.fault_number fault
stop_number (stops.Token fault) = 50 + token.fault_number fault
stop_number (stops.Client fault) = 60 + fault_number fault

abbrev pub done_number : Unit {0} → ℕ
done_number x = 0

abbrev pub sent_number : Sent → ℕ
sent_number sents.More = 1
sent_number sents.Last = 2

abbrev pub taken_number : Taken → ℕ
taken_number takes.More = 1
taken_number takes.Finished = 3
taken_number takes.Acknowledged = 4
taken_number takes.NoMemory = 22

abbrev pub cancelled_number : Cancelled → ℕ
cancelled_number cancels.Nothing = 5
cancelled_number cancels.Already = 6
cancelled_number cancels.Unsent = 7
cancelled_number cancels.Asked = 8

-- What is answered, as a number.
abbrev pub number_of : {A : Type 0} → (A → ℕ) → Result A Stop → ℕ
number_of number (Ok answer) = number answer
number_of number (Err stop) = stop_number stop
