-- The numbers of what a call answers, as `tds_service.h` names them.
use Rattle.std.specs.Prelude.{ℕ}
use Rattle.tds_service.specs.declared.place.Rest.{Rest}
use Rattle.tds_service.specs.declared.place.Rest.TheVariants as rests
use Rattle.tds_service.specs.declared.refusal.Refusal.{Refusal}
use Rattle.tds_service.specs.declared.refusal.Refusal.TheVariants as refusals
use Rattle.tds_c.specs.declared.service.answers.Stop.{Stop}
use Rattle.tds_c.specs.declared.service.answers.Stop.TheVariants as stops

abbrev pub refusal_number : Refusal → ℕ
refusal_number refusals.Memory = 22
refusal_number refusals.NotIdle = 31
refusal_number refusals.NotSending = 32
refusal_number refusals.Broken = 33
refusal_number refusals.Unknown = 34
refusal_number refusals.AllInUse = 35
refusal_number refusals.NotNow = 36

abbrev pub stop_number : Stop → ℕ
stop_number stops.NoTable = 20
stop_number stops.NoRoom = 21
stop_number stops.OutOfRange = 23
stop_number (stops.Refused refusal) = refusal_number refusal

abbrev pub rest_number : Rest → ℕ
rest_number rests.Free = 1
rest_number rests.Draining = 2
rest_number rests.Closed = 3
