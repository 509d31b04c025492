-- What stands in no answer behind a login.
use Rattle.std.specs.Prelude.{◌≡◌, true}
use Rattle.tds_wire.specs.declared.told.ChangeValue.{ChangeValue}
use Rattle.tds_wire.specs.declared.told.ChangeValue.TheVariants as changes
use Rattle.tds_wire.specs.declared.told.Told.{Told}
use Rattle.tds_wire.specs.declared.told.Told.TheVariants as told
use Rattle.tds_wire.specs.declared.told.Token.{Token}
use Rattle.tds_judge.specs.Talking.{acknowledges}

abbrev pub IsOfSize : ChangeValue → Type 0
IsOfSize (changes.PacketSize size) = Unit {0}
IsOfSize _ = ⊥

-- No packet size is told (MS-TDS 2.2.7.9, type 4).
abbrev pub TellsNoSize : Told → Type 0
TellsNoSize (told.Change change) = IsOfSize change.value → ⊥
TellsNoSize _ = Unit {0}

-- bit 0020 stands in a DONE alone, in no DONEPROC and no DONEINPROC (MS-TDS 2.2.7.6 to 2.2.7.8)
abbrev pub AcknowledgesAsDone : Token → Type 0
AcknowledgesAsDone token = acknowledges token ≡ true → token.kind ≡ 0xFD
