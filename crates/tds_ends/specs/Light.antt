-- A reader that has its buffer only while bytes of a packet are held.
use Rattle.std.specs.Prelude.{◌≡◌, ◌≢◌, ℕ, Bool, true, false, List, [], Option, Some, None, Box}
use Rattle.std.specs.declared.alloc.Global.{Global}
use Rattle.tds_packet.specs.declared.kind.Direction.{Direction}
use Rattle.tds_packet.specs.Reading.{Reading}
use Rattle.tds_packet.specs.declared.reader.PacketReader.{PacketReader}
use Rattle.tds_ends.specs.AllBytes.{new_reader}
use Rattle.tds_ends.specs.declared.light.LightReader.TheInside.{Inside}

-- What it has read.
abbrev pub reading_in : Option (Box PacketReader Global) → Direction → ℕ → Reading
reading_in None direction size = new_reader direction size
reading_in (Some reader) direction size = reader.value

abbrev pub reading_of : Inside → Reading
reading_of a = reading_in a.reader a.direction a.size

-- A buffer is there only where bytes are held.
abbrev pub HoldsBytes : Option (Box PacketReader Global) → Direction → ℕ → Type 0
HoldsBytes None direction size = Unit {0}
HoldsBytes (Some reader) direction size =
    (reader.value.direction ≡ direction) × (reader.value.size ≡ size) × (reader.value.taken ≢ [])

pub record IsLight (a : Inside) : Type 0 where
  pub holds : HoldsBytes a.reader a.direction a.size

-- The answer whether there are no bytes is right.
abbrev pub TellsEmpty : Bool → List ℕ → Type 0
TellsEmpty true bytes = bytes ≡ []
TellsEmpty false bytes = bytes ≢ []
