-- The fields of a reader of headers.
use Rattle.std.specs.Prelude.{◌≡◌, ◌<◌, take}
use Rattle.tds_packet.specs.declared.passing.HeaderReader.TheInside.{Inside}
use Rattle.tds_packet.specs.Passing.{PacketPlace}

-- what the fields stand for
abbrev pub passing_of : Inside → PacketPlace
passing_of a = record { came = take a.came a.bytes; due = a.due }

pub record IsHeaderReader (a : Inside) : Type 0 where
  pub few : a.came < 8
  -- a header comes only where no data are due
  pub one : 0 < a.due → a.came ≡ 0
