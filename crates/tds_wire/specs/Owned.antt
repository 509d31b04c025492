-- A parser that owns its memory.
use Rattle.tds_wire.specs.declared.parser.TokenParser.TheInside.{Inside}
use Rattle.tds_wire.specs.Lent.{reading_of}
use Rattle.tds_wire.specs.Reading.{Parser}

abbrev pub owned_reading : Inside → Parser
owned_reading a = reading_of a.walk a.memory.value
