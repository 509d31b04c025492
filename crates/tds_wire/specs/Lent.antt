-- A walk beside memory that is lent to it, as what a parser over an answer's bytes is.
use Rattle.std.specs.Prelude.{ℕ, List, take}
use Rattle.tds_wire.specs.declared.head.Head.{Head}
use Rattle.tds_wire.specs.declared.lent.LentWalk.{LentWalk}
use Rattle.tds_wire.specs.declared.memory.Memory.{Memory}
use Rattle.tds_wire.specs.Memory.{walk_of}
use Rattle.tds_wire.specs.Reading.{Parser}

unfoldable pub head_of : Head → List ℕ
head_of h = take h.count h.bytes

abbrev pub reading_of : LentWalk → Memory → Parser
reading_of a m = record { walk = walk_of a.cursor m; head = head_of a.head; start = a.start; passed = a.passed; refused = a.refused }
