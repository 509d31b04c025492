-- What a walk's memory stands for.
use Rattle.std.specs.Prelude.{◌==◌, List, map, take, min, if◌then◌else◌}
use Rattle.tds_wire.specs.declared.shape.Shape.{Shape}
use Rattle.tds_wire.specs.declared.shape.Shape.TheVariants as shape
use Rattle.tds_wire.specs.declared.due.Due.{Due}
use Rattle.tds_wire.specs.declared.memory.Column.{Column}
use Rattle.tds_wire.specs.declared.memory.Memory.{Memory}
use Rattle.tds_wire.specs.declared.cursor.Cursor.{Cursor}
use Rattle.tds_wire.specs.Walking.{Walk}

-- the shape that the two bytes of a column say
unfoldable pub shape_of : Column → Shape
shape_of c =
    if c.form == 0 then shape.Fixed c.bytes
    else if c.form == 2 then shape.Short
    else if c.form == 3 then shape.Long
    else if c.form == 4 then shape.Pointer
    else if c.form == 5 then shape.Parts
    else shape.Byte

abbrev pub column_of : Shape → Column
column_of (shape.Fixed n) = record { form = 0; bytes = n }
column_of shape.Byte = record { form = 1; bytes = 0 }
column_of shape.Short = record { form = 2; bytes = 0 }
column_of shape.Long = record { form = 3; bytes = 0 }
column_of shape.Pointer = record { form = 4; bytes = 0 }
column_of shape.Parts = record { form = 5; bytes = 0 }

unfoldable pub shapes_of : Memory → List Shape
shapes_of m = map shape_of (take m.count m.columns)

-- where a cursor is, and what it remembers: more than 4,096 columns have no room
abbrev pub walk_of : Cursor → Memory → Walk
walk_of c m = record { at = c.at; columns = shapes_of m; nulls = m.nulls; most = min 4096 c.most; features = c.features }

abbrev pub due_in : Cursor → Due → Cursor
due_in c due = record c { at = record c.at { due = due } }
