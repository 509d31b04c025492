-- A piece that ends inside a value.
use Rattle.std.specs.Prelude.{◌≡◌, ℕ, Bool, true, false, List, length, Some}
use Rattle.tds_wire.specs.declared.due.Due.TheVariants.{Run}
use Rattle.tds_wire.specs.declared.due.Field.TheVariants as field
use Rattle.tds_wire.specs.declared.due.Next.{Next}
use Rattle.tds_wire.specs.declared.due.Next.TheVariants.{Then, Valued}
use Rattle.tds_wire.specs.declared.due.ValueField.TheVariants as in_value
use Rattle.tds_wire.specs.declared.lent.LentWalk.{LentWalk}
use Rattle.tds_wire.specs.declared.memory.Memory.{Memory}
use Rattle.tds_wire.specs.Bytes.{Within, onward}
use Rattle.tds_wire.specs.Lent.{reading_of}
use Rattle.tds_wire.specs.Reading.{Inside, next_token}
use Rattle.tds_wire.specs.Told.{added}
use Rattle.tds_wire.specs.Walking.{Walk, with_run}
use Rattle.tds_walk.specs.declared.walk.TdsWire.{TdsWire}
use Rattle.tds_walk.specs.Wire.{walk_from}

-- behind a value's bytes stands the next value, or the count of its next part
abbrev pub run_next : Bool → Next
run_next true = Then (field.Value in_value.PartCount)
run_next false = Valued

-- each walk that has so many bytes of it before it has so many behind the piece
abbrev pub RunsOn : ℕ → Bool → List ℕ → ℕ → Type 0
RunsOn left in_parts piece behind =
    (w : Walk) → w.at.due ≡ Run left (run_next in_parts) → onward w piece ≡ Within (with_run w behind (run_next in_parts))

-- the walk behind a piece, inside the same token, before so many bytes of a run
abbrev pub behind_piece : TdsWire → ℕ → List ℕ → TdsWire
behind_piece p left piece = record p { due = record p.due { left = left }; passed = added p.passed (length piece) }

-- Both are walks, and whatever columns are known, the piece leads from one to the other, and no token ends in it.
abbrev pub StaysInside : TdsWire → TdsWire → List ℕ → Type 0
StaysInside before after piece =
    (w next : LentWalk) × (walk_from before ≡ Some w) × (walk_from after ≡ Some next)
    × ((memory : Memory) → next_token (reading_of w memory) piece ≡ Inside (reading_of next memory))
