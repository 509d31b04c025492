-- A token that ended, and what is told of it, as a plain value.
use Rattle.std.specs.Prelude.{◌≡◌, ◌<◌, ◌+◌, ℕ, pos, List, [], ◌∷◌, length, slice_set, Option, Some, None, if◌then◌else◌}
use Rattle.tds_wire.specs.declared.told.Place.{Place}
use Rattle.tds_wire.specs.declared.told.ChangeValue.{ChangeValue}
use Rattle.tds_wire.specs.declared.told.ChangeValue.TheVariants as changes
use Rattle.tds_wire.specs.declared.told.Token.{Token}
use Rattle.tds_wire.specs.declared.told.Told.{Told}
use Rattle.tds_wire.specs.declared.told.Told.TheVariants as told
use Rattle.tds_walk.specs.declared.token.TdsWirePlace.{TdsWirePlace}
use Rattle.tds_walk.specs.declared.token.TdsWireToken.{TdsWireToken}
use Rattle.tds_walk.specs.Rooms.{Room}

abbrev pub nowhere : TdsWirePlace
nowhere = record { start = 0; length = 0 }

abbrev pub placed : Place → TdsWirePlace
placed p = record { start = p.start; length = p.length }

-- a token of which nothing is told but this
abbrev pub bare : Token → ℕ → TdsWireToken
bare t n = record {
  start = t.start;
  length = t.length;
  value = 0;
  old_value = 0;
  text = nowhere;
  others = nowhere;
  number = pos 0;
  size = 0;
  status = 0;
  command = 0;
  kind = t.kind;
  told = n;
  change = 0;
  state = 0;
  severity = 0;
  recoverable = 0;
}

abbrev pub ShowsChange : TdsWireToken → Token → ℕ → ChangeValue → Type 0
ShowsChange s t type (changes.Transaction new old) = s ≡ record (bare t 2) { value = new; old_value = old; change = type }
ShowsChange s t type changes.ResetDone = s ≡ record (bare t 3) { change = type }
ShowsChange s t type (changes.PacketSize size) = s ≡ record (bare t 4) { size = size; change = type }
ShowsChange s t type (changes.Values new old) = s ≡ record (bare t 5) { text = placed new; others = placed old; change = type }
ShowsChange s t type changes.Other = s ≡ record (bare t 6) { change = type }

-- The value shows this token, of which this is told.
abbrev pub Shows : TdsWireToken → Token → Told → Type 0
Shows s t told.Other = s ≡ bare t 0
Shows s t (told.Done d) = s ≡ record (bare t 1) { value = d.count; status = d.status; command = d.command }
Shows s t (told.Change c) = ShowsChange s t c.kind c.value
Shows s t (told.Message m) =
    s ≡ record (bare t 7) { text = placed m.text; others = placed m.names; number = m.number; state = m.state; severity = m.class }
Shows s t (told.ReturnStatus n) = s ≡ record (bare t 8) { number = n }
Shows s t (told.SessionState x) =
    s ≡ record (bare t 9) { text = placed x.states; size = x.sequence; recoverable = (if x.is_recoverable then 1 else 0) }
Shows s t told.Unclear = s ≡ bare t 10

-- ---- Many

-- The values show these tokens.
unfoldable pub AllShow : List TdsWireToken → List Token → Type 0
AllShow [] [] = Unit {0}
AllShow [] (token ∷ tokens) = ⊥
AllShow (value ∷ values) [] = ⊥
AllShow (value ∷ values) (token ∷ tokens) = Shows value token token.told × AllShow values tokens

-- A token that is told is written behind those before it.
abbrev pub Puts : Option Token → Room TdsWireToken → ℕ → Type 0
Puts None room count = (room.after ≡ room.before) × (room.count ≡ count)
Puts (Some token) room count =
    (value : TdsWireToken) × Shows value token token.told × (count < length room.before)
    × (room.after ≡ slice_set room.before count value) × (room.count ≡ count + 1)
