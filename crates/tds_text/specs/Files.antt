-- What the bytes of a file are: a schedule, or not.
use Rattle.std.specs.Prelude.{◌≡◌, ℕ, List, Some}
use Rattle.serde_json.specs.Data.{Data}
use Rattle.tds_world.specs.declared.event.Setup.{Setup}
use Rattle.tds_world.specs.declared.event.Event.{Event}
use Rattle.tds_text.specs.Schedule.{IsJson, IsSchedule, wrong_place}

-- Bytes are a schedule file of this setup and these events.
abbrev pub Spells : List ℕ → Setup → List Event → Type 0
Spells bytes setup events = (value : Data) × IsJson bytes value × IsSchedule value setup events

-- Bytes are JSON whose first wrong place is this one.
abbrev pub IsWrongAt : List ℕ → ℕ → Type 0
IsWrongAt bytes place = (value : Data) × IsJson bytes value × (wrong_place value ≡ Some place)

-- Bytes are no JSON.
abbrev pub IsNoJson : List ℕ → Type 0
IsNoJson bytes = (value : Data) → ¬ IsJson bytes value
