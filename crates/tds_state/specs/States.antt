-- The states of a session (MS-TDS 2.2.7.21): each its number, the length of its value, and that. The length has one byte, or is behind FF
-- in four, the lowest first. A login's acknowledgement of session recovery has the initial ones (2.2.7.11).
use Rattle.std.specs.Prelude.{ℕ, zero, suc, ◌+◌, ◌==◌, nat_lt, Bool, false, List, [], ◌∷◌, length, take, drop, Option, Some, None, if◌then◌else◌}
use Rattle.std.specs.Int.{w32, from_le_bytes}
use Rattle.std.specs.Str.{bytes_eq}
use Rattle.tds_state.specs.declared.states.StateSpot.{StateSpot}

-- ---- One state

-- so many bytes of those behind it are its value
abbrev pub spot_with : ℕ → ℕ → ℕ → ℕ → Option StateSpot
spot_with id start n behind = if nat_lt behind n then None else Some (record { id = id; start = start; length = n })

abbrev pub long_spot : ℕ → List ℕ → Option StateSpot
long_spot id (a ∷ b ∷ c ∷ d ∷ behind) = spot_with id 6 (from_le_bytes w32 (a ∷ b ∷ c ∷ d ∷ [])) (length behind)
long_spot id other = None

-- where the state stands that bytes begin with
unfoldable pub state_spot : List ℕ → Option StateSpot
state_spot [] = None
state_spot (id ∷ []) = None
state_spot (id ∷ n ∷ behind) = if n == 255 then long_spot id behind else spot_with id 2 n (length behind)

pub record OneState : Type 0 where
  pub id : ℕ
  pub value : List ℕ

abbrev pub state_value : StateSpot → List ℕ → List ℕ
state_value spot bytes = take spot.length (drop spot.start bytes)

abbrev pub behind_state : StateSpot → List ℕ → List ℕ
behind_state spot bytes = drop (spot.start + spot.length) bytes

abbrev pub state_in : StateSpot → List ℕ → OneState
state_in spot bytes = record { id = spot.id; value = state_value spot bytes }

-- ---- All of them

-- the states up to the first one that can't be read, and whether these are all
pub record Listed : Type 0 where
  pub states : List OneState
  pub is_whole : Bool

abbrev pub listed_with : OneState → Listed → Listed
listed_with s others = record others { states = s ∷ others.states }

abbrev pub listed_end : List ℕ → Listed
listed_end bytes = record { states = []; is_whole = length bytes == 0 }

abbrev pub listed_by : (List ℕ → Listed) → List ℕ → Option StateSpot → Listed
listed_by others bytes None = listed_end bytes
listed_by others bytes (Some spot) = listed_with (state_in spot bytes) (others (behind_state spot bytes))

-- there are no more of them than bytes
unfoldable pub listed_in : ℕ → List ℕ → Listed
listed_in zero bytes = listed_end bytes
listed_in (suc most) bytes = listed_by (listed_in most) bytes (state_spot bytes)

abbrev pub states_listed : List ℕ → Listed
states_listed bytes = listed_in (length bytes) bytes

-- ---- A value by its number: where one is told twice, the later one counts

abbrev pub later_of : Option (List ℕ) → ℕ → OneState → Option (List ℕ)
later_of (Some value) id s = Some value
later_of None id s = if s.id == id then Some s.value else None

unfoldable pub last_value : ℕ → List OneState → Option (List ℕ)
last_value id [] = None
last_value id (s ∷ others) = later_of (last_value id others) id s

abbrev pub is_value : Option (List ℕ) → List ℕ → Bool
is_value (Some value) other = bytes_eq value other
is_value None other = false

-- whether bytes give the state of this number this value
abbrev pub gives_value : List ℕ → ℕ → List ℕ → Bool
gives_value bytes id value = is_value (last_value id (states_listed bytes).states) value
