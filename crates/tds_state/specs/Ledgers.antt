-- Values by their numbers: those that a login began with, and of which of them the newest telling is another one.
use Rattle.std.specs.Prelude.{ℕ, ◌+◌, ◌≡◌, ◌&&◌, not, Bool, true, false, List, [], ◌∷◌, ◌++◌, length, replicate, set, Option, Some, None, if◌then◌else◌}
use Rattle.std.specs.Int.{w32, to_le_bytes}
use Rattle.std.specs.List.{list_any}
use Rattle.tds_state.specs.declared.values.Values.TheInside.{Inside}
use Rattle.tds_state.specs.KeptBytes.{KeptBytes, has_room, no_bytes_kept, with_more_kept}
use Rattle.tds_state.specs.States.{gives_value, states_listed}

pub record Ledger : Type 0 where
  -- the values that a login began with, as SESSIONSTATE spells states
  pub initial : KeptBytes
  -- for each number whether it is astray
  pub astray : List Bool

abbrev pub none_astray : List Bool
none_astray = replicate 256 false

abbrev pub ledger_of : Inside → Ledger
ledger_of v = record { initial = v.initial; astray = v.astray }

abbrev pub IsLedger : Inside → Type 0
IsLedger v = v.is_calm ≡ true → v.astray ≡ none_astray

abbrev pub no_values : ℕ → Ledger
no_values most = record { initial = no_bytes_kept most; astray = none_astray }

-- these are the ones that it began with
abbrev pub may_begin : Ledger → List ℕ → Bool
may_begin l states = has_room (no_bytes_kept l.initial.most) (length states) && (states_listed states).is_whole

abbrev pub begun_with : Ledger → List ℕ → Ledger
begun_with l states = record l { initial = with_more_kept (no_bytes_kept l.initial.most) states }

-- and one more
abbrev pub state_bytes : ℕ → List ℕ → List ℕ
state_bytes id value = id ∷ 255 ∷ (to_le_bytes w32 (length value) ++ value)

abbrev pub may_add : Ledger → List ℕ → Bool
may_add l value = has_room l.initial (6 + length value)

abbrev pub with_initial_value : Ledger → ℕ → List ℕ → Ledger
with_initial_value l id value = record l { initial = with_more_kept l.initial (state_bytes id value) }

-- This value is told of a number: it is astray where that isn't the one that it began with, or can't be recovered.
abbrev pub value_noted : Ledger → Bool → ℕ → List ℕ → Ledger
value_noted l is_recoverable id value = record l { astray = set l.astray id (not (is_recoverable && gives_value l.initial.bytes id value)) }

-- the two at a login, where there is room
abbrev pub begun_if : Bool → Ledger → List ℕ → Ledger
begun_if may l states = if may && may_begin l states then begun_with l states else l

abbrev pub value_taken_in : Bool → Ledger → ℕ → List ℕ → Ledger
value_taken_in true l id value = if may_add l value then with_initial_value l id value else l
value_taken_in false l id value = value_noted l true id value

-- a reset gives each its initial value
abbrev pub all_back : Ledger → Ledger
all_back l = record l { astray = none_astray }

abbrev pub back_if : Bool → Ledger → Ledger
back_if true l = all_back l
back_if false l = l

-- the place of the first one that is set, counted from this one on
unfoldable pub first_set : ℕ → List Bool → Option ℕ
first_set n [] = None
first_set n (is ∷ others) = if is then Some n else first_set (n + 1) others

abbrev pub first_astray : Ledger → Option ℕ
first_astray l = first_set 0 l.astray

abbrev pub is_home : Ledger → Bool
is_home l = not (list_any (λ (b : Bool). b) l.astray)
