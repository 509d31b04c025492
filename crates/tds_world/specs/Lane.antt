-- One direction of a connection: a list of entries, and how far they were delivered.
use Rattle.std.specs.Prelude.{ℕ, ◌≡◌, ◌+◌, ◌-◌, ◌<◌, ◌≤◌, List, [], ◌∷◌, ◌++◌, length, take, flat_map}

-- The entries that arrived, those that wait, and how many bytes of those that wait have come.
pub record Lane (Entry : Type 0) : Type 0 where
  pub arrived : List Entry
  pub waiting : List Entry
  pub part : ℕ

-- A lane on which nothing was sent.
abbrev pub empty_lane : {Entry : Type 0} → Lane Entry
empty_lane = record { arrived = []; waiting = []; part = 0 }

-- The lane after this entry is sent.
abbrev pub append : {Entry : Type 0} → Entry → Lane Entry → Lane Entry
append e lane = record lane { waiting = lane.waiting ++ e ∷ [] }

-- The lane with this entry arrived.
abbrev pub passed : {Entry : Type 0} → Entry → Lane Entry → Lane Entry
passed e lane = record lane { arrived = lane.arrived ++ e ∷ [] }

-- The lane on which these entries wait, and so many bytes of them have come.
abbrev pub with_waiting : {Entry : Type 0} → List Entry → ℕ → Lane Entry → Lane Entry
with_waiting entries come lane = record lane { waiting = entries; part = come }

-- All bytes that were sent on a lane.
abbrev pub sent_bytes : {Entry : Type 0} → (Entry → List ℕ) → Lane Entry → List ℕ
sent_bytes bytes lane = flat_map bytes (lane.arrived ++ lane.waiting)

-- Those that have come: the bytes of the entries that arrived, and so many of what waits.
abbrev pub come_bytes : {Entry : Type 0} → (Entry → List ℕ) → Lane Entry → List ℕ
come_bytes bytes lane =
    take (length (flat_map bytes lane.arrived) + lane.part) (sent_bytes bytes lane)

-- How many bytes of a lane are underway: sent, and not come.
abbrev pub underway : {Entry : Type 0} → (Entry → List ℕ) → Lane Entry → ℕ
underway bytes lane = length (flat_map bytes lane.waiting) - lane.part

-- The front is the longest one of these entries whose sizes sum to at most n.
pub record IsLongestFront {Entry : Type 0} (bytes : Entry → List ℕ) (entries : List Entry) (n : ℕ)
    (front rest : List Entry) : Type 0 where
  pub split : entries ≡ front ++ rest
  pub fits : length (flat_map bytes front) ≤ n
  pub longest : (e : Entry) (es : List Entry) → rest ≡ e ∷ es
      → n < length (flat_map bytes front) + length (bytes e)
