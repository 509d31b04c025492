-- Room in the caller's memory, filled from its front.
use Rattle.std.specs.Prelude.{◌≡◌, ℕ, List, ◌++◌, length, drop}

-- Room for so many values, before and after, and how many were written.
pub record Room (A : Type 0) : Type 0 where
  pub before : List A
  pub after : List A
  pub count : ℕ

-- What was read stands at the front of the room, and what stands behind it stays.
abbrev pub HasRead : {A : Type 0} → List A → Room A → Type 0
HasRead read room = (room.after ≡ read ++ drop (length read) room.before) × (room.count ≡ length read)
