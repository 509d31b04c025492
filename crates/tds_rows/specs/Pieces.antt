-- A value in parts, byte by byte (MS-TDS 2.2.5.2.3): a length of eight bytes, parts behind counts of four, an empty one behind them. Any
-- cutting of its bytes gives the same, since each byte is a step.
use Rattle.std.specs.Prelude.{◌≡◌, ◌≤◌, ◌<◌, ℕ, zero, suc, ◌+◌, ◌-◌, ◌*◌, ◌==◌, ◌&&◌, nat_lt, Bool, true, false, List, [], ◌∷◌, ◌++◌, length, take, drop, if◌then◌else◌, ◌⊎◌}
use Rattle.tds_wire.specs.declared.shape.Shape.TheVariants as shape
use Rattle.tds_rows.specs.declared.pieces.PartsReader.{PartsReader}
use Rattle.tds_rows.specs.declared.pieces.Piece.{Piece}
use Rattle.tds_rows.specs.Places.{is_absent}

-- What is read next: the length, of which so many bytes have come, all of them FF so far or not; a part's count, of which these have; a
-- part, of which so many bytes are left. Behind the empty part, or a length of all ones, the value is over; no byte belongs to it then.
pub data PartsAt : Type 0 where
  InLength : ℕ → Bool → PartsAt
  InCount : List ℕ → PartsAt
  InPart : ℕ → PartsAt
  PartsOver : PartsAt
  PartsNull : PartsAt
  Beyond : PartsAt

abbrev pub behind_whole_length : Bool → PartsAt
behind_whole_length true = PartsNull
behind_whole_length false = InCount []

abbrev pub behind_count : ℕ → PartsAt
behind_count n = if n == 0 then PartsOver else InPart n

abbrev pub with_count : List ℕ → ℕ → PartsAt
with_count [] b = InCount (b ∷ [])
with_count (x ∷ []) b = InCount (x ∷ b ∷ [])
with_count (x ∷ y ∷ []) b = InCount (x ∷ y ∷ b ∷ [])
with_count (x ∷ y ∷ z ∷ others) b = behind_count (x + 256 * y + 65536 * z + 16777216 * b)

abbrev pub after_byte : PartsAt → ℕ → PartsAt
after_byte (InLength seen ones) b = if nat_lt seen 7 then InLength (seen + 1) (ones && (b == 255)) else behind_whole_length (ones && (b == 255))
after_byte (InCount came) b = with_count came b
after_byte (InPart left) b = if nat_lt 1 left then InPart (left - 1) else InCount []
after_byte PartsOver b = Beyond
after_byte PartsNull b = Beyond
after_byte Beyond b = Beyond

-- the bytes of parts are the value's own
abbrev pub own_byte : PartsAt → ℕ → List ℕ
own_byte (InPart left) b = b ∷ []
own_byte _ b = []

unfoldable pub parts_after : PartsAt → List ℕ → PartsAt
parts_after at [] = at
parts_after at (b ∷ bytes) = parts_after (after_byte at b) bytes

unfoldable pub own_bytes : PartsAt → List ℕ → List ℕ
own_bytes at [] = []
own_bytes at (b ∷ bytes) = own_byte at b ++ own_bytes (after_byte at b) bytes

-- before a value's first byte
abbrev pub parts_begun : PartsAt
parts_begun = InLength 0 true

abbrev pub value_is_over : PartsAt → Bool
value_is_over (InLength seen ones) = false
value_is_over (InCount came) = false
value_is_over (InPart left) = false
value_is_over PartsOver = true
value_is_over PartsNull = true
value_is_over Beyond = true

abbrev pub is_null_value : PartsAt → Bool
is_null_value PartsNull = true
is_null_value _ = false

abbrev pub is_in_prefix : PartsAt → Bool
is_in_prefix (InLength seen ones) = true
is_in_prefix (InCount came) = true
is_in_prefix _ = false

abbrev pub is_in_part : PartsAt → Bool
is_in_part (InPart left) = true
is_in_part _ = false

-- behind so many bytes of a part of which so many were left
abbrev pub left_after : ℕ → ℕ → PartsAt
left_after left n = if nat_lt n left then InPart (left - n) else InCount []

-- ---- The plain value

abbrev pub count_come : PartsReader → List ℕ
count_come r =
    if r.seen == 0 then []
    else if r.seen == 1 then r.first ∷ []
    else if r.seen == 2 then r.first ∷ r.second ∷ []
    else r.first ∷ r.second ∷ r.third ∷ []

-- every value stands for a place in a value in parts, and none for one beyond
unfoldable pub parts_at : PartsReader → PartsAt
parts_at r =
    if r.stage == 0 then InLength r.seen true
    else if r.stage == 1 then InLength r.seen false
    else if r.stage == 2 then (if r.left == 0 then InCount (count_come r) else InPart r.left)
    else if r.stage == 3 then PartsOver
    else PartsNull

-- The bytes that are taken lead there, and the value's own among them stand in one place.
pub record PartsGoOn (before after : PartsReader) (bytes : List ℕ) (p : Piece) : Type 0 where
  pub to : parts_after (parts_at before) (take p.taken bytes) ≡ parts_at after
  pub own : own_bytes (parts_at before) (take p.taken bytes) ≡ take p.length (drop p.start bytes)
  pub within : p.taken ≤ length bytes
  pub inside : p.start + p.length ≤ p.taken
  -- where it gives none of its own, all bytes are done with, or it is over
  pub moves : (0 < p.length) ⊎ ((p.taken ≡ length bytes) ⊎ (value_is_over (parts_at after) ≡ true))

-- ---- Beside the layout

-- the own bytes of parts, up to the empty one
unfoldable pub joined_parts : ℕ → List ℕ → List ℕ
joined_parts zero bytes = []
joined_parts (suc most) [] = []
joined_parts (suc most) (a ∷ []) = []
joined_parts (suc most) (a ∷ b ∷ []) = []
joined_parts (suc most) (a ∷ b ∷ c ∷ []) = []
joined_parts (suc most) (a ∷ b ∷ c ∷ d ∷ bytes) =
    let n = a + 256 * b + 65536 * c + 16777216 * d in
    if n == 0 then [] else take n bytes ++ joined_parts most (drop n bytes)

abbrev pub own_of_value : List ℕ → List ℕ
own_of_value bytes = if is_absent shape.Parts bytes then [] else joined_parts (length (drop 8 bytes)) (drop 8 bytes)

abbrev pub parts_closed : Bool → PartsAt
parts_closed absent = if absent then PartsNull else PartsOver

-- Of bytes that the layout passes as a value in parts these are the first ones, and they end it.
pub record EndsParts (bytes rest : List ℕ) : Type 0 where
  pub front : List ℕ
  pub whole : bytes ≡ front ++ rest
  pub over : parts_after parts_begun front ≡ parts_closed (is_absent shape.Parts bytes)
  pub own : own_bytes parts_begun front ≡ own_of_value bytes
