-- The header of the PROXY protocol, version 2: what stands before a connection's own bytes, where a proxy opened it for a client.
use Rattle.std.specs.Prelude.{ℕ, ◌<◌, ◌+◌, ◌-◌, ◌*◌, ◌==◌, ◌||◌, not, nat_lt, Bool, true, false, List, [], ◌∷◌, length, take, drop, if◌then◌else◌, slice_index}
use Rattle.proxy_header.specs.declared.header.Found.{Found}
use Rattle.proxy_header.specs.declared.header.Found.TheVariants.{Missing, Whole, Wrong}
use Rattle.proxy_header.specs.declared.source.Source.{Source}
use Rattle.proxy_header.specs.declared.source.Source.TheVariants.{Unsaid, V4, V6}

-- the twelve bytes with which it begins
abbrev pub signature : List ℕ
signature = 13 ∷ 10 ∷ 13 ∷ 10 ∷ 0 ∷ 13 ∷ 10 ∷ 81 ∷ 85 ∷ 73 ∷ 84 ∷ 10 ∷ []

-- whether bytes, as far as they go, begin so
abbrev pub begin_so : List ℕ → List ℕ → Bool
begin_so [] bytes = true
begin_so (s ∷ ss) [] = true
begin_so (s ∷ ss) (b ∷ bs) = if b == s then begin_so ss bs else false

-- the number that two bytes spell from this place on, the highest one first
abbrev pub high_first_at : List ℕ → ℕ → ℕ
high_first_at bytes at = 256 * slice_index bytes at + slice_index bytes (at + 1)

-- How many bytes of addresses a header must have: PROXY (33) of TCP over IPv4 (17) has twelve, over IPv6 (33) it has 36; LOCAL
-- (32) has none, and those of other families are passed over.
abbrev pub least : (command family : ℕ) → ℕ
least command family =
    if not (command == 33) then 0 else if family == 17 then 12 else if family == 33 then 36 else 0

-- who is behind the connection: the client's address and its port, where the header has one
abbrev pub source_in : List ℕ → Source
source_in bytes =
    if not (slice_index bytes 12 == 33) then Unsaid
    else if slice_index bytes 13 == 17 then V4 (take 4 (drop 16 bytes)) (high_first_at bytes 24)
    else if slice_index bytes 13 == 33 then V6 (take 16 (drop 16 bytes)) (high_first_at bytes 48)
    else Unsaid

-- Behind the first sixteen bytes so many are to come, 2,032 at the most.
abbrev pub header_by : List ℕ → (command family count : ℕ) → Found
header_by bytes command family count =
    if not (command == 32 || command == 33) then Wrong
    else if nat_lt 2032 count || nat_lt count (least command family) then Wrong
    else if nat_lt (length bytes) (16 + count) then Missing (16 + count - length bytes)
    else Whole (source_in bytes)

-- What is found in the first bytes of a connection: so many more belong to the header at least, or it is whole, or it is none.
abbrev pub header_in : List ℕ → Found
header_in bytes =
    if not (begin_so signature bytes) then Wrong
    else if nat_lt (length bytes) 16 then Missing (16 - length bytes)
    else header_by bytes (slice_index bytes 12) (slice_index bytes 13) (high_first_at bytes 14)

-- where bytes are missing it is one at least
abbrev pub AsksForSome : Found → Type 0
AsksForSome (Missing n) = 0 < n
AsksForSome found = Unit {0}
