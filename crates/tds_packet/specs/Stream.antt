-- Packets one behind another, as a reader takes them from a stream of bytes.
use Rattle.std.specs.Prelude.{◌≡◌, ℕ, ◌<◌, ◌==◌, ◌&&◌, nat_le, Bool, List, [], ◌∷◌, ◌++◌, length, is_none, if◌then◌else◌, slice_index}
use Rattle.tds_packet.specs.Faults.{length_field, header_fault}
use Rattle.tds_packet.specs.Reading.{Reading, with_taken, up_to_end, IsWhole}

abbrev pub AreBytes : List ℕ → Type 0
AreBytes bytes = (i : ℕ) → slice_index bytes i < 256

-- the bytes are one packet of this reader's direction and packet size
abbrev pub IsOnePacket : Reading → List ℕ → Type 0
IsOnePacket r bytes = IsWhole (with_taken r bytes)

-- the bytes are less than one packet: none begins them
abbrev pub IsLess : Reading → List ℕ → Type 0
IsLess r bytes = (packet more : List ℕ) → bytes ≡ packet ++ more → ¬ IsOnePacket r packet

-- the test of a whole packet: there is a header without a fault, and as many bytes as its length says
unfoldable pub is_whole : Reading → List ℕ → Bool
is_whole r bytes = nat_le 8 (length bytes) && (is_none (header_fault r.direction r.size bytes) && (length_field bytes == length bytes))

-- when these bytes are taken: the packet that is lent, and what is kept once it is done
abbrev pub lent_of : Reading → List ℕ → List (List ℕ)
lent_of r bytes = if is_whole r bytes then bytes ∷ [] else []

abbrev pub kept_of : Reading → List ℕ → List ℕ
kept_of r bytes = if is_whole r bytes then [] else bytes

-- A run is what one call of `feed` took. Each run goes to the end of a packet at most, and a whole packet is done
-- before the next run.
abbrev pub AreRuns : Reading → List ℕ → List (List ℕ) → Type 0
AreRuns r taken [] = Unit {0}
AreRuns r taken (run ∷ runs) = (up_to_end r (taken ++ run) ≡ taken ++ run) × AreRuns r (kept_of r (taken ++ run)) runs

-- the packets lent in these runs, from what the reader had taken before, in order
abbrev pub packets_in : Reading → List ℕ → List (List ℕ) → List (List ℕ)
packets_in r taken [] = []
packets_in r taken (run ∷ runs) = lent_of r (taken ++ run) ++ packets_in r (kept_of r (taken ++ run)) runs

-- and what the reader holds behind them
abbrev pub left_by : Reading → List ℕ → List (List ℕ) → List ℕ
left_by r taken [] = taken
left_by r taken (run ∷ runs) = left_by r (kept_of r (taken ++ run)) runs
