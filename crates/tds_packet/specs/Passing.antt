-- Where a direction of a wire is in its packets, by their headers' lengths alone (MS-TDS 2.2.3.1).
use Rattle.std.specs.Prelude.{ℕ, Bool, ◌+◌, ◌-◌, nat_lt, nat_eq, List, [], ◌++◌, length, slice_index, if◌then◌else◌}
use Rattle.tds_packet.specs.declared.passing.Head.{Head}
use Rattle.tds_packet.specs.declared.passing.Passed.{Passed}
use Rattle.tds_packet.specs.declared.passing.Passed.TheVariants.{Part, Begins, Data, Wrong}
use Rattle.tds_packet.specs.Faults.{length_field}

-- what has come of a header, and how many bytes of data are due: none while a header comes
pub record PacketPlace : Type 0 where
  pub came : List ℕ
  pub due : ℕ

-- the next bytes that belong together: the rest of a header, or of a packet's data
unfoldable pub next_run : PacketPlace → ℕ
next_run p = if nat_lt 0 p.due then p.due else 8 - length p.came

-- where a direction is behind these bytes, which are no more than its next run
unfoldable pub behind_run : PacketPlace → List ℕ → PacketPlace
behind_run p bytes =
    if nat_lt 0 p.due then record { came = []; due = p.due - length bytes }
    else if nat_lt (length p.came + length bytes) 8 then record { came = p.came ++ bytes; due = 0 }
    else record { came = []; due = length_field (p.came ++ bytes) - 8 }

-- whether it is between two packets
abbrev pub is_apart : PacketPlace → Bool
is_apart p = nat_eq (length p.came + p.due) 0

-- what a header says
abbrev pub head_in : List ℕ → Head
head_in bytes = record { kind = slice_index bytes 0; status = slice_index bytes 1; length = length_field bytes }

-- what such bytes bring
unfoldable pub run_brings : PacketPlace → List ℕ → Passed
run_brings p bytes =
    if nat_lt 0 p.due then Data (nat_eq (p.due - length bytes) 0)
    else if nat_lt (length p.came + length bytes) 8 then Part
    else if nat_lt (length_field (p.came ++ bytes)) 8 then Wrong
    else Begins (head_in (p.came ++ bytes))
