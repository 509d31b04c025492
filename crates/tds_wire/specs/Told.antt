-- What a token says, by its first bytes and its length (MS-TDS 2.2.7.6 to 2.2.7.10, 2.2.7.13, 2.2.7.18, 2.2.7.21). Numbers have their low
-- byte first. Places are counted from the message's first byte, of which the token's own is `start`.
use Rattle.std.specs.Prelude.{ℕ, zero, suc, ◌+◌, ◌-◌, ◌*◌, ◌%◌, ◌==◌, ◌&&◌, ◌||◌, not, min, nat_lt, Bool, List, Option, Some, None, length, take, drop, get_or, if◌then◌else◌}
use Rattle.std.specs.Int.{w16, w32, w64, from_le_bytes, cast_signed}
use Rattle.tds_wire.specs.declared.told.Place.{Place}
use Rattle.tds_wire.specs.declared.told.ChangeValue.{ChangeValue}
use Rattle.tds_wire.specs.declared.told.ChangeValue.TheVariants as changes
use Rattle.tds_wire.specs.declared.told.Told.{Told}
use Rattle.tds_wire.specs.declared.told.Told.TheVariants as told
use Rattle.tds_wire.specs.Layout.{is_done}

-- a place so many bytes behind another; none is counted beyond 2 ^ 64 - 1
abbrev pub added : ℕ → ℕ → ℕ
added a b = min 18446744073709551615 (a + b)

-- ---- Fields of the first bytes, by their place: 0 where they aren't there

abbrev pub byte_at : List ℕ → ℕ → ℕ
byte_at head at = get_or head at 0

unfoldable pub short_at : List ℕ → ℕ → ℕ
short_at head at = if nat_lt (length head) (at + 2) then 0 else from_le_bytes w16 (take 2 (drop at head))

unfoldable pub long_at : List ℕ → ℕ → ℕ
long_at head at = if nat_lt (length head) (at + 4) then 0 else from_le_bytes w32 (take 4 (drop at head))

unfoldable pub wide_at : List ℕ → ℕ → ℕ
wide_at head at = if nat_lt (length head) (at + 8) then 0 else from_le_bytes w64 (take 8 (drop at head))

-- so many bytes of a token, from this one of it on; and all that are left behind this one
abbrev pub part : ℕ → ℕ → ℕ → Place
part start at n = record { start = added start at; length = n }

abbrev pub part_behind : ℕ → ℕ → ℕ → Place
part_behind start size at = part start at (size - at)

-- ---- ENVCHANGE

-- a descriptor behind the count of its bytes, which is 8, or 0 where there is none
abbrev pub is_descriptor : ℕ → Bool
is_descriptor n = (n == 0) || (n == 8)

abbrev pub descriptor_at : List ℕ → ℕ → ℕ
descriptor_at head at = if byte_at head at == 8 then wide_at head (at + 1) else 0

-- the new value, and behind it the old one
abbrev pub transaction : ℕ → List ℕ → Option ChangeValue
transaction size head =
    if is_descriptor (byte_at head 4) && (is_descriptor (byte_at head (5 + byte_at head 4))
    && not (nat_lt size (6 + byte_at head 4 + byte_at head (5 + byte_at head 4))))
    then Some (changes.Transaction (descriptor_at head 4) (descriptor_at head (5 + byte_at head 4)))
    else None

-- so many digits, of two bytes each
abbrev pub is_digit : List ℕ → ℕ → Bool
is_digit head at = not (nat_lt (byte_at head at) 48) && (nat_lt (byte_at head at) 58 && (byte_at head (at + 1) == 0))

-- with one more digit, and never more than 32 bits hold
abbrev pub next_digit : ℕ → ℕ → ℕ
next_digit value digit = min 4294967295 (10 * value + (digit - 48))

unfoldable pub digits : ℕ → List ℕ → ℕ → ℕ → Option ℕ
digits zero head at value = Some value
digits (suc n) head at value = if is_digit head at then digits n head (at + 2) (next_digit value (byte_at head at)) else None

abbrev pub sized : Option ℕ → Option ChangeValue
sized (Some size) = Some (changes.PacketSize size)
sized None = None

-- the packet size, in one to five digits behind their count
abbrev pub packet_size : ℕ → List ℕ → Option ChangeValue
packet_size size head =
    if (byte_at head 4 == 0) || (nat_lt 5 (byte_at head 4) || nat_lt size (5 + 2 * byte_at head 4)) then None
    else sized (digits (byte_at head 4) head 5 0)

-- a new value of n bytes from this one on, and the old one behind its own count, of so many bytes
abbrev pub both_values : ℕ → ℕ → ℕ → ℕ → ℕ → Option ChangeValue
both_values start size at n width =
    if nat_lt size (at + n + width) then None
    else Some (changes.Values (part start at n) (part_behind start size (at + n + width)))

-- by the type
unfoldable pub change_value : ℕ → ℕ → ℕ → List ℕ → Option ChangeValue
change_value type start size head =
    if (type == 8) || (type == 9) || (type == 10) || (type == 11) || (type == 12) || (type == 17) then transaction size head
    else if type == 18 then Some changes.ResetDone
    else if type == 4 then packet_size size head
    else if (type == 1) || (type == 2) then both_values start size 5 (2 * byte_at head 4) 1
    else if type == 7 then both_values start size 5 (byte_at head 4) 1
    else if type == 15 then both_values start size 8 (long_at head 4) 1
    else if type == 20 then both_values start size 6 (short_at head 4) 2
    else Some changes.Other

abbrev pub changed : ℕ → Option ChangeValue → Told
changed type (Some value) = told.Change (record { kind = type; value = value })
changed type None = told.Unclear

abbrev pub change_of : ℕ → ℕ → List ℕ → Told
change_of start size head = if nat_lt size 4 then told.Unclear else changed (byte_at head 3) (change_value (byte_at head 3) start size head)

-- ---- The others

-- DONE, DONEPROC, DONEINPROC
abbrev pub done_of : List ℕ → Told
done_of head = told.Done (record { status = short_at head 1; command = short_at head 3; count = wide_at head 5 })

-- ERROR, INFO: Length, Number, State, Class, MsgText behind the count of its units; then ServerName, ProcName, LineNumber
abbrev pub message_of : ℕ → ℕ → List ℕ → Told
message_of start size head =
    if nat_lt size (11 + 2 * short_at head 9) then told.Unclear
    else told.Message (record {
      number = cast_signed w32 (long_at head 3);
      state = byte_at head 7;
      class = byte_at head 8;
      text = part start 11 (2 * short_at head 9);
      names = part_behind start size (11 + 2 * short_at head 9);
    })

-- SESSIONSTATE: Length, SeqNo, Status, of which bit 0 says that the session can be recovered, and the states
abbrev pub session_state_of : ℕ → ℕ → List ℕ → Told
session_state_of start size head =
    if nat_lt size 10 then told.Unclear
    else told.SessionState (record { sequence = long_at head 5; is_recoverable = byte_at head 9 % 2 == 1; states = part_behind start size 10 })

-- a token of this kind that starts here and has so many bytes, of which these are the first
unfoldable pub told_of : ℕ → ℕ → ℕ → List ℕ → Told
told_of kind start size head =
    if is_done kind then done_of head
    else if kind == 0xE3 then change_of start size head
    else if (kind == 0xAA) || (kind == 0xAB) then message_of start size head
    else if kind == 0x79 then told.ReturnStatus (cast_signed w32 (long_at head 1))
    else if kind == 0xE4 then session_state_of start size head
    else told.Other
