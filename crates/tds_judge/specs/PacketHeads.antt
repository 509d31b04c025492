-- What a header of eight bytes says: its type, whether it begins a packet of that way, and what is
-- found where it doesn't (MS-TDS 2.2.3.1).
use Rattle.std.specs.Prelude.{ℕ, ◌+◌, ◌-◌, ◌*◌, ◌/◌, ◌%◌, ◌==◌, ◌&&◌, ◌||◌, not, nat_lt, Bool, false, if◌then◌else◌}
use Rattle.tds_judge.specs.declared.finding.Direction.{Direction}
use Rattle.tds_judge.specs.declared.finding.Direction.TheVariants.{ToServer, ToClient}
use Rattle.tds_judge.specs.declared.frame.Head.{Head}
use Rattle.tds_judge.specs.declared.frame.Inside.{Inside}
use Rattle.tds_judge.specs.declared.frame.Inside.TheVariants as inside
use Rattle.tds_judge.specs.declared.talk.Ending.TheVariants as endings
use Rattle.tds_judge.specs.declared.talk.Event.{Event}
use Rattle.tds_judge.specs.declared.talk.Event.TheVariants as events
use Rattle.tds_judge.specs.Headers.{new_heading}

-- eight bytes, the highest first, with one more at their end
abbrev pub shifted : ℕ → ℕ → ℕ
shifted value byte = value % 72057594037927936 * 256 + byte

-- Type, Status, Length, SPID, PacketID, Window
abbrev pub head_of : ℕ → Head
head_of value = record {
  kind = value / 72057594037927936 % 256;
  status = value / 281474976710656 % 256;
  size = value / 4294967296 % 65536;
  id = value / 256 % 256;
}

-- 01 batch, 03 RPC, 06 attention, 07 bulk load, 08 federated token, 0E transaction manager, 10
-- LOGIN7, 11 SSPI, 12 PRELOGIN; 04 answer
abbrev pub is_kind : Direction → ℕ → Bool
is_kind ToServer kind =
    (kind == 1) || (kind == 3) || (kind == 6) || (kind == 7) || (kind == 8) || (kind == 14)
    || (kind == 16) || (kind == 17) || (kind == 18)
is_kind ToClient kind = (kind == 4) || (kind == 18)

abbrev pub is_plausible : Direction → Head → Bool
is_plausible direction head = is_kind direction head.kind && not (nat_lt head.size 8)

-- a record of TLS: its type, and the first byte of its version
abbrev pub is_tls : Head → Bool
is_tls head =
    ((head.kind == 20) || (head.kind == 21) || (head.kind == 22) || (head.kind == 23))
    && (head.status == 3)

abbrev pub other_way : Direction → Direction
other_way ToServer = ToClient
other_way ToClient = ToServer

abbrev pub fault_of : Direction → Head → Event
fault_of direction head =
    if is_tls head then events.Stops endings.Encrypted 0
    else if is_kind direction head.kind then events.Stops endings.WrongLength head.size
    else if is_plausible (other_way direction) head
    then events.Stops endings.WrongDirection head.kind
    else events.Stops endings.NotTds head.kind

abbrev pub event_of : Head → Event
event_of head =
    if head.kind == 6 then events.Attention head.size head.status
    else if (head.kind == 1) || (head.kind == 3) || (head.kind == 7) || (head.kind == 14)
    then events.Request head.status (head.kind == 7)
    else events.Login

-- A packet of a request that doesn't end its message has to be full (2.2.3.1.3).
abbrev pub is_to_fill : Direction → Head → Bool
is_to_fill ToServer head =
    not (head.status % 2 == 1)
    && ((head.kind == 1) || (head.kind == 3) || (head.kind == 7) || (head.kind == 14))
is_to_fill ToClient head = false

-- ALL_HEADERS is read of a batch, an RPC and a request to the transaction manager (2.2.5.3)
abbrev pub inside_of : ℕ → Inside
inside_of kind =
    if (kind == 1) || (kind == 3) || (kind == 14) then inside.Prefix new_heading
    else if kind == 16 then inside.Version 0 else inside.Skipped
