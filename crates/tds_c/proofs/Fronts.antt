-- The front of some bytes, as a packet.
use Rattle.std.proofs.Common.{◌≡◌, ℕ, ◌/◌, ◌%◌, ◌≤◌, nat_lt, if◌then◌else◌, Bool, true, false, is_none, Option, Some, None, List, [], ◌∷◌, ◌++◌, length, take, drop, slice_index, slice_set, ◌+◌, ◌<◌, inl, inr, refl, sym, ap, ◌∙◌, arith}
use Rattle.std.proofs.lemmas.Bool.{cases_lt, ltb-false}
use Rattle.std.proofs.lemmas.List.{get_or-take, get_or_past, length-take-le}
use Rattle.tds_packet.specs.declared.kind.Direction.{Direction}
use Rattle.tds_packet.specs.declared.fault.PacketFault.{PacketFault}
use Rattle.tds_packet.specs.declared.fault.PacketFault.TheVariants.{UnknownType, OtherDirection, ShortLength}
use Rattle.tds_packet.specs.declared.header.Header.{Header}
use Rattle.tds_packet.specs.Faults.{fault_at, header_fault, length_field, goes_other_way}
use Rattle.tds_packet.specs.Layout.{header_bytes, kind_of}
use Rattle.tds_packet.specs.Reading.{Reading, IsWhole}
use Rattle.tds_packet.specs.Stream.{AreBytes}
use Rattle.tds_c.specs.declared.packets.TdsPacket.{TdsPacket}
use Rattle.tds_c.specs.Packets.{AreFronts, HaveFronts, IsFront, ShowsPacket}
use Rattle.tds_c.proofs.Rooms.{written_on}

third : (a b c : Bool) (rest : Option PacketFault) → (if a then Some UnknownType else if b then Some OtherDirection else if c then Some ShortLength else rest) ≡ None → c ≡ false
third true b c rest h = absurd cc
third false true c rest h = absurd cc
third false false true rest h = absurd cc
third false false false rest h = refl

pub long_enough : (direction : Direction) (size : ℕ) (bytes : List ℕ) → header_fault direction size bytes ≡ None → 8 ≤ length_field bytes
unfolding fault_at
long_enough direction size bytes none =
    ltb-false (length_field bytes) 8 (third (is_none (kind_of (slice_index bytes 0))) (goes_other_way direction (kind_of (slice_index bytes 0))) (nat_lt (length_field bytes) 8) _ none)

-- the length that a header's bytes give is the header's
pub counted : (h : Header) (bytes : List ℕ) → header_bytes h ≡ take 8 bytes → length_field (take 8 bytes) ≡ h.length
counted h bytes spelled =
    let two : slice_index (take 8 bytes) 2 ≡ h.length / 256 = sym (ap (λ (xs : List ℕ). slice_index xs 2) spelled) in
    let three : slice_index (take 8 bytes) 3 ≡ h.length % 256 = sym (ap (λ (xs : List ℕ). slice_index xs 3) spelled) in
    omega (arith, two, three)

-- more of the bytes have the same header
pub same_field : (n : ℕ) (bytes : List ℕ) → 8 ≤ n → length_field (take n bytes) ≡ length_field (take 8 bytes)
same_field n bytes long =
    let two = get_or-take n bytes 2 0 (omega (arith, long)) ∙ sym (get_or-take 8 bytes 2 0 (omega arith)) in
    let three = get_or-take n bytes 3 0 (omega (arith, long)) ∙ sym (get_or-take 8 bytes 3 0 (omega arith)) in
    omega (arith, two, three)

pub same_fault : (direction : Direction) (size n : ℕ) (bytes : List ℕ) → 8 ≤ n → header_fault direction size (take 8 bytes) ≡ None → header_fault direction size (take n bytes) ≡ None
same_fault direction size n bytes long none =
    let zero = get_or-take n bytes 0 0 (omega (arith, long)) ∙ sym (get_or-take 8 bytes 0 0 (omega arith)) in
    let one = get_or-take n bytes 1 0 (omega (arith, long)) ∙ sym (get_or-take 8 bytes 1 0 (omega arith)) in
    rw (zero, one, same_field n bytes long) none

-- bytes stay bytes where some of them are taken
pub ranged : (n : ℕ) (bytes : List ℕ) → n ≤ length bytes → AreBytes bytes → AreBytes (take n bytes)
ranged n bytes room all i = elim (cases_lt i n) [
  | inl within ↦ let same = get_or-take n bytes i 0 within in let byte = all i in omega (arith, same, byte)
  | inr past ↦ let none = get_or_past (take n bytes) i 0 (omega (arith, length-take-le n bytes room, past)) in omega (arith, none)
]

abbrev Law : Type 0
Law = (r : Reading) → AreBytes r.taken → 8 ≤ length r.taken → header_fault r.direction r.size r.taken ≡ None → length_field r.taken ≡ length r.taken → IsWhole r

pub least : (direction : Direction) (size : ℕ) (bytes : List ℕ) (h : Header) → header_bytes h ≡ take 8 bytes → header_fault direction size (take 8 bytes) ≡ None → 8 ≤ h.length
least direction size bytes h spelled none =
    let field : length_field (take 8 bytes) ≡ h.length = counted h bytes spelled in
    let long = long_enough direction size (take 8 bytes) none in
    omega (arith, field, long)

is_whole : (direction : Direction) (size : ℕ) (bytes : List ℕ) (h : Header) → Law → AreBytes bytes → header_bytes h ≡ take 8 bytes → header_fault direction size (take 8 bytes) ≡ None → h.length ≤ length bytes
    → IsWhole (record { direction = direction; size = size; taken = take h.length bytes })
is_whole direction size bytes h law all spelled none room =
    let field : length_field (take 8 bytes) ≡ h.length = counted h bytes spelled in
    let long = least direction size bytes h spelled none in
    let taken : length (take h.length bytes) ≡ h.length = length-take-le h.length bytes room in
    law (record { direction = direction; size = size; taken = take h.length bytes }) (ranged h.length bytes room all) (omega (arith, taken, long)) (same_fault direction size h.length bytes long none) (same_field h.length bytes long ∙ field ∙ sym taken)

pub is_front : (direction : Direction) (size : ℕ) (bytes content : List ℕ) (h : Header) → Law → AreBytes bytes → header_bytes h ≡ take 8 bytes → header_fault direction size (take 8 bytes) ≡ None → h.length ≤ length bytes
    → content ≡ drop 8 (take h.length bytes) → IsFront direction size bytes h content
is_front direction size bytes content h law all spelled none room behind =
    let whole = is_whole direction size bytes h law all spelled none room in
    (room, spelled, behind, whole)

-- ---- Packets one behind the other

fronts_then : (direction : Direction) (size : ℕ) (bytes rest content : List ℕ) (read : List TdsPacket) (p : TdsPacket) (h : Header) → AreFronts direction size bytes read rest → IsFront direction size rest h content → ShowsPacket p h
    → AreFronts direction size bytes (read ++ p ∷ []) (drop h.length rest)
unfolding AreFronts
fronts_then direction size bytes rest content [] p h fronts front shown = (h, content, rw fronts front, shown, rw fronts refl)
fronts_then direction size bytes rest content (x ∷ read) p h fronts front shown =
    (fronts.0, fronts.1, fronts.2, fronts.3, fronts_then direction size (drop fronts.0.length bytes) rest content read p h fronts.4 front shown)

pub no_fronts : (direction : Direction) (size : ℕ) (bytes : List ℕ) (room : List TdsPacket) → HaveFronts direction size bytes bytes (record { before = room; after = room; count = 0 })
unfolding AreFronts
no_fronts direction size bytes room = record { read = []; fronts = refl; written = (refl, refl) }

-- one more packet was read
pub fronts_on : (direction : Direction) (size : ℕ) (bytes rest behind content : List ℕ) (before after : List TdsPacket) (p : TdsPacket) (h : Header) (i : ℕ) → i < length before → IsFront direction size rest h content → ShowsPacket p h → behind ≡ drop h.length rest
    → HaveFronts direction size bytes rest (record { before = before; after = after; count = i }) → HaveFronts direction size bytes behind (record { before = before; after = slice_set after i p; count = i + 1 })
fronts_on direction size bytes rest behind content before after p h i within front shown left so_far = record {
  read = so_far.read ++ p ∷ [];
  fronts = rw left (fronts_then direction size bytes rest content so_far.read p h so_far.fronts front shown);
  written = written_on so_far.read before after p i so_far.written within;
}
