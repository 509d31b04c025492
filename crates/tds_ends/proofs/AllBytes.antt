-- What a reader makes of all the bytes that ever came to it.
use Rattle.std.proofs.Common.{◌≡◌, ◌∙◌, ◌≤◌, ℕ, List, [], ◌∷◌, ◌++◌, length, take, ap, refl, subst, sym, arith, Option, Some, None, append_assoc, append-nil, length-append}
use Rattle.std.proofs.Math.Seq.{take-append_seam}
use Rattle.std.specs.List.{AllByRecursion}
use Rattle.tds_packet.specs.declared.fault.PacketFault.{PacketFault}
use Rattle.tds_packet.specs.declared.kind.Direction.{Direction}
use Rattle.tds_packet.specs.Faults.{header_fault}
use Rattle.tds_packet.specs.Reading.{Reading, with_taken, fault_of}
use Rattle.tds_packet.specs.Stream.{IsLess}
use Rattle.tds_ends.specs.AllBytes.{AreWhole, HasFault, HasNoFault, HasRead, ServerReads, new_reader}
use Rattle.tds_ends.specs.declared.serving.ServerStop.{ServerStop}
use Rattle.tds_ends.specs.declared.serving.ServerStop.TheVariants.{Packet, Server, NoMemory}
use Rattle.tds_ends.specs.Ends.{Feeds, Stop, Drained, Faulty, server_stops}
use Rattle.tds_ends.specs.Feeding.{Coming, IsComing, bytes_of}
use Rattle.tds_ends.proofs.Spelling.{Behind, OnePacket, behind, no_packet}
use Rattle.tds_ends.proofs.Streams.{Fronts, long, same_fault}

pub no_fault_yet : (r : Reading) → fault_of r [] ≡ None
unfolding fault_of
no_fault_yet r = refl

pub nothing_read : (direction : Direction) (size : ℕ) → HasRead (new_reader direction size) (new_reader direction size) [] []
nothing_read direction size = record {
  same = refl;
  whole = record { each = tt; joined = refl };
  less = no_packet (new_reader direction size);
  lawful = no_fault_yet (new_reader direction size);
}

-- ---- No fault

has_header : (r : Reading) (p : Coming) → IsComing r p → 8 ≤ length p.bytes
has_header r p is = let long = ap length is.laid_out.spelled in omega (arith, long)

-- A header that begins a packet has no fault.
packet_lawful : Fronts → (r : Reading) (p : Coming) (more : List ℕ) → IsComing r p → fault_of r (p.bytes ++ more) ≡ None
packet_lawful fronts r p more is =
    let many : 8 ≤ length p.bytes = has_header r p is in
    let front : take (length p.bytes) (p.bytes ++ more) ≡ p.bytes = take-append_seam p.bytes more in
    long r (p.bytes ++ more) (omega (arith, many, length-append p.bytes more))
    ∙ sym (same_fault r (length p.bytes) (p.bytes ++ more) many)
    ∙ ap (header_fault r.direction r.size) front
    ∙ sym (long r p.bytes many)
    ∙ (fronts r p.bytes [] p.content p.header (rw (append-nil p.bytes) is)).0

behind_lawful : Fronts → (r : Reading) (more : List Coming) (rest left : List ℕ) → AllByRecursion (IsComing r) more → rest ≡ bytes_of more ++ left
    → fault_of r left ≡ None → fault_of r rest ≡ None
behind_lawful fronts r [] rest left each is lawful = ap (fault_of r) is ∙ lawful
behind_lawful fronts r (p ∷ ps) rest left each is lawful =
    ap (fault_of r) (is ∙ append_assoc p.bytes (bytes_of ps) left) ∙ packet_lawful fronts r p (bytes_of ps ++ left) each.0

pub read_lawful : OnePacket → Fronts → (first now : Reading) (bytes : List ℕ) (packets : List Coming) → HasRead first now bytes packets → HasNoFault first bytes
read_lawful one fronts first now bytes packets read fault found =
    let b : Behind first found.packets packets found.rest now.taken =
    behind one first found.packets packets found.rest now.taken found.whole.each read.whole.each (sym found.whole.joined ∙ read.whole.joined) read.less in
    let none : fault_of first found.rest ≡ None = behind_lawful fronts first b.more found.rest now.taken b.each b.left read.lawful in
    let some = found.faulty in
    absurd (cc)

-- ---- A piece more

fault_then : (r : Reading) (held bytes : List ℕ) → fault_of (with_taken r held) bytes ≡ fault_of r bytes
unfolding fault_of
fault_then r held bytes = refl

all_and : {A : Type 0} (P : A → Type 0) (xs ys : List A) → AllByRecursion P xs → AllByRecursion P ys → AllByRecursion P (xs ++ ys)
all_and P [] ys all more = more
all_and P (x ∷ xs) ys all more = (all.0, all_and P xs ys all.1 more)

pub bytes_and : (ps qs : List Coming) → bytes_of (ps ++ qs) ≡ bytes_of ps ++ bytes_of qs
bytes_and [] qs = refl
bytes_and (p ∷ ps) qs = ap (λ (xs : List ℕ). p.bytes ++ xs) (bytes_and ps qs) ∙ sym (append_assoc p.bytes (bytes_of ps) (bytes_of qs))

-- All bytes, where a reader that held the end of those before was fed.
pub whole_then : (first r new : Reading) (bytes piece : List ℕ) (packets more : List Coming) (count : ℕ) (stop : Stop) (left : List ℕ)
    → HasRead first r bytes packets → Feeds r new piece count stop more left → AreWhole first (bytes ++ piece) (packets ++ more) left
whole_then first r new bytes piece packets more count stop left read feeds = record {
  each = all_and (IsComing first) packets more read.whole.each (subst (λ (x : Reading). AllByRecursion (IsComing x) more) read.same feeds.each);
  joined =
      ap (λ (xs : List ℕ). xs ++ piece) read.whole.joined ∙ append_assoc (bytes_of packets) r.taken piece
      ∙ ap (λ (xs : List ℕ). bytes_of packets ++ xs) feeds.joined
      ∙ sym (append_assoc (bytes_of packets) (bytes_of more) left)
      ∙ ap (λ (xs : List ℕ). xs ++ left) (sym (bytes_and packets more));
}

-- It took them all, and no packet is whole behind them.
pub drained : (first r new : Reading) (bytes piece : List ℕ) (packets more : List Coming) (count : ℕ) (left : List ℕ)
    → HasRead first r bytes packets → Feeds r new piece count Drained more left → HasRead first new (bytes ++ piece) (packets ++ more)
drained first r new bytes piece packets more count left read feeds =
    let held : new.taken ≡ left = feeds.is_left.2 in
    record {
      same = feeds.same ∙ ap (λ (x : Reading). with_taken x new.taken) read.same;
      whole = subst (AreWhole first (bytes ++ piece) (packets ++ more)) (sym held) (whole_then first r new bytes piece packets more count Drained left read feeds);
      less = subst (IsLess first) (sym held) (subst (λ (x : Reading). IsLess x left) read.same feeds.is_left.0);
      lawful =
          ap (fault_of first) held ∙ sym (fault_then first r.taken left)
          ∙ sym (ap (λ (x : Reading). fault_of x left) read.same) ∙ feeds.is_left.1;
    }

-- The header behind them has a fault.
pub met_fault : (first r new : Reading) (bytes piece : List ℕ) (packets more : List Coming) (count : ℕ) (left : List ℕ) (fault : PacketFault)
    → HasRead first r bytes packets → Feeds r new piece count (Faulty fault) more left → HasFault first (bytes ++ piece) fault
met_fault first r new bytes piece packets more count left fault read feeds = record {
  packets = packets ++ more;
  rest = left;
  whole = whole_then first r new bytes piece packets more count (Faulty fault) left read feeds;
  faulty = sym (fault_then first r.taken left) ∙ sym (ap (λ (x : Reading). fault_of x left) read.same) ∙ feeds.is_left.1;
}

pub server_reads : (stop : Option ServerStop) (first r new : Reading) (bytes piece : List ℕ) (packets more : List Coming) (count : ℕ) (left : List ℕ)
    → HasRead first r bytes packets → Feeds r new piece count (server_stops stop) more left → ServerReads stop first new (bytes ++ piece)
server_reads None first r new bytes piece packets more count left read feeds =
    (packets ++ more, drained first r new bytes piece packets more count left read feeds)
server_reads (Some (Packet fault)) first r new bytes piece packets more count left read feeds =
    met_fault first r new bytes piece packets more count left fault read feeds
server_reads (Some (Server fault)) first r new bytes piece packets more count left read feeds = tt
server_reads (Some NoMemory) first r new bytes piece packets more count left read feeds = tt
