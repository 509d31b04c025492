-- Packets that lie whole in a piece.
use Rattle.std.proofs.Common.{◌≡◌, ◌∙◌, ◌+◌, ◌-◌, ◌<◌, ◌≤◌, ◌≢◌, ℕ, List, [], ◌++◌, length, take, drop, sym, ap, refl, subst, Some, None, append_assoc, append-nil, arith, length-append, length-drop}
use Rattle.std.proofs.lemmas.Grind.{flat_map-append}
use Rattle.std.proofs.lemmas.List.{take_at, take-append-drop, length-take-le}
use Rattle.std.proofs.lemmas.Bool.{ltb-false}
use Rattle.tds_packet.specs.declared.fault.PacketFault.{PacketFault}
use Rattle.tds_packet.specs.declared.header.Header.{Header}
use Rattle.tds_packet.specs.declared.kind.Direction.{Direction}
use Rattle.tds_packet.specs.Faults.{header_fault, length_field}
use Rattle.tds_packet.specs.Layout.{header_bytes}
use Rattle.tds_packet.specs.Reading.{Reading, with_taken, fault_of}
use Rattle.tds_packet.specs.Stream.{IsLess}
use Rattle.tds_packet.proofs.Faulty.{header_fault-append, header_fault-header, length_field-append, length_field-header, packet_of, passes, spelled_packet}
use Rattle.tds_ends.specs.AllBytes.{new_reader}
use Rattle.tds_ends.specs.Ends.{Stop, Drained, Feeds, IsLeft}
use Rattle.tds_ends.specs.Feeding.{Coming, IsComing, bytes_of}
use Rattle.tds_ends.specs.Lent.{IsFront, LentTo, WantsRoom}
use Rattle.tds_ends.proofs.AllBytes.{no_fault_yet}
use Rattle.tds_ends.proofs.Cutting.{all_both, stops_so}
use Rattle.tds_ends.proofs.Feeding.{SoFar, fed_on, nothing_left, slice_rest}

-- ---- The front of some bytes

-- A header without a fault counts its own eight bytes.
pub counts_itself : (direction : Direction) (size : ℕ) (h : Header) (first : List ℕ) → header_bytes h ≡ first → header_fault direction size first ≡ None → 8 ≤ h.length
counts_itself direction size h first spelled none =
    let own : header_fault direction size (header_bytes h ++ []) ≡ None = ap (header_fault direction size) (append-nil (header_bytes h) ∙ spelled) ∙ none in
    ltb-false h.length 8 (passes direction size _ _ _ (sym (header_fault-header direction size h []) ∙ own)).long

-- So many bytes behind it are its data.
pub is_front : (direction : Direction) (size : ℕ) (h : Header) (first content behind : List ℕ) → header_bytes h ≡ first → header_fault direction size first ≡ None → length content ≡ h.length - 8 → IsFront direction size (first ++ (content ++ behind)) h content
is_front direction size h first content behind spelled none counted =
    let own : header_fault direction size (header_bytes h ++ []) ≡ None = ap (header_fault direction size) (append-nil (header_bytes h) ∙ spelled) ∙ none in
    let least = counts_itself direction size h first spelled none in (
      behind,
      ap (λ (xs : List ℕ). xs ++ (content ++ behind)) (sym spelled) ∙ sym (append_assoc (header_bytes h) content behind),
      packet_of direction size h content (sym (header_fault-header direction size h []) ∙ own) (omega (arith, least, counted)),
    )

pub fronted : (direction : Direction) (size : ℕ) (h : Header) (bytes first rest content : List ℕ) (n : ℕ) → bytes ≡ first ++ rest → header_bytes h ≡ first → header_fault direction size first ≡ None → n ≡ h.length - 8 → n ≤ length rest → content ≡ take n rest → IsFront direction size bytes h content
fronted direction size h bytes first rest content n all spelled none counted within is =
    let cut : bytes ≡ first ++ (content ++ drop n rest) = all ∙ ap (λ (xs : List ℕ). first ++ xs) (sym (take-append-drop n rest) ∙ ap (λ (xs : List ℕ). xs ++ drop n rest) (sym is)) in
    let long : length content ≡ h.length - 8 = ap length is ∙ length-take-le n rest within ∙ counted in
    subst (λ (xs : List ℕ). IsFront direction size xs h content) (sym cut) (is_front direction size h first content (drop n rest) spelled none long)

-- Fewer bytes than a header begin with no packet.
pub too_few : (r : Reading) (bytes : List ℕ) → length bytes < 8 → IsLess r bytes
too_few r bytes few packet more e (header, content, is) =
    let long = (spelled_packet r.direction r.size packet header content is).long in
    let sum = length-append packet more in
    let all = ap length e in
    absurd (omega (arith, few, long, sum, all))

-- A header that has a fault begins none.
pub faulty_front : (r : Reading) (first rest : List ℕ) (fault : PacketFault) → length first ≡ 8 → header_fault r.direction r.size first ≡ Some fault → IsLess r (first ++ rest)
faulty_front r first rest fault long found packet more e (header, content, is) =
    let s = spelled_packet r.direction r.size packet header content is in
    let none : header_fault r.direction r.size first ≡ None = sym (header_fault-append r.direction r.size first rest (omega (arith, long))) ∙ ap (header_fault r.direction r.size) e ∙ header_fault-append r.direction r.size packet more s.long ∙ s.none in
    absurd (cc)

-- Nor does one with too few bytes behind it.
pub short_front : (r : Reading) (h : Header) (first rest : List ℕ) → header_bytes h ≡ first → length rest < h.length - 8 → IsLess r (first ++ rest)
short_front r h first rest spelled short packet more e (header, content, is) =
    let s = spelled_packet r.direction r.size packet header content is in
    let all : header_bytes h ++ rest ≡ packet ++ more = ap (λ (xs : List ℕ). xs ++ rest) spelled ∙ e in
    let counted : h.length ≡ length packet = sym (length_field-header h rest) ∙ ap length_field all ∙ length_field-append packet more s.long ∙ s.counted in
    let sum = length-append packet more in
    let both = length-append (header_bytes h) rest in
    let whole = ap length all in
    absurd (omega (arith, short, counted, sum, both, whole))

-- ---- One packet more

-- A reader that takes the front of what is left holds that packet.
pub lent_on : (r : Reading) (piece bytes behind : List ℕ) (count : ℕ) (packets : List Coming) → r.taken ≡ [] → SoFar r r piece count packets → drop count piece ≡ bytes ++ behind → SoFar r (with_taken r bytes) piece (count + length bytes) packets
lent_on r piece bytes behind count packets empty so is =
    fed_on r r (with_taken r bytes) piece count (length bytes) packets so
    (rw empty (sym (ap (take (length bytes)) is ∙ take_at bytes behind (length bytes) refl)))
    refl

pub front_length : (h : Header) (content : List ℕ) → length (header_bytes h ++ content) ≡ 8 + length content
front_length h content = omega (arith, length-append (header_bytes h) content)

pub lent_within : (piece : List ℕ) (header : Header) (content behind : List ℕ) (count : ℕ) → drop count piece ≡ (header_bytes header ++ content) ++ behind → count ≤ length piece → count + (8 + length content) ≤ length piece
lent_within piece header content behind count is within =
    omega (arith, ap length is, length-append (header_bytes header ++ content) behind, front_length header content, length-drop count piece, within)

-- What is in front of the rest of a piece.
pub front_at : (direction : Direction) (size : ℕ) (piece content : List ℕ) (header : Header) (count : ℕ) → IsFront direction size (take (length piece - count) (drop count piece)) header content → IsFront direction size (drop count piece) header content
front_at direction size piece content header count front =
    subst (λ (xs : List ℕ). IsFront direction size xs header content) (slice_rest count piece) front

-- The packet in front is done with.
pub front_on : (direction : Direction) (size : ℕ) (piece content : List ℕ) (header : Header) (count n : ℕ) (packets : List Coming) → SoFar (new_reader direction size) (new_reader direction size) piece count packets → IsFront direction size (drop count piece) header content → n ≡ 8 + length content → SoFar (new_reader direction size) (with_taken (new_reader direction size) (header_bytes header ++ content)) piece (count + n) packets
front_on direction size piece content header count n packets so front long =
    let r : Reading = new_reader direction size in
    let bytes : List ℕ = header_bytes header ++ content in
    subst (λ (k : ℕ). SoFar r (with_taken r bytes) piece (count + k) packets) (front_length header content ∙ sym long)
    (lent_on r piece bytes front.0 count packets refl so front.1)

-- ---- Where a core stopped

-- In front of what is left of the piece.
pub lent_up_to : {Core : Type 0} (Took : List Coming → Core → Type 0) (Leaves : List ℕ → List ℕ → Core → Type 0) (direction : Direction) (size : ℕ) (piece : List ℕ) (count : ℕ) (packets : List Coming) (then : Core) → SoFar (new_reader direction size) (new_reader direction size) piece count packets → Took packets then → Leaves (drop count piece) (drop count piece) then → LentTo (new_reader direction size) piece count Took Leaves
lent_up_to Took Leaves direction size piece count packets then so took leaves = record {
  packets = packets;
  left = drop count piece;
  then = then;
  each = so.each;
  joined = so.joined;
  took = took;
  leaves = leaves;
}

-- Behind the packet in front, which it didn't take.
pub lent_behind : {Core : Type 0} (Took : List Coming → Core → Type 0) (Leaves : List ℕ → List ℕ → Core → Type 0) (direction : Direction) (size : ℕ) (piece content : List ℕ) (header : Header) (count n : ℕ) (packets : List Coming) (then : Core) → SoFar (new_reader direction size) (new_reader direction size) piece count packets → IsFront direction size (drop count piece) header content → n ≡ 8 + length content → Took packets then → Leaves ((header_bytes header ++ content) ++ drop (count + n) piece) (drop (count + n) piece) then → LentTo (new_reader direction size) piece (count + n) Took Leaves
lent_behind Took Leaves direction size piece content header count n packets then so front long took leaves = record {
  packets = packets;
  left = (header_bytes header ++ content) ++ drop (count + n) piece;
  then = then;
  each = so.each;
  joined = (front_on direction size piece content header count n packets so front long).joined;
  took = took;
  leaves = leaves;
}

-- As before, but it says otherwise why.
pub lent_still : {Core : Type 0} (Took Takes : List Coming → Core → Type 0) (Left Leaves : List ℕ → List ℕ → Core → Type 0) (r : Reading) (piece : List ℕ) (count : ℕ) → (l : LentTo r piece count Took Left) → Takes l.packets l.then → Leaves l.left (drop (count + 0) piece) l.then → LentTo r piece (count + 0) Takes Leaves
lent_still Took Takes Left Leaves r piece count l took leaves = record {
  packets = l.packets;
  left = l.left;
  then = l.then;
  each = l.each;
  joined = l.joined;
  took = took;
  leaves = leaves;
}

-- ---- And then the rest

-- There was none.
pub feeds_whole : {Core : Type 0} (Took : List Coming → Core → Type 0) (Leaves : List ℕ → List ℕ → Core → Type 0) (r : Reading) (piece : List ℕ) (count : ℕ) → (l : LentTo r piece count Took Leaves) → r.taken ≡ [] → count ≡ length piece → l.left ≡ drop count piece → IsLess r l.left → Feeds r r piece count Drained l.packets l.left
feeds_whole Took Leaves r piece count l empty all is less =
    let nothing : l.left ≡ [] = is ∙ ap (λ (k : ℕ). drop k piece) all ∙ nothing_left piece in
    record {
      each = l.each;
      joined = ap (λ (xs : List ℕ). xs ++ piece) empty ∙ l.joined;
      same = refl;
      is_left = (less, subst (λ (xs : List ℕ). fault_of r xs ≡ None) (sym nothing) (no_fault_yet r), empty ∙ sym nothing, all);
    }

-- There was some, and no buffer for it.
pub rest_wants_room : (r : Reading) (piece left : List ℕ) (count : ℕ) → count ≤ length piece → count ≢ length piece → left ≡ drop count piece → IsLess r left → WantsRoom r left
rest_wants_room r piece left count within more is less =
    (less, λ nothing. more (omega (arith, within, length-drop count piece, ap length (sym is ∙ nothing))))

-- It went through the reader.
pub feeds_behind : {Core : Type 0} (Took : List Coming → Core → Type 0) (Leaves : List ℕ → List ℕ → Core → Type 0) (stop : Stop) (r new : Reading) (piece left : List ℕ) (count second : ℕ) (qs : List Coming) → (l : LentTo r piece count Took Leaves) → r.taken ≡ [] → count ≤ length piece → l.left ≡ drop count piece → Feeds r new (drop count piece) second stop qs left → Feeds r new piece (count + second) stop (l.packets ++ qs) left
feeds_behind Took Leaves stop r new piece left count second qs l empty within is b =
    let rest : List ℕ = drop count piece in
    let again : rest ≡ bytes_of qs ++ left = rw empty at b.joined in
    record {
      each = all_both (IsComing r) l.packets qs l.each b.each;
      joined =
          ap (λ (xs : List ℕ). xs ++ piece) empty ∙ l.joined
          ∙ ap (λ (xs : List ℕ). bytes_of l.packets ++ xs) (is ∙ again)
          ∙ sym (append_assoc (bytes_of l.packets) (bytes_of qs) left)
          ∙ ap (λ (xs : List ℕ). xs ++ left) (sym (flat_map-append (λ (q : Coming). q.bytes) l.packets qs));
      same = b.same;
      is_left =
          subst (λ (xs : List ℕ). IsLeft stop r new xs (count + second) left) (append-nil piece)
          (stops_so stop r r new piece [] left count second within refl
          (subst (λ (xs : List ℕ). IsLeft stop r new xs second left) (sym (append-nil rest)) b.is_left));
    }
