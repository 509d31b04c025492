-- Packets that begin other bytes.
use Rattle.std.proofs.Common.{◌≡◌, ℕ, ◌/◌, ◌%◌, inl, inr, ◌==◌, Option, Some, None, List, [], ◌∷◌, ◌++◌, length, refl, sym, ap, ◌∙◌, arith, append-nil}
use Rattle.std.proofs.lemmas.Bool.{cases_lt}
use Rattle.std.proofs.lemmas.List.{append_cancel_left}
use Rattle.std.proofs.Math.Nat.{div-add-mod}
use Rattle.std.specs.Prelude.{find}
use Rattle.tds_packet.specs.declared.kind.Kind.{Kind}
use Rattle.tds_packet.specs.declared.kind.Kind.TheVariants.{Batch, Procedure, Answer, Attention, BulkLoad, Transaction}
use Rattle.tds_packet.specs.declared.kind.Direction.{Direction}
use Rattle.tds_packet.specs.declared.status.Status.{Status}
use Rattle.tds_packet.specs.declared.header.Header.{Header}
use Rattle.tds_packet.specs.Layout.{kind_byte, bits_of, header_bytes, IsPacket}
use Rattle.tds_packet.specs.Reading.{Reading, fault_of, up_to_end, after_pieces, joined}
use Rattle.tds_packet.specs.Stream.{IsOnePacket}
use Rattle.tds_packet.proofs.Faulty.{header_fault-append, spelled_packet}
use Rattle.tds_packet.proofs.Readings.{fault_of-short, fault_of-long}
use Rattle.tds_packet.proofs.Cutting.{any_cutting, ends_at_packet}

pub whatever_follows : (r : Reading) (packet rest content : List ℕ) (h : Header) (pieces : List (List ℕ)) → IsPacket r.direction r.size packet h content → joined pieces ≡ packet ++ rest → after_pieces r [] pieces ≡ packet
whatever_follows r packet rest content h pieces p e = any_cutting r pieces ∙ ap (up_to_end r) e ∙ ends_at_packet r packet rest content h p

-- of one kind, if of one byte
abbrev of_byte : ℕ → Option Kind
of_byte byte = find (λ kind. kind_byte kind == byte) (Batch ∷ Procedure ∷ Answer ∷ Attention ∷ BulkLoad ∷ Transaction ∷ [])

of_byte-kind : (k : Kind) → of_byte (kind_byte k) ≡ Some k
of_byte-kind Batch = refl
of_byte-kind Procedure = refl
of_byte-kind Answer = refl
of_byte-kind Attention = refl
of_byte-kind BulkLoad = refl
of_byte-kind Transaction = refl

one_kind : (k l : Kind) → kind_byte k ≡ kind_byte l → k ≡ l
one_kind k l e =
    let this = of_byte-kind k in
    let that = of_byte-kind l in
    let same : Some k ≡ Some l = cc in
    cc

one_status : (s t : Status) → bits_of s ≡ bits_of t → s ≡ t
one_status s t e = ap (λ (n : ℕ). let u : Status = record { 0 = n } in u) e

-- of one number, if of one pair of bytes
one_number : (n m : ℕ) → n / 256 ≡ m / 256 → n % 256 ≡ m % 256 → n ≡ m
one_number n m high low = omega (arith, div-add-mod n 256, div-add-mod m 256)

one_header : (k l : Kind) (s t : Status) (a b c d e f g i : ℕ) → k ≡ l → s ≡ t → a ≡ b → c ≡ d → e ≡ f → g ≡ i
    → (let h : Header = record { kind = k; status = s; length = a; spid = c; packet_id = e; window = g } in h) ≡ record { kind = l; status = t; length = b; spid = d; packet_id = f; window = i }
one_header k l s t a b c d e f g i kinds states lengths spids ids windows = cc

-- what the bytes of two headers in front of their data show
pub record SameBytes (g h : Header) (first second : List ℕ) : Type 0 where
  pub headers : g ≡ h
  pub contents : first ≡ second

pub one_spelling : (g h : Header) (first second : List ℕ) → header_bytes g ++ first ≡ header_bytes h ++ second → SameBytes g h first second
one_spelling g h first second e =
    let kinds : kind_byte g.kind ≡ kind_byte h.kind = cc in
    let states : bits_of g.status ≡ bits_of h.status = cc in
    let length_high : g.length / 256 ≡ h.length / 256 = cc in
    let length_low : g.length % 256 ≡ h.length % 256 = cc in
    let spid_high : g.spid / 256 ≡ h.spid / 256 = cc in
    let spid_low : g.spid % 256 ≡ h.spid % 256 = cc in
    let ids : g.packet_id ≡ h.packet_id = cc in
    let windows : g.window ≡ h.window = cc in
    record {
      headers = one_header _ _ _ _ _ _ _ _ _ _ _ _ (one_kind _ _ kinds) (one_status _ _ states) (one_number _ _ length_high length_low) (one_number _ _ spid_high spid_low) ids windows;
      contents = cc;
    }

pub one_packet : (d : Direction) (s : ℕ) (a b x y first second : List ℕ) (g h : Header) → IsPacket d s a g first → IsPacket d s b h second → a ++ x ≡ b ++ y → (a ≡ b) × (g ≡ h) × (first ≡ second) × (x ≡ y)
one_packet d s a b x y first second g h p q e =
    let r : Reading = record { direction = d; size = s; taken = [] } in
    let same : a ≡ b = sym (ends_at_packet r a x first g p) ∙ ap (up_to_end r) e ∙ ends_at_packet r b y second h q in
    let bytes = one_spelling g h first second (sym p.laid_out.spelled ∙ same ∙ q.laid_out.spelled) in
    let rest : a ++ x ≡ a ++ y = e ∙ ap (λ (xs : List ℕ). xs ++ y) (sym same) in
    (same, bytes.headers, bytes.contents, append_cancel_left a x y rest)

-- the front of a packet
front_fault : (r : Reading) (front more content : List ℕ) (h : Header) → IsPacket r.direction r.size (front ++ more) h content → fault_of r front ≡ None
front_fault r front more content h p = elim (cases_lt (length front) 8) [
  | inl short ↦ fault_of-short r front short
  | inr long ↦ fault_of-long r front long ∙ sym (header_fault-append r.direction r.size front more long) ∙ (spelled_packet r.direction r.size (front ++ more) h content p).none
]

pub fronts : (r : Reading) (front more content : List ℕ) (h : Header) → IsPacket r.direction r.size (front ++ more) h content → (fault_of r front ≡ None) × (IsOnePacket r front → more ≡ [])
fronts r front more content h p = (
  front_fault r front more content h p,
  λ whole.
      let both = one_packet r.direction r.size front (front ++ more) more [] whole.1 content whole.0 h whole.2 p (sym (append-nil (front ++ more))) in both.3,
)
