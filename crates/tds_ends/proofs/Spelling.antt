-- Bytes spell one list of packets and one rest.
use Rattle.std.proofs.Common.{◌≡◌, ◌∙◌, inl, inr, ℕ, List, [], ◌∷◌, ◌++◌, sym, ap, refl, None, append_assoc, append-nil, subst}
use Rattle.std.specs.List.{AllByRecursion}
use Rattle.tds_packet.specs.declared.header.Header.{Header}
use Rattle.tds_packet.specs.declared.kind.Direction.{Direction}
use Rattle.tds_packet.specs.Layout.{IsPacket, header_bytes}
use Rattle.tds_packet.specs.Reading.{Reading, fault_of}
use Rattle.tds_packet.specs.Stream.{IsOnePacket, IsLess}
use Rattle.tds_ends.specs.Feeding.{Coming, Comes, Spells, IsComing, IsBegun, bytes_of}
use Rattle.tds_ends.proofs.Streams.{Fronts}

-- What the packet layer says of packets at the front of the same bytes.
abbrev pub OnePacket : Type 0
OnePacket =
    (direction : Direction) (size : ℕ) (a b x y first second : List ℕ) (one other : Header)
    → IsPacket direction size a one first → IsPacket direction size b other second → a ++ x ≡ b ++ y
    → (a ≡ b) × (one ≡ other) × (first ≡ second) × (x ≡ y)

-- Of two lists of packets that the same bytes begin with, where no packet is behind the second, the first
-- is the front of the second.
pub record Behind (r : Reading) (ps qs : List Coming) (x y : List ℕ) : Type 0 where
  pub more : List Coming
  pub is : qs ≡ ps ++ more
  pub each : AllByRecursion (IsComing r) more
  pub left : x ≡ bytes_of more ++ y

same_coming : (p q : Coming) → p.bytes ≡ q.bytes → p.header ≡ q.header → p.content ≡ q.content → p ≡ q
same_coming p q b h c =
    ap (λ (x : List ℕ). record { bytes = x; header = p.header; content = p.content }) b
    ∙ ap (λ (x : Header). record { bytes = q.bytes; header = x; content = p.content }) h
    ∙ ap (λ (x : List ℕ). record { bytes = q.bytes; header = q.header; content = x }) c

pub behind : OnePacket → (r : Reading) (ps qs : List Coming) (x y : List ℕ) → AllByRecursion (IsComing r) ps → AllByRecursion (IsComing r) qs → bytes_of ps ++ x ≡ bytes_of qs ++ y → IsLess r y → Behind r ps qs x y
behind one r [] qs x y all each e less = record { more = qs; is = refl; each = each; left = e }
behind one r (p ∷ ps) [] x y all each e less =
    absurd (less p.bytes (bytes_of ps ++ x) (sym e ∙ append_assoc p.bytes (bytes_of ps) x) (p.header, p.content, all.0))
behind one r (p ∷ ps) (q ∷ qs) x y all each e less =
    let both = one r.direction r.size p.bytes q.bytes (bytes_of ps ++ x) (bytes_of qs ++ y) p.content q.content p.header q.header all.0 each.0
    (sym (append_assoc p.bytes (bytes_of ps) x) ∙ e ∙ append_assoc q.bytes (bytes_of qs) y) in
    let b : Behind r ps qs x y = behind one r ps qs x y all.1 each.1 both.3 less in
    record {
      more = b.more;
      is = ap (λ (z : Coming). z ∷ qs) (sym (same_coming p q both.0 both.1 both.2)) ∙ ap (λ (zs : List Coming). p ∷ zs) b.is;
      each = b.each;
      left = b.left;
    }

-- Where no packet begins what is left either, there is no more.
pub no_more : (r : Reading) (more : List Coming) (x y : List ℕ) → AllByRecursion (IsComing r) more → x ≡ bytes_of more ++ y → IsLess r x → (more ≡ []) × (x ≡ y)
no_more r [] x y each left less = (refl, left)
no_more r (p ∷ ps) x y each left less =
    absurd (less p.bytes (bytes_of ps ++ y) (left ∙ append_assoc p.bytes (bytes_of ps) y) (p.header, p.content, each.0))

pub spelled_once : OnePacket → (r : Reading) (bytes one other : List ℕ) (ps qs : List Coming) → Spells r bytes ps one → Spells r bytes qs other → (ps ≡ qs) × (one ≡ other)
spelled_once law r bytes one other ps qs s t =
    let b : Behind r ps qs one other = behind law r ps qs one other s.each t.each (sym s.joined ∙ t.joined) t.less in
    let none = no_more r b.more one other b.each b.left s.less in
    (sym (b.is ∙ ap (λ (zs : List Coming). ps ++ zs) none.0 ∙ append-nil ps), none.1)

-- ---- Packets, and then less than one

pub no_packet : (r : Reading) (packet more : List ℕ) → [] ≡ packet ++ more → ¬ IsOnePacket r packet
no_packet r [] more e one =
    let header : Header = one.0 in
    let s : [] ≡ header_bytes header ++ one.1 = one.2.laid_out.spelled in
    absurd (cc)
no_packet r (x ∷ xs) more e one = absurd (cc)

nothing : (xs ys : List ℕ) → [] ≡ xs ++ ys → ys ≡ []
nothing [] ys e = sym e
nothing (x ∷ xs) ys e = absurd (cc)

-- The beginning of a packet is less than one, and has no fault.
begun_less : OnePacket → (r : Reading) (front : List ℕ) → IsBegun r front → IsLess r front
begun_less one r front (inl e) packet more is whole = no_packet r packet more (sym e ∙ is) whole
begun_less one r front (inr (p, after, some, coming, e)) packet more is whole =
    let split : packet ++ (more ++ after) ≡ p.bytes ++ [] =
    sym (append_assoc packet more after) ∙ ap (λ (xs : List ℕ). xs ++ after) (sym is) ∙ sym e ∙ sym (append-nil p.bytes) in
    let both = one r.direction r.size packet p.bytes (more ++ after) [] whole.1 p.content whole.0 p.header whole.2 coming split in
    some (nothing more after (sym both.3))

begun_lawful : Fronts → (r : Reading) (front : List ℕ) → IsBegun r front → fault_of r front ≡ None
unfolding fault_of
begun_lawful fronts r front (inl e) = rw e refl
begun_lawful fronts r front (inr (p, after, some, coming, e)) =
    (fronts r front after p.content p.header (subst (λ (xs : List ℕ). IsPacket r.direction r.size xs p.header p.content) e coming)).0

pub comes_spelled : OnePacket → Fronts → (r : Reading) (bytes rest : List ℕ) (ps : List Coming) → Comes r bytes ps rest → Spells r bytes ps rest × (fault_of r rest ≡ None)
comes_spelled one fronts r bytes rest ps c =
    (record { each = c.each; less = begun_less one r rest c.begun; joined = c.joined }, begun_lawful fronts r rest c.begun)
