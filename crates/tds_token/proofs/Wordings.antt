-- Texts and messages.
use Rattle.std.proofs.Common.{◌≡◌, ℕ, zero, suc, ◌+◌, ◌-◌, ◌*◌, ◌^◌, ◌<◌, ◌≤◌, false, ltb, List, [], ◌∷◌, ◌++◌, length, take, drop, Ok, refl, sym, ap, subst, ◌∙◌, append_assoc, arith}
use Rattle.std.specs.Int.{w16, to_le_bytes, from_le_bytes}
use Rattle.std.proofs.lemmas.Bool.{ltb-false, le-ltb}
use Rattle.std.proofs.lemmas.List.{take_at, drop_at, take-append-drop, length-append, length-take}
use Rattle.std.proofs.lemmas.List.Concat.{flat_map-cons}
use Rattle.std.proofs.lemmas.Nat.{le_bytes_2, from_le_bytes-to_le_bytes_2}
use Rattle.tds_token.specs.declared.fault.TokenFault.{TokenFault}
use Rattle.tds_token.specs.declared.fault.TokenFault.TheVariants.{WrongLength}
use Rattle.tds_token.specs.Texts.{units_of, units_bytes}
use Rattle.tds_token.specs.Layout.{AreUnits, long_text, short_text}
use Rattle.tds_token.specs.Reading.{number_at, byte_at, units_at, long_text_at, short_text_at}
use Rattle.tds_token.proofs.Fields.{IsBytes, IsBytes-rest, IsBytes-take, IsBytes-drop, IsField, bind_ok, guard_ok, wide16, number_field, byte_field}

pub record AreBack (front units : List ℕ) (n : ℕ) : Type 0 where
  pub bytes : units_bytes units ≡ front
  pub count : length units ≡ n
  pub ranged : AreUnits units

one_unit : (a b : ℕ) → IsBytes (a ∷ b ∷ []) → to_le_bytes w16 (a + 256 * b) ≡ a ∷ b ∷ []
one_unit a b fits = le_bytes_2 (a ∷ b ∷ []) (a + 256 * b) refl fits (omega arith)

IsBytes-two : (a b : ℕ) (rest : List ℕ) → IsBytes (a ∷ b ∷ rest) → IsBytes (a ∷ b ∷ [])
IsBytes-two a b rest fits zero = fits 0
IsBytes-two a b rest fits (suc zero) = fits 1
IsBytes-two a b rest fits (suc (suc i)) = omega arith

units_back : (front : List ℕ) (n : ℕ) → length front ≡ 2 * n → IsBytes front → AreBack front (units_of front) n
units_back [] n e fits = record { bytes = refl; count = omega arith; ranged = tt }
units_back (a ∷ []) n e fits = absurd (omega arith)
units_back (a ∷ b ∷ rest) n e fits =
    let r = units_back rest (n - 1) (omega arith) (IsBytes-rest b rest (IsBytes-rest a (b ∷ rest) fits)) in
    let one = one_unit a b (IsBytes-two a b rest fits) in
    record {
      bytes = flat_map-cons (λ unit. to_le_bytes w16 unit) (a + 256 * b) (units_of rest) ∙ ap (λ (x : List ℕ). x ++ units_bytes (units_of rest)) one ∙ ap (λ (x : List ℕ). a ∷ b ∷ x) r.bytes;
      count = omega (arith, r.count);
      ranged = (omega (arith, fits 0, fits 1), r.ranged);
    }

pub units_length : (units : List ℕ) → length (units_bytes units) ≡ 2 * length units
units_length [] = refl
units_length (u ∷ units) =
    let r = units_length units in
    ap length (flat_map-cons (λ unit. to_le_bytes w16 unit) u units) ∙ omega (arith, r)

units_again_of : (units : List ℕ) → AreUnits units → units_of (units_bytes units) ≡ units
units_again_of [] h = refl
units_again_of (u ∷ units) h =
    let same : from_le_bytes w16 (to_le_bytes w16 u) ≡ u = from_le_bytes-to_le_bytes_2 u h.0 in
    ap units_of (flat_map-cons (λ unit. to_le_bytes w16 unit) u units) ∙ ap (λ (x : ℕ). x ∷ units_of (units_bytes units)) (omega (arith, same)) ∙ ap (λ (x : List ℕ). u ∷ x) (units_again_of units h.1)

pub units_takes : (short : TokenFault) (n : ℕ) (bytes units rest : List ℕ) → IsBytes bytes → units_at short n bytes ≡ Ok (units, rest) → (bytes ≡ units_bytes units ++ rest) × (length units ≡ n) × AreUnits units × IsBytes rest
units_takes short n bytes units rest fits e =
    let g = guard_ok (ltb (length bytes) (2 * n)) short (units_of (take (2 * n) bytes), drop (2 * n) bytes) (units, rest) e in
    let long : 2 * n ≤ length bytes = ltb-false _ _ g.0 in
    let r = units_back (take (2 * n) bytes) n (omega (arith, length-take (2 * n) bytes)) (IsBytes-take (2 * n) bytes fits) in
    subst (λ (x : List ℕ × List ℕ). (bytes ≡ units_bytes x.0 ++ x.1) × (length x.0 ≡ n) × AreUnits x.0 × IsBytes x.1) g.1
    (rw r.bytes (sym (take-append-drop (2 * n) bytes)), r.count, r.ranged, IsBytes-drop (2 * n) bytes fits)

pub units_again : (short : TokenFault) (units rest : List ℕ) → AreUnits units → units_at short (length units) (units_bytes units ++ rest) ≡ Ok (units, rest)
units_again short units rest h =
    let len = units_length units in
    let long : ltb (length (units_bytes units ++ rest)) (2 * length units) ≡ false = le-ltb _ _ (omega (arith, length-append (units_bytes units) rest)) in
    rw (long, take_at (units_bytes units) rest (2 * length units) len, drop_at (units_bytes units) rest (2 * length units) len, units_again_of units h) refl

abbrev pub IsLong : List ℕ → Type 0
IsLong units = (length units < 2 ^ 16) × AreUnits units

abbrev pub IsShort : List ℕ → Type 0
IsShort units = (length units < 256) × AreUnits units

long_takes : (bytes units rest : List ℕ) → IsBytes bytes → long_text_at bytes ≡ Ok (units, rest) → (bytes ≡ long_text units ++ rest) × IsLong units × IsBytes rest
unfolding long_text_at
long_takes bytes units rest fits e =
    let a = bind_ok (number_at WrongLength w16 bytes) (λ n. units_at WrongLength n.0 n.1) (units, rest) e in
    let ta = (number_field WrongLength w16 (2 ^ 16) wide16).takes bytes a.0.0 a.0.1 fits a.1 in
    let tb = units_takes WrongLength a.0.0 a.0.1 units rest ta.2 a.2 in
    (ta.0 ∙ ap (λ (x : List ℕ). to_le_bytes w16 a.0.0 ++ x) tb.0 ∙ ap (λ (n : ℕ). to_le_bytes w16 n ++ (units_bytes units ++ rest)) (sym tb.1) ∙ sym (append_assoc (to_le_bytes w16 (length units)) (units_bytes units) rest), (rw tb.1 ta.1, tb.2), tb.3)

long_again : (units rest : List ℕ) → IsLong units → long_text_at (long_text units ++ rest) ≡ Ok (units, rest)
unfolding long_text_at
long_again units rest h =
    rw ((number_field WrongLength w16 (2 ^ 16) wide16).again (length units) (units_bytes units ++ rest) h.0, units_again WrongLength units rest h.1) refl

pub long_field : IsField long_text_at long_text IsLong
long_field = record { takes = long_takes; again = long_again }

short_takes : (bytes units rest : List ℕ) → IsBytes bytes → short_text_at bytes ≡ Ok (units, rest) → (bytes ≡ short_text units ++ rest) × IsShort units × IsBytes rest
unfolding short_text_at
short_takes bytes units rest fits e =
    let a = bind_ok (byte_at WrongLength bytes) (λ n. units_at WrongLength n.0 n.1) (units, rest) e in
    let ta = (byte_field WrongLength).takes bytes a.0.0 a.0.1 fits a.1 in
    let tb = units_takes WrongLength a.0.0 a.0.1 units rest ta.2 a.2 in
    (ta.0 ∙ ap (λ (x : List ℕ). a.0.0 ∷ x) tb.0 ∙ ap (λ (n : ℕ). n ∷ (units_bytes units ++ rest)) (sym tb.1), (rw tb.1 ta.1, tb.2), tb.3)

short_again : (units rest : List ℕ) → IsShort units → short_text_at (short_text units ++ rest) ≡ Ok (units, rest)
unfolding short_text_at
short_again units rest h = units_again WrongLength units rest h.1

pub short_field : IsField short_text_at short_text IsShort
short_field = record { takes = short_takes; again = short_again }
