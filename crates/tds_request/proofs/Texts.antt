-- A text and its bytes.
use Rattle.std.proofs.Common.{◌≡◌, ℕ, zero, suc, ◌+◌, ◌-◌, ◌*◌, ◌/◌, ◌%◌, ◌<◌, ◌≤◌, Bool, true, false, nat_le, ◌&&◌, ◌==◌, List, [], ◌∷◌, ◌++◌, length, refl, ap, ◌∙◌, arith}
use Rattle.std.specs.Int.{w16, to_le_bytes, from_le_bytes}
use Rattle.std.specs.List.{AllByRecursion}
use Rattle.std.proofs.lemmas.List.Concat.{flat_map-cons}
use Rattle.std.proofs.lemmas.List.Elements.{recursion_from_All, All-from_recursion}
use Rattle.std.proofs.lemmas.Bool.{eqb-true, leb-true, le-leb}
use Rattle.std.proofs.Math.Nat.{div-add-mod}
use Rattle.std.proofs.lemmas.Nat.{le_bytes_2, from_le_bytes-to_le_bytes_2}
use Rattle.tds_request.specs.Values.{AreUnits, IsBatchText}
use Rattle.tds_request.specs.Layout.{text_bytes}
use Rattle.tds_request.specs.Reading.{units_of, is_text_length}
use Rattle.tds_request.proofs.Readers.{IsBytes, IsBytes-rest}

abbrev AreLow : List ℕ → Type 0
AreLow units = AllByRecursion (λ unit. unit < 65536) units

record AreBack (bytes units : List ℕ) (n : ℕ) : Type 0 where
  pub spelled : text_bytes units ≡ bytes
  pub count : length units ≡ n
  pub low : AreLow units

one_unit : (a b : ℕ) → IsBytes (a ∷ b ∷ []) → to_le_bytes w16 (a + 256 * b) ≡ a ∷ b ∷ []
one_unit a b fits = le_bytes_2 (a ∷ b ∷ []) (a + 256 * b) refl fits (omega arith)

IsBytes-two : (a b : ℕ) (rest : List ℕ) → IsBytes (a ∷ b ∷ rest) → IsBytes (a ∷ b ∷ [])
IsBytes-two a b rest fits zero = fits 0
IsBytes-two a b rest fits (suc zero) = fits 1
IsBytes-two a b rest fits (suc (suc i)) = omega arith

units_back : (bytes : List ℕ) (n : ℕ) → length bytes ≡ 2 * n → IsBytes bytes → AreBack bytes (units_of bytes) n
units_back [] n e fits = record { spelled = refl; count = omega arith; low = tt }
units_back (a ∷ []) n e fits = absurd (omega arith)
units_back (a ∷ b ∷ rest) n e fits =
    let r = units_back rest (n - 1) (omega arith) (IsBytes-rest b rest (IsBytes-rest a (b ∷ rest) fits)) in
    let one = one_unit a b (IsBytes-two a b rest fits) in
    record {
      spelled = flat_map-cons (λ unit. to_le_bytes w16 unit) (a + 256 * b) (units_of rest) ∙ ap (λ (x : List ℕ). x ++ text_bytes (units_of rest)) one ∙ ap (λ (x : List ℕ). a ∷ b ∷ x) r.spelled;
      count = omega (arith, r.count);
      low = (omega (arith, fits 0, fits 1), r.low);
    }

pub text_length : (units : List ℕ) → length (text_bytes units) ≡ 2 * length units
text_length [] = refl
text_length (u ∷ units) =
    let r = text_length units in
    ap length (flat_map-cons (λ unit. to_le_bytes w16 unit) u units) ∙ omega (arith, r)

again_of : (units : List ℕ) → AreLow units → units_of (text_bytes units) ≡ units
again_of [] h = refl
again_of (u ∷ units) h =
    let same : from_le_bytes w16 (to_le_bytes w16 u) ≡ u = from_le_bytes-to_le_bytes_2 u h.0 in
    ap units_of (flat_map-cons (λ unit. to_le_bytes w16 unit) u units) ∙ ap (λ (x : ℕ). x ∷ units_of (text_bytes units)) (omega (arith, same)) ∙ ap (λ (x : List ℕ). u ∷ x) (again_of units h.1)

-- the units of a text's bytes are the text's
pub units_again : (units : List ℕ) → AreUnits units → units_of (text_bytes units) ≡ units
units_again units h = again_of units (recursion_from_All (λ unit. unit < 65536) units h)

-- a length of a text is twice a count from 1 to 2,000
record IsTwice (n : ℕ) : Type 0 where
  pub half : n ≡ 2 * (n / 2)
  pub least : 1 ≤ n / 2
  pub most : n / 2 ≤ 2000

both : (a b : Bool) → (a && b) ≡ true → (a ≡ true) × (b ≡ true)
both true b e = (refl, e)
both false b e = absurd cc

twice : (n : ℕ) → is_text_length n ≡ true → IsTwice n
twice n h =
    let a = both (nat_le 1 n && (n % 2 == 0)) (nat_le n 4000) h in
    let b = both (nat_le 1 n) (n % 2 == 0) a.0 in
    let least : 1 ≤ n = leb-true _ _ b.0 in
    let even : n % 2 ≡ 0 = eqb-true _ _ b.1 in
    let most : n ≤ 4000 = leb-true _ _ a.1 in
    let parts = div-add-mod n 2 in
    record { half = omega (arith, parts, even); least = omega (arith, parts, even, least); most = omega (arith, parts, even, most) }

pub record IsTextOf (bytes units : List ℕ) : Type 0 where
  pub spelled : text_bytes units ≡ bytes
  pub is : IsBatchText units

-- the units of bytes that may be a text are one, and spelled so
pub text_of : (bytes : List ℕ) → IsBytes bytes → is_text_length (length bytes) ≡ true → IsTextOf bytes (units_of bytes)
text_of bytes fits h =
    let t = twice (length bytes) h in
    let r = units_back bytes (length bytes / 2) t.half fits in
    record {
      spelled = r.spelled;
      is = record { least = omega (arith, r.count, t.least); most = omega (arith, r.count, t.most); wide = All-from_recursion (λ unit. unit < 65536) (units_of bytes) r.low };
    }

-- and a text has such a length
pub is_length : (units : List ℕ) → IsBatchText units → is_text_length (length (text_bytes units)) ≡ true
is_length units h =
    let least : nat_le 1 (2 * length units) ≡ true = le-leb _ _ (omega (arith, h.least)) in
    let even : 2 * length units % 2 ≡ 0 = omega arith in
    let most : nat_le (2 * length units) 4000 ≡ true = le-leb _ _ (omega (arith, h.most)) in
    rw (text_length units, least, even, most) refl
