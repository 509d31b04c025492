-- A stream that is cut: inside its first packet, or behind it.
use Rattle.std.proofs.Common.{◌≡◌, ◌≢◌, ◌≤◌, ◌<◌, ◌∙◌, ◌-◌, inr, ℕ, true, false, ltb, sym, ap, List, [], ◌∷◌, ◌++◌, length, take, drop, length-drop, arith}
use Rattle.std.proofs.lemmas.Bool.Decides.{nat_tests}
use Rattle.std.proofs.lemmas.List.{take-append-drop, take-append-le}
use Rattle.std.proofs.Math.Seq.{take-append-add}
use Rattle.tds_packet.specs.Reading.{Reading}
use Rattle.tds_ends.specs.Feeding.{Coming, IsComing, IsBegun}

pub cut_inside : (k : ℕ) (first others : List ℕ) → ltb k (length first) ≡ true → take k (first ++ others) ≡ take k first
cut_inside k first others less = take-append-le k first others (grind (arith, nat_tests, less))

pub cut_behind : (k : ℕ) (first others : List ℕ) → ltb k (length first) ≡ false → take k (first ++ others) ≡ first ++ take (k - length first) others
cut_behind k first others more =
    let past : length first ≤ k = grind (arith, nat_tests, more) in
    ap (λ (n : ℕ). take n (first ++ others)) (omega (arith, past))
    ∙ take-append-add first others (k - length first)

some_left : (xs : List ℕ) → 0 < length xs → xs ≢ []
some_left [] some = λ e. omega (arith, some)
some_left (x ∷ xs) some = λ e. absurd (cc)

-- The front of a packet that is cut has begun.
pub begun_by : (r : Reading) (p : Coming) (k : ℕ) → IsComing r p → ltb k (length p.bytes) ≡ true → IsBegun r (take k p.bytes)
begun_by r p k is less =
    let short : k < length p.bytes = grind (arith, nat_tests, less) in
    inr (p, drop k p.bytes, some_left (drop k p.bytes) (omega (arith, length-drop k p.bytes, short)), is, sym (take-append-drop k p.bytes))
