-- What a call leaves of the clients: a test that each connection meets it still meets.
use Rattle.std.proofs.Common.{◌≡◌, ◌∙◌, ◌<◌, ◌≤◌, ◌+◌, ℕ, zero, suc, Bool, true, List, [], ◌∷◌, ◌++◌, length, get_or, take, drop, sym, ap, subst, arith}
use Rattle.std.proofs.Math.ListN.{set}
use Rattle.std.proofs.Math.Seq.{take-set-lt}
use Rattle.std.proofs.lemmas.List.{get_or-take, length-take-le, take-append-le, take_more_set}
use Rattle.std.specs.Prelude.{◌-◌}
use Rattle.tds_c.specs.declared.service.plain.TdsSeat.{TdsSeat}
use Rattle.tds_c.specs.service.Calls.{Meet, new_apart}
use Rattle.tds_c.specs.service.Clients.{Apart, apart}

-- ---- The connections in use

meet_set : (test : ℕ → Apart → Bool) (cs : List TdsSeat) (i : ℕ) (c y : TdsSeat) → c ≡ get_or cs i c → y.number ≡ c.number → apart y.client ≡ apart c.client
    → Meet test cs → Meet test (set cs i y)
meet_set test [] i c y at number is m = m
meet_set test (x ∷ cs) zero c y at number is m =
    (ap (λ (n : ℕ). test n (apart y.client)) number ∙ (ap (test c.number) is ∙ (ap (λ (z : TdsSeat). test z.number (apart z.client)) at ∙ m.0)), m.1)
meet_set test (x ∷ cs) (suc i) c y at number is m = (m.0, meet_set test cs i c y at number is m.1)

meet_gone : (test : ℕ → Apart → Bool) (cs : List TdsSeat) (i : ℕ) → Meet test cs → Meet test (take i cs ++ drop (suc i) cs)
meet_gone test [] zero m = m
meet_gone test [] (suc i) m = m
meet_gone test (x ∷ cs) zero m = m.1
meet_gone test (x ∷ cs) (suc i) m = (m.0, meet_gone test cs i m.1)

meet_added : (test : ℕ → Apart → Bool) (cs : List TdsSeat) (y : TdsSeat) → test y.number (apart y.client) ≡ true → Meet test cs → Meet test (cs ++ y ∷ [])
meet_added test [] y new m = (new, tt)
meet_added test (x ∷ cs) y new m = (m.0, meet_added test cs y new m.1)

-- ---- In the array

-- a seat is written
pub leaves_put : (test : ℕ → Apart → Bool) (count : ℕ) (seats : List TdsSeat) (i : ℕ) (c y : TdsSeat) → i < count → c ≡ get_or seats i c
    → y.number ≡ c.number → apart y.client ≡ apart c.client → Meet test (take count seats) → Meet test (take count (set seats i y))
leaves_put test count seats i c y lt at number is m =
    subst (Meet test) (sym (take-set-lt count seats i y lt))
    (meet_set test (take count seats) i c y (at ∙ sym (get_or-take count seats i c lt)) number is m)

-- one is taken out
pub leaves_gone : (test : ℕ → Apart → Bool) (count : ℕ) (seats front : List TdsSeat) (i : ℕ) → count ≤ length seats → i < count
    → length front ≡ length (take count seats)
    → take (length (take count seats) - 1) front ≡ take i (take count seats) ++ drop (i + 1) (take count seats)
    → Meet test (take count seats) → Meet test (take (count - 1) (front ++ drop count seats))
leaves_gone test count seats front i le lt len moved m =
    let used : length (take count seats) ≡ count = length-take-le count seats le in
    let under : count - 1 ≤ length front = omega (arith, len, used) in
    let kept = take-append-le (count - 1) front (drop count seats) under ∙ (ap (λ (k : ℕ). take (k - 1) front) (sym used) ∙ moved) in
    let next : i + 1 ≡ suc i = omega arith in
    subst (Meet test) (sym (kept ∙ ap (λ (k : ℕ). take i (take count seats) ++ drop k (take count seats)) next))
    (meet_gone test (take count seats) i m)

-- one is added
pub leaves_new : (test : ℕ → Apart → Bool) (count last size : ℕ) (seats : List TdsSeat) (y : TdsSeat) → count < length seats
    → y.number ≡ last + 1 → apart y.client ≡ new_apart size → test (last + 1) (new_apart size) ≡ true
    → Meet test (take count seats) → Meet test (take (count + 1) (set seats count y))
leaves_new test count last size seats y lt number is new m =
    let meets = ap (λ (n : ℕ). test n (apart y.client)) number ∙ (ap (test (last + 1)) is ∙ new) in
    subst (Meet test) (sym (take_more_set seats count y lt)) (meet_added test (take count seats) y meets m)
