-- The first bytes of a token, kept in a row of 24.
use Rattle.std.proofs.Common.{◌≡◌, ◌∙◌, ◌≤◌, ◌<◌, ℕ, ◌+◌, List, [], ◌∷◌, ◌++◌, length, take, drop, set, sym, ap, arith, get_or}
use Rattle.std.proofs.lemmas.List.{take_more, take_more_set, length-take, take_all, take_min, take-append-le, append-nil, take-append-drop}
use Rattle.tds_wire.specs.declared.head.Head.{Head}
use Rattle.tds_wire.specs.Lent.{head_of}
use Rattle.tds_wire.specs.Reading.{kept}
use Rattle.tds_wire.proofs.Kept.{kept_all, kept_kept}

pub few_kept : (h : Head) → length h.bytes ≡ 24 → length (head_of h) ≤ 24
unfolding head_of
few_kept h k = let l = length-take h.count h.bytes in omega (arith, l, k)

pub kept_few : (h : Head) → length h.bytes ≡ 24 → h.count < 24 → h.count ≡ length (head_of h)
unfolding head_of
kept_few h k n = let l = length-take h.count h.bytes in omega (arith, l, k, n)

pub kept_full : (h : Head) → length h.bytes ≡ 24 → 24 ≤ h.count → 24 ≡ length (head_of h)
unfolding head_of
kept_full h k n = let l = length-take h.count h.bytes in omega (arith, l, k, n)

-- the bytes that are lent
pub lent_bytes : (h : Head) (n : ℕ) → length h.bytes ≡ 24 → n ≡ length (head_of h) → take n h.bytes ≡ head_of h
unfolding head_of
lent_bytes h n k e =
    let l = length-take h.count h.bytes in
    ap (λ (i : ℕ). take i h.bytes) (e ∙ l) ∙ take_min h.count h.bytes

-- one byte more
pub one_kept : (h : Head) (i n b : ℕ) → length h.bytes ≡ 24 → n ≡ length (head_of h) → n < 24 → i ≡ n
    → head_of (record h { bytes = set h.bytes i b; count = n + 1 }) ≡ kept (head_of h) (b ∷ [])
unfolding head_of
one_kept h i n b k e few j =
    let l = length-take h.count h.bytes in
    let c : n ≡ h.count = omega (arith, l, k, e, few) in
    let a : length (take h.count h.bytes) + length (b ∷ []) ≤ 24 = omega (arith, e, few) in
    ap (λ (y : ℕ). take (n + 1) (set h.bytes y b)) j
    ∙ (take_more_set h.bytes n b (omega (arith, k, few))
    ∙ (ap (λ (y : ℕ). take y h.bytes ++ b ∷ []) c ∙ kept_all (take h.count h.bytes) (b ∷ []) a))

-- none more
pub none_kept : (old bytes : List ℕ) → length old ≡ 24 → old ≡ kept old bytes
none_kept old bytes e =
    let whole : take 24 old ≡ old = take_all 24 old (omega (arith, e)) in
    sym (take-append-le 24 old bytes (omega (arith, e)) ∙ whole)

pub nothing_kept : (old : List ℕ) → length old ≤ 24 → old ≡ kept old []
nothing_kept old few = sym (ap (take 24) (append-nil old) ∙ take_all 24 old few)

-- a turn of the loop
pub kept_more : (old bytes : List ℕ) (i d : ℕ) → i < length bytes → kept (kept old (take i bytes)) (get_or bytes i d ∷ []) ≡ kept old (take (i + 1) bytes)
kept_more old bytes i d h = kept_kept old (take i bytes) (get_or bytes i d ∷ []) ∙ ap (kept old) (sym (take_more bytes i d h))

-- its end, where all are kept
pub kept_so_far : (old bytes : List ℕ) (i : ℕ) → length (kept old (take i bytes)) ≡ 24 → kept old (take i bytes) ≡ kept old bytes
kept_so_far old bytes i e =
    none_kept (kept old (take i bytes)) (drop i bytes) e
    ∙ (kept_kept old (take i bytes) (drop i bytes) ∙ ap (kept old) (take-append-drop i bytes))
