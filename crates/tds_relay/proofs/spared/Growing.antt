-- One more connection is there, which is ordered opened.
use Rattle.std.proofs.Common.{◌≡◌, ◌+◌, ◌≤◌, ◌++◌, ℕ, List, [], ◌∷◌, length, ap, arith, length-append}
use Rattle.tds_relay.specs.declared.link.Link.{Link}

longer : {T : Type 0} (x : T) (xs ys : List T) → ys ≡ xs ++ x ∷ [] → length ys ≡ length xs + 1
longer {T} x xs ys e =
    let l : length (xs ++ x ∷ []) ≡ length xs + 1 = length-append xs (x ∷ []) in
    let m : length ys ≡ length (xs ++ x ∷ []) = ap (length {A = T}) e in
    omega (arith, l, m)

pub pushed_more : (number : ℕ) (l : Link) (ls ms : List Link) (xs ys : List ℕ) → ms ≡ ls ++ l ∷ [] → ys ≡ xs ++ number ∷ [] → length ms + length xs ≤ length ls + length ys
pushed_more number l ls ms xs ys e f =
    let m : length ms ≡ length ls + 1 = longer l ls ms e in
    let y : length ys ≡ length xs + 1 = longer number xs ys f in
    omega (arith, m, y)
