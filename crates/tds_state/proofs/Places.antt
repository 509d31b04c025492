-- Places of handles.
use Rattle.std.proofs.Common.{◌≡◌, ◌∙◌, ◌≤◌, ◌<◌, ℕ, zero, suc, ◌+◌, Bool, true, false, cond, List, [], ◌∷◌, length, drop, get_or, refl, sym, ap, arith}
use Rattle.std.proofs.lemmas.List.{drop_all, drop_more}
use Rattle.std.specs.Prelude.{◌==◌}
use Rattle.tds_state.specs.Handles.{place_of_handle}

-- a test of the first one says where it is found
place_first : (n x : ℕ) (xs : List ℕ) (b : Bool) → (x == n) ≡ b → place_of_handle n (x ∷ xs) ≡ cond b 0 (suc (place_of_handle n xs))
unfolding place_of_handle
place_first n x xs b is = ap (λ (c : Bool). cond c 0 (suc (place_of_handle n xs))) is

place_at : (n : ℕ) (xs : List ℕ) (at : ℕ) (b : Bool) → at < length xs → (get_or xs at 0 == n) ≡ b
    → place_of_handle n (drop at xs) ≡ cond b 0 (suc (place_of_handle n (drop (at + 1) xs)))
place_at n xs at b h is = ap (place_of_handle n) (drop_more xs at 0 h) ∙ place_first n (get_or xs at 0) (drop (at + 1) xs) b is

pub place_here : (n : ℕ) (xs : List ℕ) (at : ℕ) → at < length xs → (get_or xs at 0 == n) ≡ true → at + place_of_handle n (drop at xs) ≡ at
place_here n xs at h is =
    let none = place_at n xs at true h is in
    omega (arith, none)

pub place_on : (n : ℕ) (xs : List ℕ) (at : ℕ) → at < length xs → (get_or xs at 0 == n) ≡ false
    → (at + 1) + place_of_handle n (drop (at + 1) xs) ≡ at + place_of_handle n (drop at xs)
place_on n xs at h is =
    let more = place_at n xs at false h is in
    omega (arith, more)

pub place_end : (n : ℕ) (xs : List ℕ) (at : ℕ) → length xs ≤ at → at + place_of_handle n (drop at xs) ≡ at
unfolding place_of_handle
place_end n xs at h = omega (arith, ap (place_of_handle n) (drop_all at xs h))
