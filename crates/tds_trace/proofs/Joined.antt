-- Items with commas, one item more.
use Rattle.std.proofs.Common.{◌≡◌, ◌<◌, ◌+◌, ℕ, List, [], ◌∷◌, ◌++◌, length, take, map, get_or, refl, ap, sym, ◌∙◌, append_assoc, arith, length-take}
use Rattle.std.proofs.lemmas.List.{take_more, map-append, length-map}
use Rattle.tds_text.specs.Texts.{with_commas, comma_behind}

-- one item behind others: a comma, where there are others, and the item
joined_more : (xs : List (List ℕ)) (x : List ℕ) → with_commas (xs ++ x ∷ []) ≡ with_commas xs ++ (comma_behind (length xs) ++ x)
joined_more [] x = refl
joined_more (y ∷ []) x = refl
joined_more (y ∷ z ∷ ys) x =
    ap (λ (t : List ℕ). y ++ 44 ∷ t) (joined_more (z ∷ ys) x) ∙ sym (append_assoc y (44 ∷ with_commas (z ∷ ys)) (44 ∷ x))

-- the same of what a list's elements are shown as
shown_more : {A : Type 0} (f : A → List ℕ) (xs : List A) (i : ℕ) (d : A) → i < length xs
    → with_commas (map f (take (i + 1) xs)) ≡ with_commas (map f (take i xs)) ++ (comma_behind i ++ f (get_or xs i d))
shown_more f xs i d h =
    rw (take_more xs i d h, map-append f (take i xs) (get_or xs i d ∷ []))
    (joined_more (map f (take i xs)) (f (get_or xs i d))
    ∙ ap (λ (n : ℕ). with_commas (map f (take i xs)) ++ (comma_behind n ++ f (get_or xs i d))) (simp (length-map, length-take) (omega arith)))

-- a text that goes on with a comma, where items stand before, and the next item
pub told_more : {A : Type 0} (f : A → List ℕ) (xs : List A) (i : ℕ) (d : A) (start before between then : List ℕ) → i < length xs
    → before ≡ start ++ with_commas (map f (take i xs)) → between ≡ before ++ comma_behind i → then ≡ between ++ f (get_or xs i d)
    → then ≡ start ++ with_commas (map f (take (i + 1) xs))
told_more f xs i d start before between then h e₁ e₂ e₃ =
    let joined : with_commas (map f (take (i + 1) xs)) ≡ with_commas (map f (take i xs)) ++ (comma_behind i ++ f (get_or xs i d)) = shown_more f xs i d h in
    rw joined (e₃ ∙ rw (e₂, e₁) (simp append_assoc))
