-- Some of a list, in their order.
use Rattle.std.proofs.Common.{inl, inr, List, [], ◌∷◌, ◌++◌, ap, refl, subst, sym}
use Rattle.tds_ends.specs.AllBytes.{AreSomeOf}

pub none_of : {A : Type 0} (ys : List A) → AreSomeOf {A = A} [] ys
none_of [] = refl
none_of (y ∷ ys) = inl (none_of ys)

pub all_of : {A : Type 0} (ys : List A) → AreSomeOf ys ys
all_of [] = refl
all_of (y ∷ ys) = inr (ys, refl, all_of ys)

pub some_of_both : {A : Type 0} (xs ys us vs : List A) → AreSomeOf xs ys → AreSomeOf us vs → AreSomeOf (xs ++ us) (ys ++ vs)
some_of_both {A} xs [] us vs h k = subst (λ (z : List A). AreSomeOf (z ++ us) vs) (sym h) k
some_of_both xs (y ∷ ys) us vs (inl h) k = inl (some_of_both xs ys us vs h k)
some_of_both {A} xs (y ∷ ys) us vs (inr (others, e, h)) k =
    inr (others ++ us, ap (λ (z : List A). z ++ us) e, some_of_both others ys us vs h k)
