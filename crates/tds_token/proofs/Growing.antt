-- A list that grows by pieces at its end.
use Rattle.std.proofs.Common.{◌≡◌, ℕ, ◌+◌, ◌<◌, ◌≤◌, List, [], ◌∷◌, ◌++◌, length, take, get_or, sym, ap, subst, ◌∙◌, append_assoc}
use Rattle.std.specs.List.{flat_map, AllByRecursion}
use Rattle.std.proofs.lemmas.Grind.{flat_map-append}
use Rattle.std.proofs.lemmas.List.{append-nil, take_more, take_all}

-- two pieces, one behind the other
pub two_pieces : (old first second mid new : List ℕ) → mid ≡ old ++ first → new ≡ mid ++ second → new ≡ old ++ (first ++ second)
two_pieces old first second mid new a b =
    b ∙ ap (λ (t : List ℕ). t ++ second) a ∙ append_assoc old first second

pieces_more : {X : Type 0} (f : X → List ℕ) (xs : List X) (i : ℕ) (x d : X) → i < length xs → x ≡ get_or xs i d → flat_map f (take i xs) ++ f x ≡ flat_map f (take (i + 1) xs)
pieces_more f xs i x d lt is =
    sym (ap (flat_map f) (take_more xs i d lt) ∙ flat_map-append f (take i xs) (get_or xs i d ∷ []) ∙ ap (λ (t : List ℕ). flat_map f (take i xs) ++ t) (append-nil (f (get_or xs i d)) ∙ ap f (sym is)))

-- behind a front and the pieces of the first i items, that of one more
pub piece_more : {X : Type 0} (f : X → List ℕ) (xs : List X) (i : ℕ) (x d : X) (old front mid new : List ℕ) → i < length xs → x ≡ get_or xs i d
    → mid ≡ old ++ (front ++ flat_map f (take i xs)) → new ≡ mid ++ f x → new ≡ old ++ (front ++ flat_map f (take (i + 1) xs))
piece_more f xs i x d old front mid new lt is a b =
    two_pieces old (front ++ flat_map f (take i xs)) (f x) mid new a b
    ∙ ap (λ (t : List ℕ). old ++ t) (append_assoc front (flat_map f (take i xs)) (f x) ∙ ap (λ (t : List ℕ). front ++ t) (pieces_more f xs i x d lt is))

-- all the pieces are there
pub pieces_all : {X : Type 0} (f : X → List ℕ) (xs : List X) (i : ℕ) (old front new : List ℕ) → length xs ≤ i
    → new ≡ old ++ (front ++ flat_map f (take i xs)) → new ≡ old ++ (front ++ flat_map f xs)
pieces_all {X = X} f xs i old front new le e =
    e ∙ ap (λ (items : List X). old ++ (front ++ flat_map f items)) (take_all i xs le)

all_and : {X : Type 0} (P : X → Type 0) (xs : List X) (x : X) → AllByRecursion P xs → P x → AllByRecursion P (xs ++ x ∷ [])
all_and P [] x all here = (here, tt)
all_and P (y ∷ ys) x all here = (all.0, all_and P ys x all.1 here)

-- what holds of the first i items and of the next one
pub holds_more : {X : Type 0} (P : X → Type 0) (xs : List X) (i : ℕ) (x d : X) → i < length xs → x ≡ get_or xs i d → AllByRecursion P (take i xs) → P x → AllByRecursion P (take (i + 1) xs)
holds_more P xs i x d lt is all here =
    subst (AllByRecursion P) (sym (take_more xs i d lt)) (all_and P (take i xs) (get_or xs i d) all (subst P is here))

pub holds_of_all : {X : Type 0} (P : X → Type 0) (xs : List X) (i : ℕ) → length xs ≤ i → AllByRecursion P (take i xs) → AllByRecursion P xs
holds_of_all P xs i le all = subst (AllByRecursion P) (take_all i xs le) all
