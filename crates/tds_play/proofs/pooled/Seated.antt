-- Each connection of a play in its seat, where one of them changes, and where there is one more.
use Rattle.std.proofs.Common.{◌≡◌, ◌∙◌, ℕ, zero, suc, ◌+◌, ◌≤◌, List, [], ◌∷◌, ◌++◌, length, Some, refl, sym, ap, arith}
use Rattle.std.specs.List.{slice_get}
use Rattle.std.specs.Prelude.{option_map, slice_set}
use Rattle.tds_pool.specs.Connections.{Connection, numbered}
use Rattle.tds_play.specs.Pooled.{seated_from, seated_in}
use Rattle.tds_play.specs.declared.seat.Held.{Held}
use Rattle.tds_play.proofs.pooled.Changes.{SameBut}

-- The pool has the same under each number from this one on.
abbrev pub SameFrom : ℕ → List Connection → List Connection → Type 0
SameFrom number old new = (m : ℕ) → number ≤ m → numbered m new ≡ numbered m old

-- There are as many.
pub seated_length : {E S : Type 0} (number : ℕ) (hs : List (Held E S)) (pcs : List Connection) → length (seated_from number hs pcs) ≡ length hs
seated_length number [] pcs = refl
seated_length number (h ∷ hs) pcs = ap suc (seated_length (suc number) hs pcs)

pub seated_same : {E S : Type 0} (number : ℕ) (hs : List (Held E S)) (old new : List Connection) → SameFrom number old new
    → seated_from number hs new ≡ seated_from number hs old
seated_same number [] old new same = refl
seated_same number (h ∷ hs) old new same =
    let first : numbered number new ≡ numbered number old = same number (omega arith) in
    let rest : seated_from (suc number) hs new ≡ seated_from (suc number) hs old =
    seated_same (suc number) hs old new (λ m above. same m (omega (arith, above))) in
    ap (λ o. seated_in h o ∷ seated_from (suc number) hs new) first
    ∙ ap (λ xs. seated_in h (numbered number old) ∷ xs) rest

-- What stands at a place.
pub seated_get : {E S : Type 0} (number place : ℕ) (hs : List (Held E S)) (pcs : List Connection)
    → slice_get (seated_from number hs pcs) place ≡ option_map (λ h. seated_in h (numbered (number + place) pcs)) (slice_get hs place)
seated_get number place [] pcs = refl
seated_get number zero (h ∷ hs) pcs =
    let same : number ≡ number + 0 = omega arith in
    ap (λ (n : ℕ). Some (seated_in h (numbered n pcs))) same
seated_get number (suc place) (h ∷ hs) pcs =
    let same : suc number + place ≡ number + suc place = omega arith in
    seated_get (suc number) place hs pcs
    ∙ ap (λ (n : ℕ). option_map (λ k. seated_in k (numbered n pcs)) (slice_get hs place)) same

-- One connection changes, in the list or in the pool.
pub seated_set : {E S : Type 0} (number place : ℕ) (hs : List (Held E S)) (h : Held E S) (old new : List Connection)
    → SameBut (number + place) old new
    → seated_from number (slice_set hs place h) new ≡ slice_set (seated_from number hs old) place (seated_in h (numbered (number + place) new))
seated_set number place [] h old new same = refl
seated_set number zero (k ∷ hs) h old new same =
    let here : number ≡ number + 0 = omega arith in
    let rest : seated_from (suc number) hs new ≡ seated_from (suc number) hs old =
    seated_same (suc number) hs old new (λ m above. same m (λ is. let bad : ⊥ = omega (arith, above, is) in bad)) in
    ap (λ (n : ℕ). seated_in h (numbered n new) ∷ seated_from (suc number) hs new) here
    ∙ ap (λ xs. seated_in h (numbered (number + 0) new) ∷ xs) rest
seated_set number (suc place) (k ∷ hs) h old new same =
    let next : suc number + place ≡ number + suc place = omega arith in
    let first : numbered number new ≡ numbered number old = same number (λ is. let bad : ⊥ = omega (arith, is) in bad) in
    let rest : seated_from (suc number) (slice_set hs place h) new ≡ slice_set (seated_from (suc number) hs old) place (seated_in h (numbered (suc number + place) new)) =
    seated_set (suc number) place hs h old new (λ m other. same m (λ is. other (is ∙ sym next))) in
    ap (λ o. seated_in k o ∷ seated_from (suc number) (slice_set hs place h) new) first
    ∙ ap (λ xs. seated_in k (numbered number old) ∷ xs) rest
    ∙ ap (λ (n : ℕ). seated_in k (numbered number old) ∷ slice_set (seated_from (suc number) hs old) place (seated_in h (numbered n new))) next

-- One more behind all.
pub seated_more : {E S : Type 0} (number : ℕ) (hs : List (Held E S)) (h : Held E S) (pcs : List Connection)
    → seated_from number (hs ++ h ∷ []) pcs ≡ seated_from number hs pcs ++ seated_in h (numbered (number + length hs) pcs) ∷ []
seated_more number [] h pcs =
    let here : number ≡ number + 0 = omega arith in
    ap (λ (n : ℕ). seated_in h (numbered n pcs) ∷ []) here
seated_more number (k ∷ hs) h pcs =
    let next : suc number + length hs ≡ number + suc (length hs) = omega arith in
    ap (λ xs. seated_in k (numbered number pcs) ∷ xs) (seated_more (suc number) hs h pcs)
    ∙ ap (λ (n : ℕ). seated_in k (numbered number pcs) ∷ (seated_from (suc number) hs pcs ++ seated_in h (numbered n pcs) ∷ [])) next
