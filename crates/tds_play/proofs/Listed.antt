-- All connections of a play, when one changes or is added.
use Rattle.std.proofs.Common.{◌≡◌, ◌≢◌, ◌∙◌, ℕ, suc, List, [], ◌∷◌, ◌++◌, ◌<◌, ◌≤◌, length, get_or, set, Option, Bool, true, false, ltb, eqb, ap, arith, sym, refl, subst, length-append}
use Rattle.std.proofs.lemmas.List.{get_or-set_other, get_or-set_same, length-set}
use Rattle.std.proofs.lemmas.Bool.{eq-eqb}
use Rattle.std.proofs.Math.Dec.{T}
use Rattle.std.proofs.Math.Facts.{eqb_yes}
use Rattle.std.proofs.Math.Seq.{get_or-append_seam}
use Rattle.std.proofs.Math.ListN.{get_or-append}
use Rattle.std.proofs.lemmas.Bool.Decides.{nat_tests}
use Rattle.std.specs.Iterator.{Yields}
use Rattle.std.specs.Vec.Iter.{into_iter_items, into_iter_len, into_iter_steps}
use Rattle.std.specs.declared.vec.IntoIter.{IntoIter}
use Rattle.tds_play.specs.Pipe.{Pipe, AreSame}
use Rattle.tds_play.specs.Ties.{IsTied, AreTied}
use Rattle.tds_play.specs.Seats.{Seated}

pub by_test : (Q : Type 0) (b : Bool) → (b ≡ true → Q) → (b ≡ false → Q) → Q
by_test Q true f g = f refl
by_test Q false f g = g refl

is_below : (i j : ℕ) → ltb i j ≡ true → i < j
is_below i j e = grind (arith, nat_tests)

is_not_below : (i j : ℕ) → ltb i j ≡ false → j ≤ i
is_not_below i j e = grind (arith, nat_tests)

pub is_at : (i j : ℕ) → eqb i j ≡ true → i ≡ j
is_at i j e = eqb_yes (subst T (sym e) tt)

pub is_other : (i j : ℕ) → eqb i j ≡ false → i ≢ j
is_other i j e = λ z. let bad : false ≡ true = sym e ∙ eq-eqb i j z in absurd (cc)

last_of : {X : Type 0} (xs : List X) (v d : X) → get_or (xs ++ v ∷ []) (length xs) d ≡ v
last_of xs v d = get_or-append_seam xs v [] d

-- a fact of each place and its item, after one is added
pub push_each : {X : Type 0} (P : ℕ → X → Type 0) (xs : List X) (v : X) → ((j : ℕ) (d : X) → j < length xs → P j (get_or xs j d)) → P (length xs) v → (j : ℕ) (d : X) → j < length (xs ++ v ∷ []) → P j (get_or (xs ++ v ∷ []) j d)
push_each P xs v each last j d lt =
    by_test (P j (get_or (xs ++ v ∷ []) j d)) (ltb j (length xs))
    (λ t. let in_xs : j < length xs = is_below j (length xs) t in subst (P j) (sym (get_or-append xs (v ∷ []) d j in_xs)) (each j d in_xs))
    (λ t. let at : j ≡ length xs = omega (arith, is_not_below j (length xs) t, length-append xs (v ∷ [])) in
    subst (λ (k : ℕ). P k (get_or (xs ++ v ∷ []) k d)) (sym at) (subst (P (length xs)) (sym (last_of xs v d)) last))

-- A new connection, with the next number.
pub opened : {E S : Type 0} (links new : List (Seated E S)) (link : Seated E S) (pipes pipes' : ℕ → Option Pipe) → new ≡ links ++ link ∷ [] → AreTied links pipes → link.link.number ≡ suc (length links) → IsTied link.link (pipes' (suc (length links))) → AreSame pipes pipes' (suc (length links)) → AreTied new pipes'
opened links new link pipes pipes' is all number tied same = rw is (record {
  numbered = push_each (λ k x. x.link.number ≡ suc k) links link all.numbered number;
  tied = push_each (λ k x. IsTied x.link (pipes' (suc k))) links link (λ k x lt. subst (λ p. IsTied (get_or links k x).link p) (sym (same (suc k) (λ z. absurd (omega arith)))) (all.tied k x lt)) tied;
})

pub set_each : {X : Type 0} (P : ℕ → X → Type 0) (xs : List X) (i : ℕ) (v : X) → ((j : ℕ) (d : X) → j ≢ i → j < length xs → P j (get_or xs j d)) → i < length xs → P i v → (j : ℕ) (d : X) → j < length (set xs i v) → P j (get_or (set xs i v) j d)
set_each P xs i v each there is j d less =
    by_test (P j (get_or (set xs i v) j d)) (eqb j i)
    (λ t. let at : j ≡ i = is_at j i t in subst (λ (k : ℕ). P k (get_or (set xs i v) k d)) (sym at) (subst (P i) (sym (get_or-set_same xs i v d there)) is))
    (λ t. subst (P j) (sym (get_or-set_other xs i j v d (is_other j i t))) (each j d (is_other j i t) (omega (arith, less, length-set xs i v))))

pub number_there : {E S : Type 0} (links : List (Seated E S)) (place : ℕ) (x : Seated E S) (pipes : ℕ → Option Pipe) → AreTied links pipes → place < length links → x ≡ get_or links place x → x.link.number ≡ suc place
number_there {E} {S} links place x pipes tied there is = ap (λ (l : Seated E S). l.link.number) is ∙ tied.numbered place x there

-- One of them changes, and keeps its number.
pub changed : {E S : Type 0} (links : List (Seated E S)) (place : ℕ) (link new : Seated E S) (pipes pipes' : ℕ → Option Pipe) → AreTied links pipes → place < length links → link ≡ get_or links place link → new.link.number ≡ link.link.number → IsTied new.link (pipes' link.link.number) → AreSame pipes pipes' link.link.number → AreTied (set links place new) pipes'
changed {E} {S} links place link new pipes pipes' all there is kept tied same =
    let number : link.link.number ≡ suc place = number_there links place link pipes all there is in
    record {
      numbered = set_each (λ k x. x.link.number ≡ suc k) links place new (λ k x other less. all.numbered k x less) there (kept ∙ number);
      tied = set_each (λ k x. IsTied x.link (pipes' (suc k))) links place new
          (λ k x other less. subst (IsTied (get_or links k x).link) (sym (same (suc k) (λ z. other (omega (arith, z, number))))) (all.tied k x less)) there (subst (λ (k : ℕ). IsTied new.link (pipes' k)) number tied);
    }

-- ---- What the iterator of a vector gave

none_left : {X : Type 0} (xs : List X) → length xs ≡ 0 → xs ≡ []
none_left [] e = refl
none_left (x ∷ xs) e = absurd (omega (arith, e))

-- It gave all of them, once none is left.
pub all_yielded : {X A : Type 0} (s : IntoIter X A) (xs : List X) (t : IntoIter X A) → Yields into_iter_steps s xs t → into_iter_len t ≡ 0 → xs ≡ into_iter_items s
all_yielded s [] t y none =
    sym (none_left (into_iter_items t) (sym t.rest.ok.0 ∙ none)) ∙ sym (ap into_iter_items y)
all_yielded s (x ∷ xs) t y none = ap (λ ys. x ∷ ys) (all_yielded y.0 xs t y.2 none) ∙ sym y.1.0
