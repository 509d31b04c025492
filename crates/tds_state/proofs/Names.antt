-- A procedure's name, letter by letter.
use Rattle.std.proofs.Common.{◌≡◌, ◌∙◌, ◌≤◌, ◌<◌, ℕ, ◌+◌, Bool, true, false, List, [], ◌∷◌, length, drop, refl, sym, ap, arith}
use Rattle.std.proofs.lemmas.Bool.{false≢true}
use Rattle.std.proofs.lemmas.List.{drop-drop, drop_all}
use Rattle.std.specs.Prelude.{◌&&◌}
use Rattle.tds_state.specs.Asking.{is_plain_behind, is_plain_first}

first_plain : (xs : List ℕ) → is_plain_first xs ≡ true → is_plain_behind (drop 2 xs) ≡ is_plain_behind xs
unfolding is_plain_behind is_plain_first
first_plain [] h = refl
first_plain (a ∷ []) h = absurd (false≢true h)
first_plain (a ∷ b ∷ others) h = sym (ap (λ (x : Bool). x && is_plain_behind others) h)

first_other : (xs : List ℕ) → 0 < length xs → is_plain_first xs ≡ false → is_plain_behind xs ≡ false
unfolding is_plain_behind
first_other [] some h = absurd (omega (arith, some))
first_other (a ∷ []) some h = refl
first_other (a ∷ b ∷ others) some h = ap (λ (x : Bool). x && is_plain_behind others) h

pub plain_more : (xs rest : List ℕ) (at : ℕ) → rest ≡ drop at xs → is_plain_first rest ≡ true → is_plain_behind (drop (at + 2) xs) ≡ is_plain_behind (drop at xs)
plain_more xs rest at is h =
    ap is_plain_behind (sym (drop-drop 2 at xs)) ∙ first_plain (drop at xs) (ap is_plain_first (sym is) ∙ h)

pub plain_not : (xs rest : List ℕ) (at : ℕ) → rest ≡ drop at xs → 0 < length rest → is_plain_first rest ≡ false → false ≡ is_plain_behind (drop at xs)
plain_not xs rest at is some h = sym (ap is_plain_behind (sym is) ∙ first_other rest some h)

pub plain_end : (xs : List ℕ) (at : ℕ) → length xs ≤ at → true ≡ is_plain_behind (drop at xs)
unfolding is_plain_behind
plain_end xs at h = sym (ap is_plain_behind (drop_all at xs h))
