-- The letters of a text, unit by unit.
use Rattle.std.proofs.Common.{◌≡◌, ◌≤◌, ◌-◌, ◌∙◌, ℕ, List, [], ◌∷◌, ◌++◌, length, take, drop, slice_index, arith, refl, ap}
use Rattle.std.proofs.lemmas.List.{append_assoc, append-nil, take_all}
use Rattle.relay_logins.specs.Names.{letters_of, shown}

-- the letter of its first unit, and those of the rest
first_letter : (text : List ℕ) → 2 ≤ length text
    → shown (slice_index text 0) (slice_index text 1) ∷ letters_of (take (length text - 2) (drop 2 text)) ≡ letters_of text
unfolding letters_of
first_letter (low ∷ high ∷ rest) long = rw (take_all (length (low ∷ high ∷ rest) - 2) (drop 2 (low ∷ high ∷ rest)) (omega arith)) refl
first_letter (low ∷ []) long = absurd (omega (arith, long))
first_letter [] long = absurd (omega (arith, long))

no_letter : (text : List ℕ) → length text ≤ 1 → letters_of text ≡ []
unfolding letters_of
no_letter (low ∷ high ∷ rest) short = absurd (omega (arith, short))
no_letter (low ∷ []) short = refl
no_letter [] short = refl

-- one letter more stands in the name, and one less is left
pub next_letter : (old new text : List ℕ) (letter : ℕ) → 2 ≤ length text → new ≡ old ++ letter ∷ []
    → letter ≡ shown (slice_index text 0) (slice_index text 1) → new ++ letters_of (take (length text - 2) (drop 2 text)) ≡ old ++ letters_of text
next_letter old new text letter long is said =
    ap (λ l. l ++ letters_of (take (length text - 2) (drop 2 text))) is
    ∙ append_assoc old (letter ∷ []) (letters_of (take (length text - 2) (drop 2 text)))
    ∙ ap (λ l. old ++ l ∷ letters_of (take (length text - 2) (drop 2 text))) said
    ∙ ap (λ l. old ++ l) (first_letter text long)

-- where less than a unit is left, it is whole
pub last_letter : (name text : List ℕ) → length text ≤ 1 → name ++ letters_of text ≡ name
last_letter name text short = ap (λ l. name ++ l) (no_letter text short) ∙ append-nil name
