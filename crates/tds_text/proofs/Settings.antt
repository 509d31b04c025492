-- The settings of a session, one key more.
use Rattle.std.proofs.Common.{◌≡◌, ◌<◌, ◌+◌, ℕ, List, [], ◌∷◌, ◌++◌, length, Option, Some, None, take, get_or, refl, ap, ◌∙◌, arith, ℤ, length-take, append-nil}
use Rattle.std.proofs.lemmas.List.{take_more}
use Rattle.tds_text.specs.Sessions.{setting_text, settings_from}

-- the settings of keys, and of one key more
settings_on : (key n : ℕ) (xs ys : List (Option ℤ)) → n ≡ key + length xs → settings_from key (xs ++ ys) ≡ settings_from key xs ++ settings_from n ys
settings_on key n [] ys e = ap (λ (k : ℕ). settings_from k ys) (omega arith)
settings_on key n (None ∷ xs) ys e = settings_on (key + 1) n xs ys (omega arith)
settings_on key n (Some v ∷ xs) ys e = ap (λ (t : List (List ℕ)). setting_text key v ∷ t) (settings_on (key + 1) n xs ys (omega arith))

-- the settings of the keys up to the one at i
settings_more : (key : ℕ) (xs : List (Option ℤ)) (i : ℕ) → i < length xs
    → settings_from key (take (i + 1) xs) ≡ settings_from key (take i xs) ++ settings_from (key + i) (get_or xs i None ∷ [])
settings_more key xs i h =
    rw (take_more xs i None h) (settings_on key (key + i) (take i xs) (get_or xs i None ∷ []) (simp (length-take) (omega arith)))

-- a key that isn't set
pub none_more : (key : ℕ) (xs : List (Option ℤ)) (i : ℕ) → i < length xs → get_or xs i None ≡ None
    → settings_from key (take (i + 1) xs) ≡ settings_from key (take i xs)
none_more key xs i h e =
    settings_more key xs i h ∙ rw e (append-nil (settings_from key (take i xs)))

-- a key that is set
pub some_more : (key : ℕ) (xs : List (Option ℤ)) (i : ℕ) (v : ℤ) → i < length xs → get_or xs i None ≡ Some v
    → settings_from key (take (i + 1) xs) ≡ settings_from key (take i xs) ++ setting_text (key + i) v ∷ []
some_more key xs i v h e =
    settings_more key xs i h ∙ rw e refl
