-- The statements of a text, one piece after the other.
use Rattle.std.proofs.Common.{◌≡◌, List, [], ◌∷◌, ◌++◌, map, Option, Some, None, option_map, refl, ap, ◌∙◌}
use Rattle.tds_session.specs.Language.{each_of}

none_before : {S : Type 0} (found : Option (List S)) → option_map (λ others. [] ++ others) found ≡ found
none_before None = refl
none_before (Some others) = refl

map_twice : {A B C : Type 0} (f : A → B) (g : B → C) (xs : List A) → map (λ x. g (f x)) xs ≡ map g (map f xs)
map_twice f g [] = refl
map_twice f g (x ∷ xs) = ap (λ ys. g (f x) ∷ ys) (map_twice f g xs)

-- before the first piece
pub starts : {A B S : Type 0} (view : A → B) (read : B → Option S) (lent : List A) (found : List B) → map view lent ≡ found
    → option_map (λ others. [] ++ others) (each_of (map (λ p. read (view p)) lent)) ≡ each_of (map read found)
starts view read lent found e = none_before (each_of (map (λ p. read (view p)) lent)) ∙ ap each_of (map_twice view read lent ∙ ap (λ ps. map read ps) e)
