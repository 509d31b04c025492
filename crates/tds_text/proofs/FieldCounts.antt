-- Arrays with too few or too many values behind their word.
use Rattle.std.proofs.Common.{◌≡◌, ◌≢◌, ◌≤◌, List, [], ◌∷◌, length, Option, None, refl, arith}
use Rattle.serde_json.specs.Data.{Data}
use Rattle.serde_json.specs.View.{items_view}
use Rattle.serde_json.specs.declared.value.Value.{Value}
use Rattle.tds_text.specs.Fields.{alone, one_field, pair_of}

pub not_alone : {A : Type 0} (e : A) (vs : List Value) → 1 ≤ length vs → None ≡ alone e (items_view vs)
not_alone e [] h = absurd (omega arith)
not_alone e (v ∷ vs) h = refl

pub more_than_one : {A : Type 0} (reads : Data → Option A) (vs : List Value) → 2 ≤ length vs → None ≡ one_field reads (items_view vs)
more_than_one reads [] h = absurd (omega arith)
more_than_one reads (v ∷ []) h = absurd (omega arith)
more_than_one reads (v ∷ w ∷ vs) h = refl

pub not_two : (vs : List Value) → length vs ≢ 2 → None ≡ pair_of (items_view vs)
not_two [] h = refl
not_two (v ∷ []) h = refl
not_two (v ∷ w ∷ []) h = absurd (h refl)
not_two (v ∷ w ∷ x ∷ vs) h = refl
