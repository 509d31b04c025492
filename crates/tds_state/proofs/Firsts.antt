-- The first place that is set.
use Rattle.std.proofs.Common.{◌≡◌, ◌∙◌, ◌≤◌, ◌<◌, ℕ, ◌+◌, Bool, true, false, cond, List, length, drop, get_or, Some, None, ap}
use Rattle.std.proofs.lemmas.List.{drop_all, drop_more}
use Rattle.tds_state.specs.Ledgers.{first_set}

first_at : (xs : List Bool) (at : ℕ) (b : Bool) → at < length xs → get_or xs at false ≡ b
    → first_set at (drop at xs) ≡ cond b (Some at) (first_set (at + 1) (drop (at + 1) xs))
unfolding first_set
first_at xs at b h is = ap (first_set at) (drop_more xs at false h) ∙ ap (λ (c : Bool). cond c (Some at) (first_set (at + 1) (drop (at + 1) xs))) is

pub first_here : (xs : List Bool) (at : ℕ) → at < length xs → get_or xs at false ≡ true → first_set at (drop at xs) ≡ Some at
first_here xs at h is = first_at xs at true h is

pub first_on : (xs : List Bool) (at : ℕ) → at < length xs → get_or xs at false ≡ false → first_set at (drop at xs) ≡ first_set (at + 1) (drop (at + 1) xs)
first_on xs at h is = first_at xs at false h is

pub first_end : (xs : List Bool) (at : ℕ) → length xs ≤ at → first_set at (drop at xs) ≡ None
unfolding first_set
first_end xs at h = ap (first_set at) (drop_all at xs h)
