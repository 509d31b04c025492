-- What stands in one slot, where one of all slots changes or is emptied.
use Rattle.std.proofs.Common.{◌≡◌, ◌≢◌, ◌⊎◌, ◌∙◌, ◌==◌, ◌≤◌, ◌<◌, ℕ, Bool, true, false, List, inl, inr, length, eqb, sym, ap, subst}
use Rattle.std.specs.Prelude.{Option, None, if◌then◌else◌, option_map, slice_index_or, slice_set}
use Rattle.std.proofs.lemmas.List.{get_or-set_same, get_or-set_other, length-set}
use Rattle.std.proofs.lemmas.Bool.{cases_lt}
use Rattle.std.proofs.lemmas.Bool.Decides.{eqb_tells}
use Rattle.std.proofs.Math.ListN.{get_or-eq_default}

module _ (X : Type 0) where
  abbrev At : List (Option X) → ℕ → Option X
  At xs key = slice_index_or xs key None

  abbrev Changed : ℕ → (X → X) → List (Option X) → List (Option X)
  Changed key by xs = slice_set xs key (option_map by (At xs key))

  -- behind the last slot there is none
  beyond : (xs : List (Option X)) (key : ℕ) (o : Option X) → length xs ≤ key → At (slice_set xs key o) key ≡ None
  beyond xs key o far = get_or-eq_default (slice_set xs key o) None (subst (λ (n : ℕ). n ≤ key) (sym (length-set xs key o)) far)

  changed_here : (xs : List (Option X)) (key : ℕ) (by : X → X) → (key < length xs) ⊎ (length xs ≤ key) → At (Changed key by xs) key ≡ option_map by (At xs key)
  changed_here xs key by (inl near) = get_or-set_same xs key (option_map by (At xs key)) None near
  changed_here xs key by (inr far) = beyond xs key (option_map by (At xs key)) far ∙ sym (ap (option_map by) (get_or-eq_default xs None far))

  near_or_far : (a b : ℕ) → (a < b) ⊎ (b ≤ a)
  near_or_far a b = cases_lt a b

  abbrev Same : ℕ → ℕ → Type 0
  Same k key = ((eqb k key ≡ true) × (k ≡ key)) ⊎ ((eqb k key ≡ false) × (k ≢ key))

  changed_by : (xs : List (Option X)) (k key : ℕ) (by : X → X) → Same k key → At (Changed k by xs) key ≡ (if k == key then option_map by (At xs key) else At xs key)
  changed_by xs k key by (inl (e, is)) =
      subst (λ (b : Bool). At (Changed k by xs) key ≡ (if b then option_map by (At xs key) else At xs key)) (sym e)
      (subst (λ (n : ℕ). At (Changed k by xs) n ≡ option_map by (At xs n)) is (changed_here xs k by (near_or_far k (length xs))))
  changed_by xs k key by (inr (e, other)) =
      subst (λ (b : Bool). At (Changed k by xs) key ≡ (if b then option_map by (At xs key) else At xs key)) (sym e)
      (get_or-set_other xs k key (option_map by (At xs k)) None (λ same. other (sym same)))

  -- of one alone something changes
  pub changed_at : (xs : List (Option X)) (k key : ℕ) (by : X → X) → At (Changed k by xs) key ≡ (if k == key then option_map by (At xs key) else At xs key)
  changed_at xs k key by = changed_by xs k key by (eqb_tells k key)

  -- one is emptied
  emptied_here : (xs : List (Option X)) (key : ℕ) → (key < length xs) ⊎ (length xs ≤ key) → At (slice_set xs key None) key ≡ None
  emptied_here xs key (inl near) = get_or-set_same xs key None None near
  emptied_here xs key (inr far) = beyond xs key None far

  pub cleared_at : (xs : List (Option X)) (k key : ℕ) → key ≢ k → At (slice_set xs k None) key ≡ At xs key
  cleared_at xs k key other = get_or-set_other xs k key None None other

  emptied_by : (xs : List (Option X)) (k key : ℕ) → Same k key → At (slice_set xs k None) key ≡ (if k == key then None else At xs key)
  emptied_by xs k key (inl (e, is)) =
      subst (λ (b : Bool). At (slice_set xs k None) key ≡ (if b then None else At xs key)) (sym e)
      (subst (λ (n : ℕ). At (slice_set xs k None) n ≡ None) is (emptied_here xs k (near_or_far k (length xs))))
  emptied_by xs k key (inr (e, other)) =
      subst (λ (b : Bool). At (slice_set xs k None) key ≡ (if b then None else At xs key)) (sym e) (cleared_at xs k key (λ same. other (sym same)))

  pub emptied_at : (xs : List (Option X)) (k key : ℕ) → At (slice_set xs k None) key ≡ (if k == key then None else At xs key)
  emptied_at xs k key = emptied_by xs k key (eqb_tells k key)
