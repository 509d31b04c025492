-- What is seen of each application, where one of them changes.
use Rattle.std.proofs.Common.{◌≡◌, ◌≢◌, ◌∙◌, ℕ, List, Option, Some, None, sym, ap, map, slice_index_or, slice_set, option_map}
use Rattle.std.proofs.lemmas.List.{map-set, set-get_or}
use Rattle.std.proofs.Math.Seq.{map-set_same}
use Rattle.std.proofs.Math.ListN.{get_or-map}
use Rattle.slab.specs.Slab.{Slab, Updates, get, with_value}
use Rattle.std.specs.Prelude.{OnSome, IfNone}
use Rattle.tds_relay.specs.declared.application.Application.{Application}

module _ {X : Type 0} (see : Application → X) where
  abbrev pub seen : Slab Application → List (Option X)
  seen s = map (option_map see) s.slots

  abbrev pub seen_at : Slab Application → ℕ → Option X
  seen_at s key = slice_index_or (seen s) key None

  -- one is written back of which the same is seen
  pub seen_kept : (s : Slab Application) (key : ℕ) (a b : Application) → Some a ≡ get s key → see b ≡ see a → seen (with_value s key b) ≡ seen s
  seen_kept s key a b is same = map-set_same (option_map see) s.slots key (Some b) None (ap Some same ∙ ap (option_map see) is)

  -- what is seen of one is what its slot has
  pub seen_is : (s : Slab Application) (key : ℕ) → seen_at s key ≡ option_map see (get s key)
  seen_is s key = get_or-map (option_map see) s.slots key None

  -- nothing changes of one that isn't there
  pub seen_nobody : (s : Slab Application) (key : ℕ) (by : X → X) → get s key ≡ None → slice_set (seen s) key (option_map by (seen_at s key)) ≡ seen s
  seen_nobody s key by none =
      let absent : seen_at s key ≡ None = seen_is s key ∙ ap (option_map see) none in
      ap (λ (o : Option X). slice_set (seen s) key o) (ap (option_map by) absent ∙ sym absent) ∙ set-get_or (seen s) key None

  -- one is written back of which something else is seen
  pub seen_changed : (s : Slab Application) (key : ℕ) (a b : Application) (by : X → X) → Some a ≡ get s key → see b ≡ by (see a) → seen (with_value s key b) ≡ slice_set (seen s) key (option_map by (seen_at s key))
  seen_changed s key a b by is changed =
      map-set (option_map see) s.slots key (Some b)
      ∙ ap (λ (o : Option X). slice_set (seen s) key o) (ap Some changed ∙ sym (ap (option_map by) (seen_is s key ∙ ap (option_map see) (sym is))))

  -- one is there no more
  pub seen_quit : (s s1 : Slab Application) (key : ℕ) (r : Option Application) → r ≡ get s key → OnSome r (s1.slots ≡ slice_set s.slots key None) → IfNone r (s1 ≡ s) → seen s1 ≡ slice_set (seen s) key None
  seen_quit s s1 key (Some a) is slots absent = ap (map (option_map see)) slots ∙ map-set (option_map see) s.slots key None
  seen_quit s s1 key None is slots absent =
      let none : seen_at s key ≡ None = seen_is s key ∙ ap (option_map see) (sym is) in
      ap seen absent ∙ sym (set-get_or (seen s) key None) ∙ ap (λ (o : Option X). slice_set (seen s) key o) none

  -- one has come
  pub seen_new : (s s1 : Slab Application) (key : ℕ) (a : Application) → Updates s s1 key (Some a) → seen_at s1 key ≡ Some (see a)
  seen_new s s1 key a updates = seen_is s1 key ∙ ap (option_map see) updates.changed

  pub seen_others : (s s1 : Slab Application) (key other : ℕ) (a : Application) → Updates s s1 key (Some a) → other ≢ key → seen_at s1 other ≡ seen_at s other
  seen_others s s1 key other a updates apart = seen_is s1 other ∙ ap (option_map see) (updates.others other apart) ∙ sym (seen_is s other)
