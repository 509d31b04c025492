-- A search through all that a table knows: what is looked for is among what is left.
use Rattle.std.proofs.Common.{◌≡◌, ◌%◌, ◌==◌, ◌∙◌, ℕ, List, [], ◌∷◌, Option, Some, None, IsSome, Contains, Bool, true, false, if◌then◌else◌, refl, ap, inl, inr, arith, IsTrue}
use Rattle.std.proofs.lemmas.Bool.{eqb-true}
use Rattle.slab.specs.Slab.{Slab, get, entries}
use Rattle.slab.proofs.SlabLemmas.{Contains-cons_cases, Contains-entries}
use Rattle.relay_logins.specs.Keys.{of_key, known}
use Rattle.relay_logins.specs.declared.table.Entry.{Entry}

module _ {T : Type 0} (P : ℕ → Type 0) where
  -- the entry of each such key is among these
  abbrev pub AreAhead : List (ℕ × Entry T) → Type 0
  AreAhead rest = (key : ℕ) → P key → (e : ℕ × Entry T) × Contains rest e × (e.1.key ≡ key)

  -- all of them are ahead at first, where something is known by each such key
  has_key : (key : ℕ) (entry : Entry T) (is : Bool) → (entry.key == key) ≡ is → IsSome (if is then Some entry.value else None) → entry.key ≡ key
  has_key key entry true same h = eqb-true entry.key key same
  has_key key entry false same h = absurd (cc)

  stands : (slab : Slab (Entry T)) (key : ℕ) (o : Option (Entry T)) → get slab (key % 16384) ≡ o → IsSome (of_key key o) → (e : ℕ × Entry T) × Contains (entries slab) e × (e.1.key ≡ key)
  stands slab key None is h = absurd (cc)
  stands slab key (Some entry) is h = ((key % 16384, entry), (Contains-entries slab (key % 16384) entry).1 is, has_key key entry (entry.key == key) refl h)

  pub ahead_at_first : (slab : Slab (Entry T)) → ((key : ℕ) → P key → IsSome (known slab key)) → AreAhead (entries slab)
  ahead_at_first slab there key p = stands slab key (get slab (key % 16384)) refl (there key p)

  -- who is passed is none of them
  pub ahead_behind : (head : ℕ × Entry T) (rest : List (ℕ × Entry T)) → AreAhead (head ∷ rest) → (P head.1.key → ⊥) → AreAhead rest
  ahead_behind head rest ahead passed key p =
      let found = ahead key p in
      elim (Contains-cons_cases _ _ _ found.1) [
        | inl here ↦ elim (passed (rw (ap (λ e. e.1.key) here ∙ found.2) p)) [ ]
        | inr there ↦ (found.0, there, found.2)
      ]

  -- there is none where nothing is left
  pub none_ahead : AreAhead [] → (key : ℕ) → P key → ⊥
  none_ahead ahead key p = omega (arith, (ahead key p).1.1)

pub not_true : IsTrue false → ⊥
not_true e = cc
