-- Rows as the layout has them.
use Rattle.std.proofs.Common.{◌≡◌, ◌∙◌, ℕ, ◌+◌, ◌-◌, ◌/◌, ◌==◌, ◌&&◌, Bool, true, false, List, [], ◌∷◌, length, get_or, if◌then◌else◌, ◌⊎◌, inl, inr, refl, sym, ap, rules}
use Rattle.tds_wire.specs.declared.fault.WireFault.TheVariants.{NoColumns}
use Rattle.tds_wire.specs.declared.features.Features.{Features}
use Rattle.tds_wire.specs.declared.shape.Shape.{Shape}
use Rattle.tds_wire.specs.Layout.{Read, Got, Short, Wrong, ◌>>=◌, Seen, bitmap, is_null, token_at, token_behind, value, values}
use Rattle.tds_rows.specs.declared.place.Place.{Place}
use Rattle.tds_rows.specs.Laws.{begins_row, passed_as}
use Rattle.tds_rows.specs.Places.{column_value_at, no_value, null_row_behind, value_place, values_placed, placed_row, row_behind, row_placed}

-- the places aside
abbrev forget : Read (List Place) → Read (Unit {0})
forget r = r >>= λ ps rest. Got tt rest

forget_more : (p : Place) (r : Read (List Place)) → forget (r >>= λ ps more. Got (p ∷ ps) more) ≡ forget r
forget_more p (Got ps rest) = refl
forget_more p Short = refl
forget_more p (Wrong fault rest) = refl

-- what the layout does behind a value, or without one
abbrev others : Bool → List ℕ → ℕ → List Shape → Read (Unit {0}) → Read (Unit {0})
others with_nulls nulls i shapes r = r >>= λ u rest. values with_nulls nulls (i + 1) shapes rest

abbrev others_placed : Bool → List ℕ → ℕ → List Shape → ℕ → List ℕ → Read Place → Read (List Place)
others_placed with_nulls nulls i shapes at bytes r = r >>= λ p rest. values_placed with_nulls nulls (i + 1) shapes (at + (length bytes - length rest)) rest >>= λ ps more. Got (p ∷ ps) more

abbrev values_by : Bool → Bool → List ℕ → ℕ → Shape → List Shape → List ℕ → Read (Unit {0})
values_by skipped with_nulls nulls i s shapes bytes =
    if skipped then values with_nulls nulls (i + 1) shapes bytes else others with_nulls nulls i shapes (value s bytes)

-- the columns behind one, as they are shown to be
abbrev Behind : Bool → List ℕ → ℕ → List Shape → Type 0
Behind with_nulls nulls i shapes = (at : ℕ) (bytes : List ℕ) → forget (values_placed with_nulls nulls (i + 1) shapes at bytes) ≡ values with_nulls nulls (i + 1) shapes bytes

by_value : (with_nulls : Bool) (nulls : List ℕ) (i : ℕ) (s : Shape) (shapes : List Shape) (at : ℕ) (bytes : List ℕ) (r : Read (Unit {0})) → Behind with_nulls nulls i shapes
    → forget (others_placed with_nulls nulls i shapes at bytes (r >>= λ u rest. Got (value_place at s bytes (length bytes - length rest)) rest)) ≡ others with_nulls nulls i shapes r
by_value with_nulls nulls i s shapes at bytes (Got u rest) h =
    forget_more (value_place at s bytes (length bytes - length rest)) (values_placed with_nulls nulls (i + 1) shapes (at + (length bytes - length rest)) rest)
    ∙ h (at + (length bytes - length rest)) rest
by_value with_nulls nulls i s shapes at bytes Short h = refl
by_value with_nulls nulls i s shapes at bytes (Wrong fault rest) h = refl

by_column : (skipped with_nulls : Bool) (nulls : List ℕ) (i : ℕ) (s : Shape) (shapes : List Shape) (at : ℕ) (bytes : List ℕ) → Behind with_nulls nulls i shapes
    → forget (others_placed with_nulls nulls i shapes at bytes (column_value_at skipped at s bytes)) ≡ values_by skipped with_nulls nulls i s shapes bytes
by_column true with_nulls nulls i s shapes at bytes h =
    forget_more (no_value at) (values_placed with_nulls nulls (i + 1) shapes (at + (length bytes - length bytes)) bytes) ∙ h (at + (length bytes - length bytes)) bytes
by_column false with_nulls nulls i s shapes at bytes h = by_value with_nulls nulls i s shapes at bytes (value s bytes) h

forgotten : (with_nulls : Bool) (nulls : List ℕ) (i : ℕ) (shapes : List Shape) (at : ℕ) (bytes : List ℕ) → forget (values_placed with_nulls nulls i shapes at bytes) ≡ values with_nulls nulls i shapes bytes
unfolding values_placed values
forgotten with_nulls nulls i [] at bytes = refl
forgotten with_nulls nulls i (s ∷ shapes) at bytes =
    by_column (with_nulls && is_null nulls i) with_nulls nulls i s shapes at bytes (λ k xs. forgotten with_nulls nulls (i + 1) shapes k xs)

passed_from : (s : Seen) (r : Read (List Place)) → (forget r >>= λ u rest. Got s rest) ≡ passed_as s r
passed_from s (Got ps rest) = refl
passed_from s Short = refl
passed_from s (Wrong fault rest) = refl

placed : (s : Seen) (with_nulls : Bool) (nulls : List ℕ) (at : ℕ) (bytes : List ℕ)
    → (values with_nulls nulls 0 s.columns bytes >>= λ u rest. Got s rest) ≡ passed_as s (values_placed with_nulls nulls 0 s.columns at bytes)
placed s with_nulls nulls at bytes =
    ap (λ (r : Read (Unit {0})). r >>= λ u rest. Got s rest) (sym (forgotten with_nulls nulls 0 s.columns at bytes)) ∙ passed_from s (values_placed with_nulls nulls 0 s.columns at bytes)

row_by : (none : Bool) (s : Seen) (bytes : List ℕ)
    → (if none then Wrong NoColumns bytes else (values false [] 0 s.columns bytes >>= λ u rest. Got s rest))
    ≡ passed_as s (if none then Wrong NoColumns bytes else row_behind 0 s.columns bytes)
row_by true s bytes = refl
row_by false s bytes = placed s false [] 1 bytes

bits_by : (s : Seen) (at : ℕ) (r : Read (List ℕ))
    → (r >>= λ bits rest. values true bits 0 s.columns rest >>= λ u more. Got s more) ≡ passed_as s (r >>= λ bits rest. values_placed true bits 0 s.columns at rest)
bits_by s at (Got bits rest) = placed s true bits at rest
bits_by s at Short = refl
bits_by s at (Wrong fault rest) = refl

null_row_by : (none : Bool) (s : Seen) (bytes : List ℕ)
    → (if none then Wrong NoColumns bytes else (bitmap ((length s.columns + 7) / 8) [] bytes >>= λ bits rest. values true bits 0 s.columns rest >>= λ u more. Got s more))
    ≡ passed_as s (if none then Wrong NoColumns bytes else null_row_behind 0 s.columns bytes)
null_row_by true s bytes = refl
null_row_by false s bytes = bits_by s (1 + (length s.columns + 7) / 8) (bitmap ((length s.columns + 7) / 8) [] bytes)

row_is : (most kind : ℕ) (features : Features) (shapes : List Shape) (b : ℕ) (bytes : List ℕ) → b ≡ 0xD1
    → token_at most features (record { kind = kind; columns = shapes }) (b ∷ bytes) ≡ passed_as (record { kind = b; columns = shapes }) (placed_row shapes (b ∷ bytes))
unfolding token_at token_behind row_placed
row_is most kind features shapes b bytes e = rw e (row_by (length shapes == 0) (record { kind = 0xD1; columns = shapes }) bytes)

null_row_is : (most kind : ℕ) (features : Features) (shapes : List Shape) (b : ℕ) (bytes : List ℕ) → b ≡ 0xD2
    → token_at most features (record { kind = kind; columns = shapes }) (b ∷ bytes) ≡ passed_as (record { kind = b; columns = shapes }) (placed_row shapes (b ∷ bytes))
unfolding token_at token_behind row_placed
null_row_is most kind features shapes b bytes e = rw e (null_row_by (length shapes == 0) (record { kind = 0xD2; columns = shapes }) bytes)

second_kind : (b : ℕ) → (b == 0xD1) ≡ false → begins_row b ≡ true → b ≡ 0xD2
second_kind b e h = let k : (b == 0xD2) ≡ true = rw e at h in search rules

kind_by : (first : Bool) (b : ℕ) → (b == 0xD1) ≡ first → begins_row b ≡ true → (b ≡ 0xD1) ⊎ (b ≡ 0xD2)
kind_by true b e h = inl (search rules)
kind_by false b e h = inr (second_kind b e h)

either_kind : (b : ℕ) → begins_row b ≡ true → (b ≡ 0xD1) ⊎ (b ≡ 0xD2)
either_kind b h = kind_by (b == 0xD1) b refl h

is_laid : (most kind : ℕ) (features : Features) (shapes : List Shape) (b : ℕ) (bytes : List ℕ) → (b ≡ 0xD1) ⊎ (b ≡ 0xD2)
    → token_at most features (record { kind = kind; columns = shapes }) (b ∷ bytes) ≡ passed_as (record { kind = b; columns = shapes }) (placed_row shapes (b ∷ bytes))
is_laid most kind features shapes b bytes (inl e) = row_is most kind features shapes b bytes e
is_laid most kind features shapes b bytes (inr e) = null_row_is most kind features shapes b bytes e

pub rows_laid : (most kind : ℕ) (features : Features) (shapes : List Shape) (bytes : List ℕ) → begins_row (get_or bytes 0 0) ≡ true
    → token_at most features (record { kind = kind; columns = shapes }) bytes ≡ passed_as (record { kind = get_or bytes 0 0; columns = shapes }) (placed_row shapes bytes)
rows_laid most kind features shapes [] h = absurd cc
rows_laid most kind features shapes (b ∷ bytes) h = is_laid most kind features shapes b bytes (either_kind b h)
