-- The columns that a memory knows.
use Rattle.std.proofs.Common.{◌≡◌, ◌∙◌, ◌≤◌, ◌<◌, ℕ, ◌+◌, List, [], ◌∷◌, ◌++◌, length, take, set, refl, sym, ap, arith, get_or}
use Rattle.std.specs.Prelude.{map, min}
use Rattle.std.proofs.lemmas.List.{map-append, take_more_set, get_or-map, get_or-take, length-take, length-map}
use Rattle.tds_wire.specs.declared.shape.Shape.{Shape}
use Rattle.tds_wire.specs.declared.shape.Shape.TheVariants as shape
use Rattle.tds_wire.specs.declared.memory.Column.{Column}
use Rattle.tds_wire.specs.declared.memory.Memory.{Memory}
use Rattle.tds_wire.specs.Memory.{shape_of, column_of, shapes_of}

shape_back : (s : Shape) → shape_of (column_of s) ≡ s
unfolding shape_of
shape_back (shape.Fixed n) = refl
shape_back shape.Byte = refl
shape_back shape.Short = refl
shape_back shape.Long = refl
shape_back shape.Pointer = refl
shape_back shape.Parts = refl

shapes_count : (m : Memory) → length (shapes_of m) ≡ min m.count (length m.columns)
unfolding shapes_of
shapes_count m = length-map (take m.count m.columns) shape_of ∙ length-take m.count m.columns

-- all of its columns have room
pub few_columns : (m : Memory) → length m.columns ≡ 4096 → m.count < 4096 → m.count ≡ length (shapes_of m)
few_columns m n h = let l = shapes_count m in omega (arith, l, n, h)

pub all_columns : (m : Memory) → length m.columns ≡ 4096 → 4096 ≤ m.count → 4096 ≡ length (shapes_of m)
all_columns m n h = let l = shapes_count m in omega (arith, l, n, h)

pub shapes_at : (m : Memory) (i n : ℕ) (d : Column) → n ≡ length (shapes_of m) → i < n → length m.columns ≡ 4096
    → shape_of (get_or m.columns i d) ≡ get_or (shapes_of m) i shape.Byte
unfolding shapes_of
shapes_at m i n d e few k =
    let c = shapes_count m in
    let l : i < length (take m.count m.columns) = rw (length-take m.count m.columns) (omega (arith, c, e, few, k)) in
    let f : i < m.count = omega (arith, c, e, few, k) in
    sym (get_or-map shape_of (take m.count m.columns) i d shape.Byte l ∙ ap shape_of (get_or-take m.count m.columns i d f))

more_columns : (n : ℕ) (xs : List Column) (s : Shape) → n < length xs
    → map shape_of (take (n + 1) (set xs n (column_of s))) ≡ map shape_of (take n xs) ++ s ∷ []
more_columns n xs s h =
    ap (map shape_of) (take_more_set xs n (column_of s) h)
    ∙ (map-append shape_of (take n xs) (column_of s ∷ []) ∙ ap (λ (t : Shape). map shape_of (take n xs) ++ t ∷ []) (shape_back s))

pushed_at : (m : Memory) (n : ℕ) (s : Shape) → length m.columns ≡ 4096 → n ≡ length (shapes_of m) → n < 4096
    → shapes_of (record m { columns = set m.columns n (column_of s); count = n + 1 }) ≡ shapes_of m ++ s ∷ []
unfolding shapes_of
pushed_at m n s k e h =
    let c = shapes_count m in
    let i : n ≡ m.count = omega (arith, c, e, h, k) in
    more_columns n m.columns s (omega (arith, h, k)) ∙ ap (λ (j : ℕ). map shape_of (take j m.columns) ++ s ∷ []) i

pub pushed : (m : Memory) (i n : ℕ) (c : Column) (s : Shape) → length m.columns ≡ 4096 → n ≡ length (shapes_of m) → n < 4096 → i ≡ n → c ≡ column_of s
    → shapes_of (record m { columns = set m.columns i c; count = n + 1 }) ≡ shapes_of m ++ s ∷ []
pushed m i n c s k e h j o =
    ap (λ (x : Column). shapes_of (record m { columns = set m.columns i x; count = n + 1 })) o
    ∙ (ap (λ (y : ℕ). shapes_of (record m { columns = set m.columns y (column_of s); count = n + 1 })) j ∙ pushed_at m n s k e h)
