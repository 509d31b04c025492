-- The values of a row, one column behind the other.
use Rattle.std.proofs.Common.{◌≡◌, ◌∙◌, ◌≤◌, ◌<◌, ℕ, ◌+◌, ◌-◌, ◌&&◌, Bool, List, [], ◌∷◌, ◌++◌, map, length, take, drop, get_or, refl, sym, ap, arith, append_assoc, Option, subst}
use Rattle.std.proofs.lemmas.List.{append-nil, drop_all, drop-append-le, drop_more, get_or-map, get_or-take, length-drop, length-map, length-take-le, take_more_set, take_rest}
use Rattle.std.proofs.Math.ListN.{set}
use Rattle.tds_wire.specs.declared.shape.Shape.{Shape}
use Rattle.tds_wire.specs.Layout.{Read, Got, Short, Wrong, ◌>>=◌, is_null}
use Rattle.tds_wire.specs.Memory.{shape_of}
use Rattle.tds_rows.specs.declared.place.Place.{Place}
use Rattle.tds_rows.specs.declared.place.RowColumn.{RowColumn}
use Rattle.tds_rows.specs.Finding.{ValueFound, column_shapes}
use Rattle.tds_rows.specs.Places.{column_value_at, values_placed}

-- places before those that are read
abbrev pub with_front : List Place → Read (List Place) → Read (List Place)
with_front front r = r >>= λ ps rest. Got (front ++ ps) rest

pub front_none : (r : Read (List Place)) → with_front [] r ≡ r
front_none (Got ps rest) = refl
front_none Short = refl
front_none (Wrong fault rest) = refl

front_more : (front : List Place) (p : Place) (r : Read (List Place)) → with_front front (r >>= λ ps rest. Got (p ∷ ps) rest) ≡ with_front (front ++ p ∷ []) r
front_more front p (Got ps rest) = ap (λ (xs : List Place). Got xs rest) (sym (append_assoc front (p ∷ []) ps))
front_more front p Short = refl
front_more front p (Wrong fault rest) = refl

-- what was read of a column, and the others behind it
abbrev others_behind : Bool → List ℕ → ℕ → List Shape → ℕ → List ℕ → Read Place → Read (List Place)
others_behind with_nulls nulls i others at bytes r =
    r >>= λ p rest. values_placed with_nulls nulls (i + 1) others (at + (length bytes - length rest)) rest >>= λ ps more. Got (p ∷ ps) more

column_read : (with_nulls : Bool) (nulls : List ℕ) (i : ℕ) (s : Shape) (others : List Shape) (at : ℕ) (bytes : List ℕ) → (skipped : Bool) → skipped ≡ (with_nulls && is_null nulls i)
    → values_placed with_nulls nulls i (s ∷ others) at bytes ≡ others_behind with_nulls nulls i others at bytes (column_value_at skipped at s bytes)
unfolding values_placed
column_read with_nulls nulls i s others at bytes skipped f = rw f refl

pub value_step : (front : List Place) (with_nulls : Bool) (nulls : List ℕ) (i : ℕ) (s : Shape) (others : List Shape) (at n : ℕ) (p : Place) (bytes : List ℕ) (skipped : Bool)
    → skipped ≡ (with_nulls && is_null nulls i) → n ≤ length bytes → column_value_at skipped at s bytes ≡ Got p (drop n bytes)
    → with_front front (values_placed with_nulls nulls i (s ∷ others) at bytes) ≡ with_front (front ++ p ∷ []) (values_placed with_nulls nulls (i + 1) others (at + n) (drop n bytes))
value_step front with_nulls nulls i s others at n p bytes skipped f h e =
    let k : length bytes - length (drop n bytes) ≡ n = omega (arith, length-drop n bytes, h) in
    ap (with_front front) (column_read with_nulls nulls i s others at bytes skipped f)
    ∙ (ap (λ (r : Read Place). with_front front (others_behind with_nulls nulls i others at bytes r)) e
    ∙ (ap (λ (m : ℕ). with_front front (values_placed with_nulls nulls (i + 1) others (at + m) (drop n bytes) >>= λ ps more. Got (p ∷ ps) more)) k
    ∙ front_more front p (values_placed with_nulls nulls (i + 1) others (at + n) (drop n bytes))))

pub value_lacks : (front : List Place) (with_nulls : Bool) (nulls : List ℕ) (i : ℕ) (s : Shape) (others : List Shape) (at : ℕ) (bytes : List ℕ) (skipped : Bool)
    → skipped ≡ (with_nulls && is_null nulls i) → column_value_at skipped at s bytes ≡ Short → with_front front (values_placed with_nulls nulls i (s ∷ others) at bytes) ≡ Short
value_lacks front with_nulls nulls i s others at bytes skipped f e =
    ap (with_front front) (column_read with_nulls nulls i s others at bytes skipped f)
    ∙ ap (λ (r : Read Place). with_front front (others_behind with_nulls nulls i others at bytes r)) e

pub row_end : (front : List Place) (with_nulls : Bool) (nulls : List ℕ) (i at : ℕ) (bytes : List ℕ) → with_front front (values_placed with_nulls nulls i [] at bytes) ≡ Got front bytes
unfolding values_placed
row_end front with_nulls nulls i at bytes = ap (λ (xs : List Place). Got xs bytes) (append-nil front)

-- the shapes of the columns that are left
pub shapes_left : (columns : List RowColumn) (i : ℕ) (d : RowColumn) → i < length columns
    → drop i (column_shapes columns) ≡ shape_of (get_or columns i d).shape ∷ drop (i + 1) (column_shapes columns)
unfolding column_shapes
shapes_left columns i d h =
    let f = λ (c : RowColumn). shape_of c.shape in
    drop_more (map f columns) i (f d) (omega (arith, h, length-map columns f))
    ∙ ap (λ (s : Shape). s ∷ drop (i + 1) (map f columns)) (get_or-map f columns i d (f d) h)

pub shapes_over : (columns : List RowColumn) (i : ℕ) → length columns ≤ i → drop i (column_shapes columns) ≡ []
unfolding column_shapes
shapes_over columns i h = drop_all i _ (omega (arith, h, length-map columns (λ (c : RowColumn). shape_of c.shape)))

pub as_many : (columns : List RowColumn) → length (column_shapes columns) ≡ length columns
unfolding column_shapes
as_many columns = length-map columns (λ (c : RowColumn). shape_of c.shape)

-- one column more of a row
pub column_step : (columns : List RowColumn) (i : ℕ) (d : RowColumn) (front : List Place) (with_nulls : Bool) (nulls : List ℕ) (at n : ℕ) (p : Place) (bytes : List ℕ) (skipped : Bool)
    → i < length columns → skipped ≡ (with_nulls && is_null nulls i)
    → (n ≤ length bytes) × (column_value_at skipped at (shape_of (get_or columns i d).shape) bytes ≡ Got p (drop n bytes))
    → with_front front (values_placed with_nulls nulls i (drop i (column_shapes columns)) at bytes)
    ≡ with_front (front ++ p ∷ []) (values_placed with_nulls nulls (i + 1) (drop (i + 1) (column_shapes columns)) (at + n) (drop n bytes))
column_step columns i d front with_nulls nulls at n p bytes skipped l f e =
    ap (λ (xs : List Shape). with_front front (values_placed with_nulls nulls i xs at bytes)) (shapes_left columns i d l)
    ∙ value_step front with_nulls nulls i _ (drop (i + 1) (column_shapes columns)) at n p bytes skipped f e.0 e.1

pub column_lacks : (columns : List RowColumn) (i : ℕ) (d : RowColumn) (front : List Place) (with_nulls : Bool) (nulls : List ℕ) (at : ℕ) (bytes : List ℕ) (skipped : Bool)
    → i < length columns → skipped ≡ (with_nulls && is_null nulls i) → column_value_at skipped at (shape_of (get_or columns i d).shape) bytes ≡ Short
    → with_front front (values_placed with_nulls nulls i (drop i (column_shapes columns)) at bytes) ≡ Short
column_lacks columns i d front with_nulls nulls at bytes skipped l f e =
    ap (λ (xs : List Shape). with_front front (values_placed with_nulls nulls i xs at bytes)) (shapes_left columns i d l)
    ∙ value_lacks front with_nulls nulls i _ (drop (i + 1) (column_shapes columns)) at bytes skipped f e

-- the row is over
pub columns_end : (columns : List RowColumn) (i : ℕ) (front : List Place) (with_nulls : Bool) (nulls : List ℕ) (at : ℕ) (bytes : List ℕ)
    → length columns ≤ i → with_front front (values_placed with_nulls nulls i (drop i (column_shapes columns)) at bytes) ≡ Got front bytes
columns_end columns i front with_nulls nulls at bytes l =
    ap (λ (xs : List Shape). with_front front (values_placed with_nulls nulls i xs at bytes)) (shapes_over columns i l) ∙ row_end front with_nulls nulls i at bytes

-- the bytes from one on, as a slice has them
pub rest_stands : (skipped : Bool) (at : ℕ) (s : Shape) (bytes : List ℕ) (i : ℕ) (found : Option (Place × ℕ))
    → ValueFound (column_value_at skipped at s (take (length bytes - i) (drop i bytes))) (take (length bytes - i) (drop i bytes)) found
    → ValueFound (column_value_at skipped at s (drop i bytes)) (drop i bytes) found
rest_stands skipped at s bytes i found h = subst (λ (xs : List ℕ). ValueFound (column_value_at skipped at s xs) xs found) (take_rest bytes i) h

-- ---- Before the row has ended

-- the columns up to one, which are there
as_many_taken : (columns : List RowColumn) (m : ℕ) → m ≤ length columns → length (take m columns) ≡ m
as_many_taken columns m h = length-take-le m columns h

pub step_of_front : (columns : List RowColumn) (m i : ℕ) (d : RowColumn) (front : List Place) (with_nulls : Bool) (nulls : List ℕ) (at n : ℕ) (p : Place) (bytes : List ℕ) (skipped : Bool)
    → i < m → m ≤ length columns → skipped ≡ (with_nulls && is_null nulls i)
    → (n ≤ length bytes) × (column_value_at skipped at (shape_of (get_or columns i d).shape) bytes ≡ Got p (drop n bytes))
    → with_front front (values_placed with_nulls nulls i (drop i (column_shapes (take m columns))) at bytes)
    ≡ with_front (front ++ p ∷ []) (values_placed with_nulls nulls (i + 1) (drop (i + 1) (column_shapes (take m columns))) (at + n) (drop n bytes))
step_of_front columns m i d front with_nulls nulls at n p bytes skipped l le f e =
    column_step (take m columns) i d front with_nulls nulls at n p bytes skipped (omega (arith, l, as_many_taken columns m le)) f
    (e.0, ap (λ (c : RowColumn). column_value_at skipped at (shape_of c.shape) bytes) (get_or-take m columns i d l) ∙ e.1)

pub end_of_front : (columns : List RowColumn) (i : ℕ) (front : List Place) (with_nulls : Bool) (nulls : List ℕ) (at : ℕ) (bytes : List ℕ) → i ≤ length columns
    → with_front front (values_placed with_nulls nulls i (drop i (column_shapes (take i columns))) at bytes) ≡ Got front bytes
end_of_front columns i front with_nulls nulls at bytes l = columns_end (take i columns) i front with_nulls nulls at bytes (omega (arith, as_many_taken columns i l))

same_shape : (s t : Shape) (xs ys : List Shape) → s ∷ xs ≡ t ∷ ys → s ≡ t
same_shape s t xs ys e = cc

-- the bytes of the next value end first
pub next_lacks : (columns : List RowColumn) (i : ℕ) (d : RowColumn) (skipped other : Bool) (at : ℕ) (bytes : List ℕ) (s : Shape) (others : List Shape)
    → i < length columns → skipped ≡ other → column_value_at skipped at (shape_of (get_or columns i d).shape) bytes ≡ Short → drop i (column_shapes columns) ≡ s ∷ others
    → column_value_at other at s bytes ≡ Short
next_lacks columns i d skipped other at bytes s others l o e f =
    let same : s ≡ shape_of (get_or columns i d).shape = same_shape s _ others (drop (i + 1) (column_shapes columns)) (sym f ∙ shapes_left columns i d l) in
    ap (λ (b : Bool). column_value_at b at s bytes) (sym o) ∙ (ap (λ (x : Shape). column_value_at skipped at x bytes) same ∙ e)

pub none_next : {A : Type 0} → (columns : List RowColumn) (i : ℕ) (s : Shape) (others : List Shape) → length columns ≤ i → drop i (column_shapes columns) ≡ s ∷ others → A
none_next columns i s others l e = absurd (let none : drop i (column_shapes columns) ≡ [] = shapes_over columns i l in cc)

-- a place more, behind those from the first one on
pub front_push : (places : List Place) (first i : ℕ) (p : Place) → first ≤ i → i < length places → drop first (take (i + 1) (set places i p)) ≡ drop first (take i places) ++ p ∷ []
front_push places first i p l k =
    ap (drop first) (take_more_set places i p k) ∙ drop-append-le first (take i places) (p ∷ []) (omega (arith, l, length-take-le i places (omega (arith, k))))

pub front_begun : (places : List Place) (first : ℕ) → first ≤ length places → drop first (take first places) ≡ []
front_begun places first l = drop_all first (take first places) (omega (arith, length-take-le first places l))
