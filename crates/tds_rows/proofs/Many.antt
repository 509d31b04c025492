-- Rows, one behind the other, and their places.
use Rattle.std.proofs.Common.{◌≡◌, ◌∙◌, ◌≤◌, ℕ, suc, ◌+◌, ◌-◌, ◌*◌, List, [], ◌++◌, length, take, drop, refl, sym, ap, arith, subst, Option}
use Rattle.std.proofs.Math.Nat.{suc-mul}
use Rattle.std.proofs.Math.Seq.{take-append-add}
use Rattle.std.proofs.lemmas.List.{append-nil, drop-drop, drop_all, drop_at, length-append, length-drop, length-take-le, take-append-le, take_all}
use borrow.Rule.Slice.PartMut.{mid_of, post_of, put_mid}
use Rattle.tds_wire.specs.declared.shape.Shape.{Shape}
use Rattle.tds_wire.specs.Layout.{Read, Got, ◌>>=◌}
use Rattle.tds_rows.specs.declared.place.Place.{Place}
use Rattle.tds_rows.specs.declared.place.RowColumn.{RowColumn}
use Rattle.tds_rows.specs.declared.place.RowFault.{RowFault}
use Rattle.tds_rows.specs.Finding.{column_shapes}
use Rattle.tds_rows.specs.Laws.{DividesRow, DividesRows}
use Rattle.tds_rows.specs.Many.{RowsEnd, RowsFound}
use Rattle.tds_rows.specs.Places.{row_placed, rows_placed}
use Rattle.tds_rows.proofs.Going.{as_many}

-- ---- Room from one place on

module _ (a k : ℕ) (xs ys : List Place) where
  -- those of one row more
  pub take_more_put : (m : ℕ) → a ≤ length xs → m ≤ length ys → take (a + m) (put_mid a k xs ys) ≡ take a xs ++ take m ys
  take_more_put m h l =
      ap (λ (n : ℕ). take (n + m) (take a xs ++ (ys ++ post_of a k xs))) (sym (length-take-le a xs h))
      ∙ (take-append-add (take a xs) (ys ++ post_of a k xs) m ∙ ap (λ (zs : List Place). take a xs ++ zs) (take-append-le m ys (post_of a k xs) l))

  none_behind : k ≡ length xs - a → post_of a k xs ≡ []
  none_behind e = drop_all k (drop a xs) (omega (arith, e, length-drop a xs))

  pub length_put : a ≤ length xs → k ≡ length xs - a → length ys ≡ k → length (put_mid a k xs ys) ≡ length xs
  length_put h e l =
      ap (λ (zs : List Place). length (take a xs ++ (ys ++ zs))) (none_behind e)
      ∙ (ap (λ (zs : List Place). length (take a xs ++ zs)) (append-nil ys) ∙ omega (arith, length-append (take a xs) ys, length-take-le a xs h, e, l, h))

  pub behind_put : (m : ℕ) → a ≤ length xs → k ≡ length xs - a → drop m ys ≡ drop m (mid_of a k xs) → drop (a + m) (put_mid a k xs ys) ≡ drop (a + m) xs
  behind_put m h e o =
      sym (drop-drop m a (put_mid a k xs ys))
      ∙ (ap (drop m) (drop_at (take a xs) (ys ++ post_of a k xs) a (length-take-le a xs h))
      ∙ (ap (λ (zs : List Place). drop m (ys ++ zs)) (none_behind e)
      ∙ (ap (drop m) (append-nil ys)
      ∙ (o ∙ (ap (drop m) (take_all k (drop a xs) (omega (arith, e, length-drop a xs))) ∙ drop-drop m a xs)))))

-- those behind so many others stay where those behind fewer do
pub behind_more : (a n m : ℕ) (xs ys : List Place) → a ≡ n → drop a xs ≡ drop a ys → drop (n + m) xs ≡ drop (n + m) ys
behind_more a n m xs ys e o =
    sym (drop-drop m n xs) ∙ (ap (drop m) (subst (λ (i : ℕ). drop i xs ≡ drop i ys) e o) ∙ drop-drop m n ys)

-- ---- One row more

pub rows_times : (rows m a : ℕ) → a ≡ rows * m → a + m ≡ (rows + 1) * m
rows_times rows m a e =
    let n : suc rows ≡ rows + 1 = omega arith in
    ap (λ (i : ℕ). i + m) e ∙ (sym (suc-mul rows m) ∙ ap (λ (i : ℕ). i * m) n)

abbrev one_more : List Shape → List ℕ → Read (List Place) → Read (List Place)
one_more shapes bytes r = r >>= λ found rest. row_placed (length bytes - length rest) shapes rest >>= λ more last. Got (found ++ more) last

rows_on : (rows : ℕ) (shapes : List Shape) (bytes : List ℕ) → rows_placed (suc rows) shapes bytes ≡ one_more shapes bytes (rows_placed rows shapes bytes)
unfolding rows_placed
rows_on rows shapes bytes = refl

here_at : (bytes : List ℕ) (done : ℕ) → done ≤ length bytes → length bytes - length (drop done bytes) ≡ done
here_at bytes done h = omega (arith, length-drop done bytes, h)

pub row_more : (rows : ℕ) (shapes : List Shape) (bytes : List ℕ) (front last : List Place) (done end : ℕ) → done ≤ length bytes
    → rows_placed rows shapes bytes ≡ Got front (drop done bytes) → row_placed done shapes (drop done bytes) ≡ Got last (drop end bytes)
    → rows_placed (rows + 1) shapes bytes ≡ Got (front ++ last) (drop end bytes)
row_more rows shapes bytes front last done end h e f =
    let n : rows + 1 ≡ suc rows = omega arith in
    ap (λ (m : ℕ). rows_placed m shapes bytes) n
    ∙ (rows_on rows shapes bytes
    ∙ (ap (one_more shapes bytes) e
    ∙ (ap (λ (m : ℕ). row_placed m shapes (drop done bytes) >>= λ more rest. Got (front ++ more) rest) (here_at bytes done h)
    ∙ ap (λ (r : Read (List Place)). r >>= λ more rest. Got (front ++ more) rest) f)))

row_behind : (rows : ℕ) (shapes : List Shape) (bytes : List ℕ) (front last : List Place) (middle rest : List ℕ) → DividesRows rows shapes bytes front middle
    → DividesRow (length bytes - length middle) shapes bytes last rest → DividesRows (suc rows) shapes bytes (front ++ last) rest
unfolding DividesRows
row_behind rows shapes bytes front last middle rest d e = (front, last, middle, refl, d, e)

pub divided_more : (rows : ℕ) (shapes : List Shape) (bytes : List ℕ) (front last : List Place) (done end : ℕ) → done ≤ length bytes
    → DividesRows rows shapes bytes front (drop done bytes) → DividesRow done shapes bytes last (drop end bytes) → DividesRows (rows + 1) shapes bytes (front ++ last) (drop end bytes)
divided_more rows shapes bytes front last done end h d e =
    let n : suc rows ≡ rows + 1 = omega arith in
    subst (λ (m : ℕ). DividesRows m shapes bytes (front ++ last) (drop end bytes)) n
    (row_behind rows shapes bytes front last (drop done bytes) (drop end bytes) d
    (subst (λ (m : ℕ). DividesRow m shapes bytes last (drop end bytes)) (sym (here_at bytes done h)) e))

-- ---- No row yet, and the last one

pub no_rows : (shapes : List Shape) (bytes : List ℕ) → rows_placed 0 shapes bytes ≡ Got [] bytes
unfolding rows_placed
no_rows shapes bytes = refl

pub none_divided : (shapes : List Shape) (bytes : List ℕ) → DividesRows 0 shapes bytes [] bytes
unfolding DividesRows
none_divided shapes bytes = (refl, refl)

pub found_by : (rows done a : ℕ) (stop : Option RowFault) (columns : List RowColumn) (bytes : List ℕ) (places : List Place) → a ≡ rows * length columns → a ≤ length places → done ≤ length bytes
    → rows_placed rows (column_shapes columns) bytes ≡ Got (take a places) (drop done bytes) → DividesRows rows (column_shapes columns) bytes (take a places) (drop done bytes)
    → RowsEnd stop done (column_shapes columns) bytes (length places - a) → RowsFound (record { rows = rows; taken = done; stop = stop }) (column_shapes columns) bytes places
found_by rows done a stop columns bytes places e h l v d x =
    let shapes = column_shapes columns in
    let n : a ≡ rows * length shapes = e ∙ ap (λ (m : ℕ). rows * m) (sym (as_many columns)) in
    record {
      room = subst (λ (m : ℕ). m ≤ length places) n h;
      within = l;
      values = subst (λ (m : ℕ). rows_placed rows shapes bytes ≡ Got (take m places) (drop done bytes)) n v;
      divided = subst (λ (m : ℕ). DividesRows rows shapes bytes (take m places) (drop done bytes)) n d;
      end = subst (λ (m : ℕ). RowsEnd stop done shapes bytes (length places - m)) n x;
    }
