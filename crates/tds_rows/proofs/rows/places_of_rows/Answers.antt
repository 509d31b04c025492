use Rattle.std.proofs.Common.{rules, arith, ◌≡◌, ◌≤◌, ◌<◌, ◌+◌, ◌-◌, ◌*◌, ◌++◌, ◌∙◌, ℕ, List, Some, None, length, drop, take, refl, sym, ap, subst}
use Rattle.std.proofs.lemmas.List.{length-drop, length-take-le}
use Rattle.std.proofs.lemmas.Slice.{take-put_mid_below}
use borrow.Rule.Slice.PartMut.{put_mid}
use Rattle.tds_wire.specs.Layout.{Got}
use Rattle.tds_rows.specs.declared.place.Place.{Place}
use Rattle.tds_rows.specs.declared.place.RowFault.TheVariants as faults
use Rattle.tds_rows.specs.Finding.{NoRowAt, column_shapes}
use Rattle.tds_rows.specs.Laws.{DividesRows}
use Rattle.tds_rows.proofs.Going.{as_many}
use Rattle.tds_rows.proofs.Many.{behind_more, behind_put, divided_more, found_by, length_put, no_rows, none_divided, row_more, rows_times, take_more_put}
use Rattle.tds_rows.proofs.rows.places_of_rows.Goals as goal

pub rows-init : goal.rows-init
rows-init c = record {
  done = omega arith;
  few = omega arith;
  written = omega arith;
  within = omega arith;
  length = refl;
  others = refl;
  values = no_rows (column_shapes c.args.columns.now) c.args.bytes.now;
  divided = none_divided (column_shapes c.args.columns.now) c.args.bytes.now;
}

pub returns-then-places-written-clause-exact : goal.returns-then-places-written-clause-exact
returns-then-places-written-clause-exact c =
    let less : c.rows.done < length c.args.bytes.now = search rules in
    let was = c.rows.invariant in
    found_by c.rows.rows c.rows.done c.rows.written (Some faults.NoRoom) c.args.columns.now c.args.bytes.now c.rows.places was.written was.within was.done was.values was.divided
    (less, omega (arith, as_many c.args.columns.now, c.if-places-written.true))

pub returns-then-places-written-clause-others : goal.returns-then-places-written-clause-others
returns-then-places-written-clause-others c =
    behind_more c.rows.written (c.rows.rows * length c.args.columns.now) (length c.args.columns.now) c.rows.places c.args.places.now c.rows.invariant.written c.rows.invariant.others

pub returns-in-Err-clause-exact : goal.returns-in-Err-clause-exact
returns-in-Err-clause-exact c =
    let less : c.rows.done < length c.args.bytes.now = search rules in
    let was = c.rows.invariant in
    let shapes = column_shapes c.args.columns.now in
    let bytes = c.args.bytes.now in
    let a = c.rows.written in
    let k : ℕ = length c.rows.places - a in
    let xs = c.rows.places in
    let ys = c.row_at.new.places in
    let many : length ys ≡ k = c.row_at.ensures.room ∙ length-take-le k (drop a xs) (omega (arith, length-drop a xs)) in
    let whole : length (put_mid a k xs ys) ≡ length xs = length_put a k xs ys was.within refl many in
    let same : take a (put_mid a k xs ys) ≡ take a xs = take-put_mid_below a k xs ys a (omega arith) was.within in
    let left : length ys ≡ length (put_mid a k xs ys) - a = omega (arith, many, whole) in
    found_by c.rows.rows c.rows.done a (Some c.in-Err.fault) c.args.columns.now bytes (put_mid a k xs ys) was.written (omega (arith, whole, was.within)) was.done
    (was.values ∙ ap (λ (zs : List Place). Got zs (drop c.rows.done bytes)) (sym same))
    (subst (λ (zs : List Place). DividesRows c.rows.rows shapes bytes zs (drop c.rows.done bytes)) (sym same) was.divided)
    (less, subst (λ (n : ℕ). NoRowAt c.in-Err.fault c.rows.done shapes bytes n) left c.in-Err.ensures.exact)

pub returns-in-Err-clause-others : goal.returns-in-Err-clause-others
returns-in-Err-clause-others c =
    let a = c.rows.written in
    let m : ℕ = length c.args.columns.now in
    let k : ℕ = length c.rows.places - a in
    let xs = c.rows.places in
    let ys = c.row_at.new.places in
    subst (λ (n : ℕ). drop (n + m) (put_mid a k xs ys) ≡ drop (n + m) c.args.places.now) c.rows.invariant.written
    (behind_put a k xs ys m c.rows.invariant.within refl c.row_at.ensures.others ∙ behind_more a a m xs c.args.places.now refl c.rows.invariant.others)

pub rows-preserved : goal.rows-preserved
rows-preserved c =
    let was = c.rows.invariant in
    let columns = c.args.columns.now in
    let shapes = column_shapes columns in
    let bytes = c.args.bytes.now in
    let a = c.rows.written in
    let m : ℕ = length columns in
    let k : ℕ = length c.rows.places - a in
    let xs = c.rows.places in
    let ys = c.row_at.new.places in
    let end = c.in-Ok.end in
    let room : m ≤ k = omega (arith, c.if-places-written.false) in
    let many : length ys ≡ k = c.row_at.ensures.room ∙ length-take-le k (drop a xs) (omega (arith, length-drop a xs)) in
    let whole : length (put_mid a k xs ys) ≡ length xs = length_put a k xs ys was.within refl many in
    let more : take (a + m) (put_mid a k xs ys) ≡ take a xs ++ take m ys = take_more_put a k xs ys m was.within (omega (arith, many, room)) in
    record {
      done = c.in-Ok.ensures.exact.0;
      few = omega (arith, was.few, c.in-Ok.ensures.further);
      written = rows_times c.rows.rows m a was.written;
      within = omega (arith, whole, room, was.within);
      length = whole ∙ was.length;
      others = behind_put a k xs ys m was.within refl c.row_at.ensures.others ∙ behind_more a a m xs c.args.places.now refl was.others;
      values =
          row_more c.rows.rows shapes bytes (take a xs) (take m ys) c.rows.done end was.done was.values
          (c.in-Ok.ensures.exact.1 ∙ ap (λ (n : ℕ). Got (take n ys) (drop end bytes)) (as_many columns))
          ∙ ap (λ (zs : List Place). Got zs (drop end bytes)) (sym more);
      divided = subst (λ (zs : List Place). DividesRows (c.rows.rows + 1) shapes bytes zs (drop end bytes)) (sym more)
          (divided_more c.rows.rows shapes bytes (take a xs) (take m ys) c.rows.done end was.done was.divided c.in-Ok.ensures.divided);
    }

pub returns-clause-exact : goal.returns-clause-exact
returns-clause-exact c =
    let was = c.rows.invariant in
    let over : c.rows.done ≡ length c.args.bytes.now = omega (arith, was.done, c.rows-test.false) in
    found_by c.rows.rows c.rows.done c.rows.written None c.args.columns.now c.args.bytes.now c.rows.places was.written was.within was.done was.values was.divided over

pub returns-clause-others : goal.returns-clause-others
returns-clause-others c =
    behind_more c.rows.written (c.rows.rows * length c.args.columns.now) (length c.args.columns.now) c.rows.places c.args.places.now c.rows.invariant.written c.rows.invariant.others
