use Rattle.std.proofs.Common.{rules, arith, ◌+◌, ◌<◌, ◌≡◌, ◌++◌, ◌∷◌, [], ◌∙◌, ℕ, List, length, drop, take, ap, refl, sym, Some, None}
use Rattle.std.proofs.lemmas.List.{drop-drop, drop-set-lt, length-drop, length-set, take_more_set}
use Rattle.tds_wire.specs.Layout.{Got}
use Rattle.tds_rows.specs.declared.place.Place.{Place}
use Rattle.tds_rows.specs.Finding.{column_shapes}
use Rattle.tds_rows.specs.Places.{values_placed}
use Rattle.tds_rows.proofs.Going.{column_lacks, column_step, columns_end, front_none, rest_stands, with_front}
use Rattle.tds_rows.proofs.rows.places_from.Goals as goal

pub columns-init : goal.columns-init
columns-init c = record {
  done = c.requires.start;
  on = omega arith;
  column = omega arith;
  room = refl;
  others = refl;
  exact = front_none (values_placed c.args.with_nulls c.args.nulls.now 0 (column_shapes c.args.columns.now) c.args.start (drop c.args.start c.args.bytes.now));
}

pub returns-in_default-clause-exact : goal.returns-in_default-clause-exact
returns-in_default-clause-exact c =
    let i = c.columns.column in
    let less : i < length c.args.columns.now = search rules in
    sym c.columns.invariant.exact
    ∙ column_lacks c.args.columns.now i _ (take i c.columns.places) c.args.with_nulls c.args.nulls.now c.columns.done (drop c.columns.done c.args.bytes.now)
    c.is_skipped-skipped.result less c.is_skipped-skipped.ensures
    (rest_stands c.is_skipped-skipped.result c.columns.done _ c.args.bytes.now c.columns.done None c.in_default.ensures)

pub columns-preserved : goal.columns-preserved
columns-preserved c =
    let i = c.columns.column in
    let n = c.in-Some.length in
    let bytes = c.args.bytes.now in
    let less : i < length c.args.columns.now = search rules in
    let room : i < length c.columns.places = omega (arith, less, c.requires.room, c.columns.invariant.room) in
    let found = rest_stands c.is_skipped-skipped.result c.columns.done _ bytes c.columns.done (Some (c.in-Some.place, n)) c.in-Some.ensures in
    record {
      done = omega (arith, found.0, length-drop c.columns.done bytes, c.columns.invariant.done);
      on = omega (arith, c.columns.invariant.on);
      column = omega (arith, less);
      room = length-set c.columns.places i c.write.new.to ∙ c.columns.invariant.room;
      others = drop-set-lt (length c.args.columns.now) c.columns.places i c.write.new.to less ∙ c.columns.invariant.others;
      exact =
          ap (λ (ps : List Place). with_front ps (values_placed c.args.with_nulls c.args.nulls.now (i + 1) (drop (i + 1) (column_shapes c.args.columns.now)) (c.columns.done + n) (drop (c.columns.done + n) bytes)))
          (take_more_set c.columns.places i c.write.new.to room ∙ ap (λ (p : Place). take i c.columns.places ++ p ∷ []) c.write.ensures)
          ∙ (ap (λ (xs : List ℕ). with_front (take i c.columns.places ++ c.in-Some.place ∷ []) (values_placed c.args.with_nulls c.args.nulls.now (i + 1) (drop (i + 1) (column_shapes c.args.columns.now)) (c.columns.done + n) xs))
          (sym (drop-drop n c.columns.done bytes))
          ∙ (sym (column_step c.args.columns.now i _ (take i c.columns.places) c.args.with_nulls c.args.nulls.now c.columns.done n c.in-Some.place (drop c.columns.done bytes)
          c.is_skipped-skipped.result less c.is_skipped-skipped.ensures found)
          ∙ c.columns.invariant.exact));
    }

pub returns-clause-exact : goal.returns-clause-exact
returns-clause-exact c =
    let last : c.columns.column ≡ length c.args.columns.now = search rules in (
      c.columns.invariant.done,
      sym c.columns.invariant.exact
          ∙ (columns_end c.args.columns.now c.columns.column (take c.columns.column c.columns.places) c.args.with_nulls c.args.nulls.now c.columns.done (drop c.columns.done c.args.bytes.now) (omega (arith, last))
          ∙ ap (λ (k : ℕ). Got (take k c.columns.places) (drop c.columns.done c.args.bytes.now)) last),
    )
