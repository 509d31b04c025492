use Rattle.std.proofs.Common.{rules, arith, ◌+◌, ◌<◌, ◌≡◌, ◌++◌, ◌∷◌, [], ◌∙◌, ℕ, List, false, length, drop, take, ap, refl, sym}
use Rattle.std.proofs.lemmas.List.{drop-set-lt, length-set, take_more_set}
use Rattle.std.proofs.lemmas.List.Elements.{All-get_or}
use Rattle.tds_wire.specs.Layout.{Got}
use Rattle.tds_rows.specs.declared.place.Place.{Place}
use Rattle.tds_rows.specs.declared.place.RowColumn.{RowColumn}
use Rattle.tds_rows.specs.Finding.{column_shapes}
use Rattle.tds_rows.specs.Places.{values_placed}
use Rattle.tds_rows.specs.Short.{IsShort}
use Rattle.tds_rows.proofs.Going.{column_lacks, columns_end, front_none, with_front}
use Rattle.tds_rows.proofs.Own.{step_to}
use Rattle.tds_rows.proofs.short.short_places.Goals as goal

pub columns-init : goal.columns-init
columns-init c = record {
  done = c.requires.start;
  column = omega arith;
  room = refl;
  others = refl;
  exact = front_none (values_placed false [] 0 (column_shapes c.args.columns.now) c.args.start (drop c.args.start c.args.bytes.now));
}

pub columns-preserved : goal.columns-preserved
columns-preserved c =
    let i = c.columns.column in
    let bytes = c.args.bytes.now in
    let end = c.in-Some.end in
    let less : i < length c.args.columns.now = search rules in
    let room : i < length c.columns.places = omega (arith, less, c.requires.room, c.columns.invariant.room) in
    let found = c.in-Some.ensures.stands in
    record {
      done = found.1;
      column = omega (arith, less);
      room = length-set c.columns.places i c.write.new.to ∙ c.columns.invariant.room;
      others = drop-set-lt (length c.args.columns.now) c.columns.places i c.write.new.to less ∙ c.columns.invariant.others;
      exact =
          ap (λ (ps : List Place). with_front ps (values_placed false [] (i + 1) (drop (i + 1) (column_shapes c.args.columns.now)) end (drop end bytes)))
          (take_more_set c.columns.places i c.write.new.to room ∙ ap (λ (p : Place). take i c.columns.places ++ p ∷ []) c.write.ensures)
          ∙ (sym (step_to c.args.columns.now i _ (take i c.columns.places) c.columns.done end c.in-Some.place bytes less found.0 found.1 found.2)
          ∙ c.columns.invariant.exact);
    }

pub returns-in_default-clause-none : goal.returns-in_default-clause-none
returns-in_default-clause-none c = λ are.
    let i = c.columns.column in
    let less : i < length c.args.columns.now = search rules in
    sym c.columns.invariant.exact
    ∙ column_lacks c.args.columns.now i _ (take i c.columns.places) false [] c.columns.done (drop c.columns.done c.args.bytes.now) false less refl
    (c.in_default.ensures.none (All-get_or (λ (d : RowColumn). IsShort d.shape) c.args.columns.now i _ less are))

pub returns-clause-exact : goal.returns-clause-exact
returns-clause-exact c =
    let last : c.columns.column ≡ length c.args.columns.now = search rules in (
      c.columns.invariant.done,
      sym c.columns.invariant.exact
          ∙ (columns_end c.args.columns.now c.columns.column (take c.columns.column c.columns.places) false [] c.columns.done (drop c.columns.done c.args.bytes.now) (omega (arith, last))
          ∙ ap (λ (k : ℕ). Got (take k c.columns.places) (drop c.columns.done c.args.bytes.now)) last),
    )
