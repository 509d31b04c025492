use Rattle.std.proofs.Common.{rules, arith, ◌+◌, ◌<◌, ◌≤◌, ◌≡◌, ◌++◌, ◌∷◌, ◌&&◌, [], ◌∙◌, ℕ, Bool, List, length, drop, take, ap, refl, sym, subst, Some, None}
use Rattle.std.proofs.lemmas.List.{drop-drop, drop-set-lt, length-drop, length-set, take-set-le}
use Rattle.tds_wire.specs.Layout.{Got, is_null}
use Rattle.tds_rows.specs.declared.place.Place.{Place}
use Rattle.tds_rows.specs.Come.{has_bits, shapes_between}
use Rattle.tds_rows.specs.Finding.{column_shapes}
use Rattle.tds_rows.specs.Places.{values_placed}
use Rattle.tds_rows.proofs.Going.{end_of_front, front_begun, front_none, front_push, next_lacks, none_next, rest_stands, step_of_front, with_front}
use Rattle.tds_rows.proofs.come.come_from.Goals as goal

pub columns-init : goal.columns-init
columns-init c = record {
  done = omega arith;
  from = omega arith;
  column = c.requires.first;
  room = refl;
  before = refl;
  others = refl;
  exact = λ m l k.
      let shapes = shapes_between c.args.columns.now c.args.first m in
      ap (λ (ps : List Place). with_front ps (values_placed c.args.with_nulls c.args.nulls.now c.args.first shapes 0 c.args.bytes.now))
      (front_begun c.args.places.now c.args.first (omega (arith, c.requires.first, c.requires.room)))
      ∙ front_none (values_placed c.args.with_nulls c.args.nulls.now c.args.first shapes 0 c.args.bytes.now);
}

pub columns-preserved : goal.columns-preserved
columns-preserved c =
    let i = c.columns.column in
    let n = c.in-Some.length in
    let bytes = c.args.bytes.now in
    let columns = c.args.columns.now in
    let p = c.in-Some.place in
    let w = c.args.with_nulls in
    let nulls = c.args.nulls.now in
    let less : i < length columns = search rules in
    let room : i < length c.columns.places = omega (arith, less, c.requires.room, c.columns.invariant.room) in
    let found = rest_stands c.is_skipped-skipped.result c.columns.done _ bytes c.columns.done (Some (p, n)) c.in-Some.ensures in
    record {
      done = omega (arith, found.0, length-drop c.columns.done bytes, c.columns.invariant.done);
      from = omega (arith, c.columns.invariant.from);
      column = omega (arith, less);
      room = length-set c.columns.places i p ∙ c.columns.invariant.room;
      before = take-set-le c.args.first c.columns.places i p c.columns.invariant.from ∙ c.columns.invariant.before;
      others = drop-set-lt (length columns) c.columns.places i p less ∙ c.columns.invariant.others;
      exact = λ m l k.
          let shapes = drop (i + 1) (column_shapes (take m columns)) in
          ap (λ (ps : List Place). with_front ps (values_placed w nulls (i + 1) shapes (c.columns.done + n) (drop (c.columns.done + n) bytes)))
          (front_push c.columns.places c.args.first i p c.columns.invariant.from room)
          ∙ (ap (λ (xs : List ℕ). with_front (drop c.args.first (take i c.columns.places) ++ p ∷ []) (values_placed w nulls (i + 1) shapes (c.columns.done + n) xs))
          (sym (drop-drop n c.columns.done bytes))
          ∙ (sym (step_of_front columns m i _ (drop c.args.first (take i c.columns.places)) w nulls c.columns.done n p (drop c.columns.done bytes)
          c.is_skipped-skipped.result (omega (arith, l)) k c.is_skipped-skipped.ensures found)
          ∙ c.columns.invariant.exact m (omega (arith, l)) k));
    }

pub returns-in_default-clause-exact : goal.returns-in_default-clause-exact
returns-in_default-clause-exact c =
    let i = c.columns.column in
    let less : i < length c.args.columns.now = search rules in
    let front = drop c.args.first (take i c.columns.places) in
    let rest = drop c.columns.done c.args.bytes.now in
    record {
      whole = subst (λ (w : Bool). values_placed w c.args.nulls.now c.args.first (shapes_between c.args.columns.now c.args.first i) 0 c.args.bytes.now ≡ Got front rest) c.requires.bits
          (sym (c.columns.invariant.exact i (omega arith) (omega (arith, less))) ∙ end_of_front c.args.columns.now i front c.args.with_nulls c.args.nulls.now c.columns.done rest (omega (arith, less)));
      within = c.columns.invariant.done;
      from = c.columns.invariant.from;
      next = λ s others e.
          next_lacks c.args.columns.now i _ c.is_skipped-skipped.result (has_bits c.args.nulls.now && is_null c.args.nulls.now i) c.columns.done rest s others less
          (c.is_skipped-skipped.ensures ∙ ap (λ (w : Bool). w && is_null c.args.nulls.now i) c.requires.bits)
          (rest_stands c.is_skipped-skipped.result c.columns.done _ c.args.bytes.now c.columns.done None c.in_default.ensures) e;
    }

pub returns-clause-exact : goal.returns-clause-exact
returns-clause-exact c =
    let i = c.columns.column in
    let last : length c.args.columns.now ≤ i = search rules in
    let front = drop c.args.first (take i c.columns.places) in
    let rest = drop c.columns.done c.args.bytes.now in
    record {
      whole = subst (λ (w : Bool). values_placed w c.args.nulls.now c.args.first (shapes_between c.args.columns.now c.args.first i) 0 c.args.bytes.now ≡ Got front rest) c.requires.bits
          (sym (c.columns.invariant.exact i (omega arith) c.columns.invariant.column) ∙ end_of_front c.args.columns.now i front c.args.with_nulls c.args.nulls.now c.columns.done rest c.columns.invariant.column);
      within = c.columns.invariant.done;
      from = c.columns.invariant.from;
      next = λ s others e. none_next c.args.columns.now i s others last e;
    }
