use Rattle.std.proofs.Common.{rules, arith, ◌≡◌, ◌∙◌, ◌<◌, ◌≤◌, ◌+◌, ◌-◌, ℕ, List, drop, take, length, false, get_or, sym, ap, subst}
use Rattle.std.proofs.lemmas.List.{drop-drop, length-drop, take_all}
use Rattle.tds_wire.proofs.Memories.{shapes_at}
use Rattle.tds_wire.proofs.WholeRows.{row_begins, row_goes, row_over, so_far}
use Rattle.tds_wire.proofs.rows.row_length.Goals as goal
use Rattle.tds_wire.specs.Rows.{Passes}
use Rattle.tds_wire.specs.Bytes.{to_end}
use Rattle.tds_wire.specs.Memory.{shape_of, shapes_of}
use Rattle.tds_wire.specs.Walking.{has_no_bytes, row_from, shape_at}
use Rattle.tds_wire.specs.declared.memory.Column.{Column}
use Rattle.tds_wire.specs.declared.shape.Shape.{Shape}

pub columns-init : goal.columns-init
columns-init c = record {
  done = search rules;
  column = search rules;
  row = λ w e d.
      let count : c.count-count.result ≡ length (shapes_of c.args.memory.now) = c.count-count.ensures.count in
      let some : 0 < length (shapes_of c.args.memory.now) = search rules in
      let more : 0 < length c.args.bytes.now = search rules in
      row_begins w c.args.bytes.now d (omega (arith, some, ap length e)) more (search rules);
}

pub columns-preserved : goal.columns-preserved
columns-preserved c =
    let m = c.args.memory.now in
    let i = c.columns.column in
    let n = c.value_length-length.result in
    let nothing : Column = record { form = 0; bytes = 0 } in
    let count : c.count-count.result ≡ length (shapes_of m) = c.count-count.ensures.count in
    let few : c.count-count.result ≤ 4096 = c.count-count.ensures.few in
    let less : i < c.count-count.result = search rules in
    let some : 0 < n = search rules in
    let here : c.from.result ≡ i = search rules in
    let room : length m.columns ≡ 4096 = search rules in
    let bs = c.args.bytes.now in
    let all : take (length bs - c.columns.done) (drop c.columns.done bs) ≡ drop c.columns.done bs = take_all (length bs - c.columns.done) (drop c.columns.done bs) (omega (arith, length-drop c.columns.done bs)) in
    let long : length (take (length bs - c.columns.done) (drop c.columns.done bs)) ≡ length bs - c.columns.done = ap length all ∙ length-drop c.columns.done bs in
    record {
      done = omega (arith, long, c.value_length-length.ensures.within, c.columns.invariant.done);
      column = search rules;
      row = λ w e d.
          let s = shapes_at m c.from.result c.count-count.result nothing count (omega (arith, here, less)) room ∙ (ap (shape_at (shapes_of m)) here ∙ ap (λ (x : List Shape). shape_at x i) (sym e)) in
          c.columns.invariant.row w e d
          ∙ (row_goes w i n (drop c.columns.done bs) (omega (arith, less, count, ap length e)) (omega (arith, few, count, ap length e))
          (subst (λ (x : Shape). has_no_bytes x ≡ false) s (c.value_length-length.ensures.some some))
          (subst (λ (x : Shape). Passes x n (drop c.columns.done bs)) s (subst (λ (xs : List ℕ). Passes (shape_of (get_or m.columns c.from.result nothing)) n xs) all (c.value_length-length.ensures.value some)))
          ∙ ap (to_end (row_from false (so_far w (i + 1)) (i + 1))) (drop-drop n c.columns.done bs));
    }

pub returns-clause-row : goal.returns-clause-row
returns-clause-row c = λ w e d some.
    let count : c.count-count.result ≡ length (shapes_of c.args.memory.now) = c.count-count.ensures.count in
    let last : c.columns.column ≡ c.count-count.result = search rules in
    let more : 0 < c.count-count.result = search rules in
    c.columns.invariant.row w e d
    ∙ row_over w c.columns.column (drop c.columns.done c.args.bytes.now) (omega (arith, last, count, ap length e)) (omega (arith, more, count, ap length e))
