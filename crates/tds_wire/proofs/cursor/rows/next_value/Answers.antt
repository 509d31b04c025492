use Rattle.tds_wire.specs.Memory.{shapes_of}
use Rattle.std.proofs.Common.{rules, refl, sym, ◌∙◌, arith, ◌≡◌, ◌<◌, ◌≤◌, ◌+◌, ◌-◌, ℕ, suc, Bool, true, false, length, List, if◌then◌else◌}
use Rattle.tds_wire.specs.declared.shape.Shape.{Shape}
use Rattle.tds_wire.specs.Walking.{is_skipped, next_value}
use Rattle.tds_wire.proofs.cursor.rows.next_value.Goals as goal

-- what is found among the columns that are left, by the next one
value_next : (b : Bool) (nulls : List ℕ) (columns : List Shape) (i n : ℕ) → i < n → next_value b nulls columns i (n - i)
    ≡ (if is_skipped b nulls columns i then next_value b nulls columns (i + 1) (n - (i + 1)) else i)
unfolding next_value
value_next b nulls columns i n h =
    let e : n - i ≡ suc (n - (i + 1)) = omega arith in
    rw e refl

value_found : (b : Bool) (nulls : List ℕ) (columns : List Shape) (i n : ℕ) → i < n → is_skipped b nulls columns i ≡ false → next_value b nulls columns i (n - i) ≡ i
value_found b nulls columns i n h e = value_next b nulls columns i n h ∙ rw e refl

value_skipped : (b : Bool) (nulls : List ℕ) (columns : List Shape) (i n : ℕ) → i < n → is_skipped b nulls columns i ≡ true → next_value b nulls columns i (n - i) ≡ next_value b nulls columns (i + 1) (n - (i + 1))
value_skipped b nulls columns i n h e = value_next b nulls columns i n h ∙ rw e refl

value_ends : (b : Bool) (nulls : List ℕ) (columns : List Shape) (i n : ℕ) → n ≤ i → next_value b nulls columns i (n - i) ≡ i
unfolding next_value
value_ends b nulls columns i n h =
    let e : n - i ≡ 0 = omega arith in
    rw e refl

pub returns-then-not-is_skipped : goal.returns-then-not-is_skipped
returns-then-not-is_skipped c =
    let e = value_found c.args.with_nulls c.args.memory.now.nulls (shapes_of c.args.memory.now) c.columns.column (length (shapes_of c.args.memory.now)) (search rules) (search rules) in
    sym e ∙ sym c.columns.invariant

pub columns-preserved : goal.columns-preserved
columns-preserved c =
    let e = value_skipped c.args.with_nulls c.args.memory.now.nulls (shapes_of c.args.memory.now) c.columns.column (length (shapes_of c.args.memory.now)) (search rules) (search rules) in
    c.columns.invariant ∙ e

pub returns : goal.returns
returns c =
    let e = value_ends c.args.with_nulls c.args.memory.now.nulls (shapes_of c.args.memory.now) c.columns.column (length (shapes_of c.args.memory.now)) (search rules) in
    sym e ∙ sym c.columns.invariant
