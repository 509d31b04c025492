use Rattle.std.proofs.Common.{rules, ◌≡◌, ◌<◌, ◌==◌, ◌∙◌, [], ℕ, Bool, false, length, drop, get_or, take, ap, subst, sym}
use Rattle.std.proofs.lemmas.Option.{IfSome_then}
use Rattle.tds_wire.specs.Layout.{Got}
use Rattle.tds_rows.specs.Finding.{column_shapes}
use Rattle.tds_rows.specs.Laws.{DividesBehind}
use Rattle.tds_rows.proofs.Going.{as_many}
use Rattle.tds_rows.proofs.Begun.{row_at}
use Rattle.tds_rows.proofs.Divided.{divided}
use Rattle.tds_rows.proofs.Own.{none_then}
use Rattle.tds_rows.proofs.rows.short_row.Goals as goal

pub returns-clause-exact : goal.returns-clause-exact
returns-clause-exact c =
    let shapes = column_shapes c.args.columns.now in
    let bytes = c.args.bytes.now in
    let many : length shapes ≡ length c.args.columns.now = as_many c.args.columns.now in
    let any : (length c.args.columns.now == 0) ≡ false = search rules in
    let some : 0 < length bytes = search rules in
    let kind : get_or bytes 0 0 ≡ 0xD1 = search rules in
    IfSome_then c.short_places.result c.short_places.ensures.exact (λ end found. (
      found.0,
      row_at 0 shapes bytes some kind (ap (λ (n : ℕ). n == 0) many ∙ any)
          ∙ (found.1 ∙ ap (λ (n : ℕ). Got (take n c.short_places.new.places) (drop end bytes)) (sym many)),
    ))

pub returns-clause-divided : goal.returns-clause-divided
returns-clause-divided c =
    let shapes = column_shapes c.args.columns.now in
    let bytes = c.args.bytes.now in
    let kind : get_or bytes 0 0 ≡ 0xD1 = search rules in
    let plain : (get_or bytes 0 0 == 0xD2) ≡ false = ap (λ (n : ℕ). n == 0xD2) kind in
    IfSome_then c.short_places.result c.short_places.ensures.exact (λ end found.
    subst (λ (b : Bool). DividesBehind b 0 shapes bytes (take (length c.args.columns.now) c.short_places.new.places) (drop end bytes)) (sym plain)
    (divided false [] 0 shapes 1 (drop 1 bytes) _ _ found.1))

pub returns-clause-none : goal.returns-clause-none
returns-clause-none c =
    let shapes = column_shapes c.args.columns.now in
    let many : length shapes ≡ length c.args.columns.now = as_many c.args.columns.now in
    let any : (length c.args.columns.now == 0) ≡ false = search rules in
    none_then c.short_places.result c.short_places.ensures.none (λ cut are some room kind.
    row_at 0 shapes c.args.bytes.now kind.0 kind.1 (ap (λ (n : ℕ). n == 0) many ∙ any) ∙ cut are)
