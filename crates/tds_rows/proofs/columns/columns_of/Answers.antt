use Rattle.std.proofs.Common.{rules, ◌≡◌, ◌==◌, ◌∙◌, false, length, sym, subst}
use Rattle.tds_wire.specs.Layout.{two}
use Rattle.tds_rows.specs.Columns.{listed_columns}
use Rattle.tds_rows.specs.Reading.{Fails}
use Rattle.tds_rows.proofs.Loops.{fails_on}
use Rattle.tds_rows.proofs.Metadata.{counted_on, listed_on, no_byte, no_metadata, other_byte}
use Rattle.tds_rows.proofs.columns.columns_of.Goals as goal

pub returns-in-Err-clause-exact : goal.returns-in-Err-clause-exact
returns-in-Err-clause-exact c =
    no_metadata c.in-Err.fault c.args.features c.args.bytes.now c.args.columns.now (no_byte c.in-Err.fault c.args.features c.args.bytes.now c.in-Err.ensures)

pub returns-then-byte-clause-exact : goal.returns-then-byte-clause-exact
returns-then-byte-clause-exact c =
    let f : (c.in-Ok.found.0 == 0x81) ≡ false = search rules in
    other_byte c.args.features c.args.bytes.now c.in-Ok.found.0 c.in-Ok.found.1.now c.in-Ok.ensures f

pub returns-in-Err-two-clause-exact : goal.returns-in-Err-two-clause-exact
returns-in-Err-two-clause-exact c =
    let e : c.in-Ok.found.0 ≡ 0x81 = search rules in
    no_metadata c.in-Err-two.fault c.args.features c.args.bytes.now c.args.columns.now
    (subst (Fails c.in-Err-two.fault) (sym (counted_on c.args.features c.args.bytes.now c.in-Ok.found.0 c.in-Ok.found.1.now c.in-Ok.ensures e))
    (fails_on c.in-Err-two.fault (two c.in-Ok.found.1.now) (λ n more. listed_columns c.args.features (length c.args.bytes.now) n more) c.in-Err-two.ensures))

pub returns-in-Ok-listed_columns-clause-exact : goal.returns-in-Ok-listed_columns-clause-exact
returns-in-Ok-listed_columns-clause-exact c =
    let e : c.in-Ok.found.0 ≡ 0x81 = search rules in (
      c.in-Ok-listed_columns.rest.now,
      listed_on c.args.features c.args.bytes.now c.in-Ok.found.0 c.in-Ok-two.found.0 c.in-Ok.found.1.now c.in-Ok-two.found.1.now c.in-Ok.ensures e c.in-Ok-two.ensures
          ∙ c.in-Ok-listed_columns.ensures.exact,
      c.saturating_sub.ensures,
    )

pub returns-in-Err-listed_columns-clause-exact : goal.returns-in-Err-listed_columns-clause-exact
returns-in-Err-listed_columns-clause-exact c =
    let e : c.in-Ok.found.0 ≡ 0x81 = search rules in
    no_metadata c.in-Err-listed_columns.fault c.args.features c.args.bytes.now c.listed_columns.new.columns
    (subst (Fails c.in-Err-listed_columns.fault)
    (sym (listed_on c.args.features c.args.bytes.now c.in-Ok.found.0 c.in-Ok-two.found.0 c.in-Ok.found.1.now c.in-Ok-two.found.1.now c.in-Ok.ensures e c.in-Ok-two.ensures))
    c.in-Err-listed_columns.ensures.exact)
