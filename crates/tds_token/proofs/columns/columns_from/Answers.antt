use Rattle.std.proofs.Common.{◌++◌, ◌∷◌, [], ap, ◌∙◌}
use Rattle.tds_token.specs.declared.columns.Column.{Column}
use Rattle.tds_token.specs.Layout.{column_of}
use Rattle.tds_token.specs.Reading.{column_at}
use Rattle.tds_token.proofs.Skipping.{faulty, no_fault, grows, is_grown}
use Rattle.tds_token.proofs.columns.columns_from.Goals as goal

pub unreachable-requires : goal.unreachable-requires
unreachable-requires c =
    let f = faulty _ c.column.result (column_at c.columns.rest.now) c.in_default.not-Ok c.column.ensures in
    no_fault c.args.count c.columns.counter c.columns.rest.now c.args.bytes.now c.columns.columns.items f.0 c.columns-test.true f.1 c.columns.invariant c.requires.whole c.requires.least

pub columns-preserved : goal.columns-preserved
columns-preserved c =
    grows c.args.count c.columns.counter c.columns.rest.now c.in-Ok.after.now c.args.bytes.now c.columns.columns.items c.push.new.self.items (column_of c.in-Ok.first) c.columns-test.true c.in-Ok.ensures
    (c.in_ok-push.ensures.items ∙ ap (λ (one : Column). c.columns.columns.items ++ one ∷ []) c.in_ok-own.ensures) c.columns.invariant

pub returns : goal.returns
returns c =
    is_grown c.args.count c.columns.counter c.columns.rest.now c.args.bytes.now c.columns.columns.items c.columns-test.false c.columns.invariant
