use Rattle.std.proofs.Common.{sym, ◌∙◌}
use Rattle.tds_token.specs.Layout.{column_of}
use Rattle.tds_token.specs.Reading.{column_at}
use Rattle.tds_token.proofs.Skipping.{faulty, front_whole, front_split, others_count, front_alone}
use Rattle.tds_token.proofs.columns.ColumnsLeft.split_first.Goals as goal

pub unreachable-requires : goal.unreachable-requires
unreachable-requires c =
    let f = faulty _ c.column.result (column_at c.self.inside.bytes.now) c.in_default.not-Ok c.column.ensures in
    front_whole c.self.inside.count c.self.inside.bytes.now f.0 c.self.invariant.least c.self.invariant.whole f.1

pub returns-then-count-eq0 : goal.returns-then-count-eq0
returns-then-count-eq0 c =
    sym c.self.view_is ∙ front_alone c.self.inside.count c.self.inside.bytes.now c.in-Ok.rest.now (column_of c.in-Ok.first) c.self.invariant.least c.self.invariant.whole c.in-Ok.ensures c.if-count-eq0.true

pub new-requires-clause-whole : goal.new-requires-clause-whole
new-requires-clause-whole c =
    others_count c.self.inside.count c.self.inside.bytes.now c.in-Ok.rest.now (column_of c.in-Ok.first) c.self.invariant.least c.self.invariant.whole c.in-Ok.ensures

pub returns : goal.returns
returns c =
    rw c.new.ensures (sym c.self.view_is ∙ front_split c.self.inside.count c.self.inside.bytes.now c.in-Ok.rest.now (column_of c.in-Ok.first) c.self.invariant.least c.self.invariant.whole c.in-Ok.ensures)
