use Rattle.std.proofs.Common.{rules, ◌≡◌, ◌-◌, ap, length}
use Rattle.tds_wire.specs.Memory.{shapes_of}
use Rattle.tds_walk.specs.Taking.{IsReadyValue}
use Rattle.tds_walk.proofs.Walks.{fed_row}
use Rattle.tds_walk.proofs.walk.TdsWire.take_row.Goals as goal

pub returns-clause-exact : goal.returns-clause-exact
returns-clause-exact c = λ some.
    let p = c.args.self.now in
    let m = c.args.memory.now in
    let row = c.whole_row-length in
    let is : IsReadyValue p = record {
      inside = c.requires.inside;
      due = c.requires.due;
      whole = c.requires.whole;
      head = c.requires.head;
      passed = c.requires.passed;
    } in
    let last : c.count.result - 1 ≡ length (shapes_of m) - 1 = ap (λ k. k - 1) c.count.ensures.count in
    fed_row p m c.args.piece.now _ row.result c.row_token-row.result c.args.token.now c.shown.result (c.count.result - 1) _ is
    c.bounds.ensures.few c.bounds.ensures.nulls (row.ensures.row some) c.row_token-row.ensures c.placed-self.ensures last (search rules)
    row.ensures.within c.shown.ensures
