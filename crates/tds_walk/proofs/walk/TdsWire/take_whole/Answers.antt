use Rattle.std.proofs.Common.{rules, Option, subst}
use Rattle.tds_wire.specs.declared.told.Token.{Token}
use Rattle.tds_wire.specs.Whole.{IsNext}
use Rattle.tds_walk.specs.Taking.{IsReadyValue}
use Rattle.tds_walk.proofs.Walks.{fed_whole}
use Rattle.tds_walk.proofs.walk.TdsWire.take_whole.Goals as goal

pub returns-in-Some-clause-exact : goal.returns-in-Some-clause-exact
returns-in-Some-clause-exact c = λ some.
    let p = c.args.self.now in
    let piece = c.args.piece.now in
    let found = c.whole_token-count in
    let n = found.result in
    let is : IsReadyValue p = record {
      inside = c.is_ready.ensures.inside (search rules);
      due = c.is_ready.ensures.due (search rules);
      whole = c.is_ready.ensures.whole (search rules);
      head = c.is_ready.ensures.head (search rules);
      passed = c.is_ready.ensures.passed (search rules);
    } in
    let next = subst (λ (o : Option Token). IsNext p.start n o piece) c.in-Some.is (found.ensures.exact some) in
    fed_whole p c.args.memory.now piece found.new.start n c.in-Some.ended c.args.token.now c.put_shown.new.value found.new.kind is
    c.bounds.ensures.few c.bounds.ensures.nulls next (found.ensures.kind some) (found.ensures.start some) found.ensures.within c.put_shown.ensures
