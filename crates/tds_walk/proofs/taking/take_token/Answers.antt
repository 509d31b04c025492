use Rattle.std.proofs.Common.{◌∙◌, Option, subst}
use Rattle.tds_wire.specs.declared.told.Token.{Token}
use Rattle.tds_wire.specs.Whole.{IsNext}
use Rattle.tds_walk.proofs.Walks.{takes_some, takes_whole}
use Rattle.tds_walk.proofs.taking.take_token.Goals as goal

pub returns-clause-taken : goal.returns-clause-taken
returns-clause-taken c =
    let p = c.args.walk.now in
    let piece = c.args.piece.now in
    let found = c.whole_token in
    let n = found.result in
    takes_some p _ c.args.memory.now piece n found.new.token (λ none. found.ensures.stays none ∙ c.requires.none) (λ t is some.
    takes_whole p c.args.memory.now piece found.new.start n found.new.kind t c.requires.ready c.bounds.ensures.few c.bounds.ensures.nulls
    (subst (λ (o : Option Token). IsNext p.start n o piece) is (found.ensures.exact some)) (found.ensures.kind some) (found.ensures.start some))
