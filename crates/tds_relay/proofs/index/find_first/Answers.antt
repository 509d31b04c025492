use Rattle.std.proofs.Common.{◌∙◌, Some, ap, sym, arith}
use Rattle.tds_relay.specs.declared.index.Indexed.{Indexed}
use Rattle.tds_relay.proofs.indexed.Climbing.{at_place}
use Rattle.tds_relay.proofs.indexed.Index.{absent_there, found_there}
use Rattle.tds_relay.proofs.index.find_first.Goals as goal

pub returns-then-place-index-clause-is : goal.returns-then-place-index-clause-is
returns-then-place-index-clause-is g c =
    sym (absent_there c.args.id c.args.index.now c.place_by-place.result c.requires.climbs c.place_by-place.ensures.below c.place_by-place.ensures.above
    (λ lt. absurd (omega (arith, lt, c.if-place-index.true))))

pub returns-then-entry-id-clause-is : goal.returns-then-entry-id-clause-is
returns-then-entry-id-clause-is g c =
    let is = c.index-index-place.is in
    ap (λ (x : Indexed g.row.T.Denot). Some x.item) is
    ∙ sym (found_there c.args.id c.args.index.now c.index-index-place.result c.place_by-place.result (omega (arith, c.if-place-index.false)) c.place_by-place.ensures.below
    (sym (ap (λ (x : Indexed g.row.T.Denot). x.id) is) ∙ c.if-entry-id.true))

pub returns-else-entry-id-clause-is : goal.returns-else-entry-id-clause-is
returns-else-entry-id-clause-is g c =
    let id_in = λ (x : Indexed g.row.T.Denot). x.id in
    sym (absent_there c.args.id c.args.index.now c.place_by-place.result c.requires.climbs c.place_by-place.ensures.below c.place_by-place.ensures.above
    (λ lt same. c.if-entry-id.false (ap id_in c.index-index-place.is ∙ (sym (at_place id_in c.args.index.now c.place_by-place.result c.index-index-place.result lt) ∙ same))))
