use Rattle.std.proofs.Common.{◌≡◌, ◌<◌, List, length, take, get_or, sym, subst, arith}
use Rattle.std.proofs.lemmas.List.{length-take-le, take_more}
use Rattle.tds_relay.specs.declared.link.Link.{Link}
use Rattle.tds_relay.specs.Linking.{ArePlaced}
use Rattle.tds_relay.proofs.indexed.Placing.{placed_more}
use Rattle.tds_relay.proofs.links.place_anew.Goals as goal

pub placing-preserved : goal.placing-preserved
placing-preserved c =
    let ls = c.args.list.now in
    let place = c.placing.place in
    let link = c.index-list-place.result in
    let here : place < length ls = c.placing-test.true in
    let front : length (take place ls) ≡ place = length-take-le place ls (omega (arith, here)) in
    let was : c.placing.places.len ≡ length c.placing.places.items = c.placing.places.ok.0 in
    let is : c.add.new.index.len ≡ length c.add.new.index.items = c.add.new.index.ok.0 in
    let more = c.add.ensures.len in
    record {
      room = omega (arith, c.placing.invariant.room, c.add.ensures.capacity);
      placed = subst (λ (xs : List Link). ArePlaced xs c.add.new.index.items) (sym (take_more ls place link here))
          (placed_more (take place ls) (get_or ls place link) c.placing.places.items c.add.new.index.items place c.placing.invariant.placed
          c.add.ensures.climbs (omega (arith, was, is, more)) c.add.ensures.adds (sym front));
    }
