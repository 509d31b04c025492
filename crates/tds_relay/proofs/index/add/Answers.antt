use Rattle.std.proofs.Common.{◌≡◌, ◌<◌, ◌≤◌, ◌∙◌, suc, List, length, sym, ap, subst, arith}
use Rattle.std.specs.Prelude.{insert, slice_index}
use Rattle.tds_relay.specs.declared.index.Indexed.{Indexed}
use Rattle.tds_relay.specs.Sorted.{Climbs, ids_in, under}
use Rattle.tds_relay.proofs.indexed.Climbing.{put_climbs}
use Rattle.tds_relay.proofs.indexed.Index.{inserted, put_under}
use Rattle.tds_relay.proofs.index.add.Goals as goal

pub returns-clause-climbs : goal.returns-clause-climbs
returns-clause-climbs g c =
    let items = c.args.index.now.items in
    let x : Indexed g.row.T.Denot = record { id = c.args.id; item = c.args.item } in
    let at = c.place_behind-place.result in
    let e = c.deref.ensures.value in
    let is : c.insert.new.self.items ≡ insert items at x = inserted c.insert.result items c.insert.new.self.items at x c.insert.ensures.items (c.insert.ensures.succeeds c.requires.room) in
    subst (λ (es : List (Indexed g.row.T.Denot)). Climbs (ids_in es)) (sym is)
    (put_climbs (λ (y : Indexed g.row.T.Denot). y.id) items at x c.requires.climbs (subst (λ (es : List (Indexed g.row.T.Denot)). at ≤ length es) e c.place_behind-place.ensures.within)
    (λ j lt. let less : slice_index (ids_in items) j < suc c.args.id = subst (λ (es : List (Indexed g.row.T.Denot)). slice_index (ids_in es) j < suc c.args.id) e (c.place_behind-place.ensures.below j lt) in omega (arith, less))
    (λ j le lt. let more : suc c.args.id ≤ slice_index (ids_in items) j = subst (λ (es : List (Indexed g.row.T.Denot)). suc c.args.id ≤ slice_index (ids_in es) j) e (c.place_behind-place.ensures.above j le (subst (λ (es : List (Indexed g.row.T.Denot)). j < length es) (sym e) lt)) in omega (arith, more)))

pub returns-clause-adds : goal.returns-clause-adds
returns-clause-adds g c = λ other.
    let items = c.args.index.now.items in
    let x : Indexed g.row.T.Denot = record { id = c.args.id; item = c.args.item } in
    let at = c.place_behind-place.result in
    let e = c.deref.ensures.value in
    let is : c.insert.new.self.items ≡ insert items at x = inserted c.insert.result items c.insert.new.self.items at x c.insert.ensures.items (c.insert.ensures.succeeds c.requires.room) in
    ap (under other) is ∙ put_under other x items at (subst (λ (es : List (Indexed g.row.T.Denot)). at ≤ length es) e c.place_behind-place.ensures.within)
    (λ j le lt. subst (λ (es : List (Indexed g.row.T.Denot)). suc c.args.id ≤ slice_index (ids_in es) j) e (c.place_behind-place.ensures.above j le (subst (λ (es : List (Indexed g.row.T.Denot)). j < length es) (sym e) lt)))
