use Rattle.std.proofs.Common.{sym}
use Rattle.tds_relay.proofs.indexed.Index.{found_here}
use Rattle.tds_relay.proofs.index.search.Goals as goal

pub returns-then-begins_at : goal.returns-then-begins_at
returns-then-begins_at g c =
    let yes = c.if-begins_at.true in
    let at = c.begins_at.ensures in
    record { is = sym (found_here c.args.id c.args.index.now c.index-index-place.result c.follows_at-place.result c.requires.climbs (at.within yes) (at.here yes) (at.before yes)) }
