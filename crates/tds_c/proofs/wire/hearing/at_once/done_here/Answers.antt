use Rattle.std.proofs.Common.{◌≡◌, true, rules}
use Rattle.tds_c.proofs.AtOnce.{done_next}
use Rattle.tds_c.proofs.wire.hearing.at_once.done_here.Goals as goal

pub returns-clause-next : goal.returns-clause-next
returns-clause-next c =
    let yes : c.is_done.result ≡ true = search rules in
    done_next c.args.start c.args.piece.now _ _ _ c.in-len13-up.len_at_least (c.is_done.ensures.begins yes) (c.is_done.ensures.done yes) c.from_le_bytes.ensures c.from_le_bytes-2.ensures c.from_le_bytes-3.ensures
