use Rattle.std.proofs.Common.{◌≡◌, get_or, rules}
use Rattle.tds_c.proofs.AtOnce.{reset_next}
use Rattle.tds_c.proofs.wire.hearing.at_once.reset_here.Goals as goal

pub returns-clause-next : goal.returns-clause-next
returns-clause-next c =
    let p : get_or c.args.piece.now 0 0 ≡ 0xE3 = search rules in
    let q : get_or c.args.piece.now 1 0 ≡ 3 = search rules in
    let r : get_or c.args.piece.now 2 0 ≡ 0 = search rules in
    let s : get_or c.args.piece.now 3 0 ≡ 18 = search rules in
    let t : get_or c.args.piece.now 4 0 ≡ 0 = search rules in
    let u : get_or c.args.piece.now 5 0 ≡ 0 = search rules in
    reset_next c.args.start c.args.piece.now c.in-227.len_at_least p q r s t u
