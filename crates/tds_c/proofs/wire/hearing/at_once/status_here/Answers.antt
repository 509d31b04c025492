use Rattle.std.proofs.Common.{◌≡◌, ◌∙◌, get_or, of_z, to_z, w32, ap, rules}
use Rattle.std.specs.Int.{cast_signed}
use Rattle.tds_c.proofs.AtOnce.{status_next}
use Rattle.tds_c.proofs.wire.hearing.at_once.status_here.Goals as goal

pub returns-clause-next : goal.returns-clause-next
returns-clause-next c =
    let kind : get_or c.args.piece.now 0 0 ≡ 0x79 = search rules in
    let same : to_z w32 (of_z w32 c.cast_signed.result) ≡ c.cast_signed.result = search rules in
    status_next c.args.start c.args.piece.now _ c.in-121.len_at_least kind (same ∙ (c.cast_signed.ensures ∙ ap (cast_signed w32) c.from_le_bytes.ensures))
