use Rattle.std.proofs.Common.{arith}
use Rattle.std.proofs.lemmas.Slice.{put_mid-rotated}
use Rattle.std.specs.Prelude.{length, ◌-◌}
use Rattle.tds_c.proofs.service.Tables.{rotated}
use Rattle.tds_c.proofs.service.table.take_out.Goals as goal

pub returns-clause-front : goal.returns-clause-front
returns-clause-front c =
    let xs = c.args.used.now in
    rotated xs _ c.args.index c.requires (λ d. put_mid-rotated c.args.index (length xs - c.args.index) xs c.rotate_left.new.self d c.requires (omega arith) c.rotate_left.ensures.after)
