use Rattle.std.proofs.Common.{◌≤◌, length, take, arith}
use Rattle.std.proofs.lemmas.List.{length-take-le}
use Rattle.tds_c.proofs.Keeping.{with_own}
use Rattle.tds_c.proofs.streams.keep.Goals as goal

pub returns : goal.returns
returns c =
    let within : c.args.waiting ≤ length c.args.kept.now = omega (arith, c.requires) in
    c.put_at.ensures (take c.args.waiting c.args.kept.now) c.args.kept.now (length-take-le c.args.waiting c.args.kept.now within) (with_own c.args.waiting c.args.kept.now within)
