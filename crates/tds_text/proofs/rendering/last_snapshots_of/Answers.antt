use Rattle.std.proofs.Common.{◌≡◌, ◌-◌, ◌+◌, length, arith}
use Rattle.tds_text.proofs.Remaining.{last_of}
use Rattle.tds_text.proofs.rendering.last_snapshots_of.Goals as goal

pub returns-in-Some : goal.returns-in-Some
returns-in-Some c =
    let before_end : length c.args.events.now - 1 + 1 ≡ length c.args.events.now = omega (arith, c.in-Some.ensures.item.3.0) in
    rw (last_of c.args.events.now (length c.args.events.now - 1) c.in-Some.last.now before_end c.in-Some.ensures.item.1) c.as_slice.ensures
