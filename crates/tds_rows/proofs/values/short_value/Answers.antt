use Rattle.std.proofs.Common.{rules, arith, ◌+◌, ◌≡◌, ◌≤◌, ◌==◌, false, length, refl}
use Rattle.tds_wire.specs.declared.shape.Shape.TheVariants as shape
use Rattle.tds_rows.specs.Places.{two_from}
use Rattle.tds_rows.proofs.Passed.{lacks, short_got, short_none, short_null, short_short, stands}
use Rattle.tds_rows.proofs.values.short_value.Goals as goal

pub returns-then-bytes-lt2 : goal.returns-then-bytes-lt2
returns-then-bytes-lt2 c = lacks shape.Short c.args.at c.args.bytes.now (short_none c.args.bytes.now (search rules))

pub returns-then-count-eq65535 : goal.returns-then-count-eq65535
returns-then-count-eq65535 c =
    let some : 2 ≤ length c.args.bytes.now = search rules in
    let e : two_from 0 c.args.bytes.now ≡ 65535 = search rules in
    (some, stands shape.Short c.args.at 2 _ c.args.bytes.now some (short_null c.args.bytes.now some e) refl refl (rw e refl))

pub returns-then-bytes-count : goal.returns-then-bytes-count
returns-then-bytes-count c =
    let e : c.two_at-count.result ≡ two_from 0 c.args.bytes.now = c.two_at-count.ensures in
    let f : (two_from 0 c.args.bytes.now == 65535) ≡ false = search rules in
    let some : 2 ≤ length c.args.bytes.now = search rules in
    lacks shape.Short c.args.at c.args.bytes.now (short_short c.args.bytes.now some f (omega (arith, e, c.if-bytes-count.true, some)))

pub returns : goal.returns
returns c =
    let n = c.two_at-count.result in
    let e : n ≡ two_from 0 c.args.bytes.now = c.two_at-count.ensures in
    let f : (two_from 0 c.args.bytes.now == 65535) ≡ false = search rules in
    let some : 2 ≤ length c.args.bytes.now = search rules in
    let few : n + 2 ≤ length c.args.bytes.now = omega (arith, some, c.if-bytes-count.false) in
    (few, stands shape.Short c.args.at (n + 2) _ c.args.bytes.now few (short_got (n + 2) c.args.bytes.now some f (omega (arith, e)) few) refl (omega arith) (rw f refl))
