use Rattle.std.proofs.Common.{◌≡◌, ◌≤◌, ◌<◌, ◌+◌, length, arith, rules}
use Rattle.tds_c.proofs.service.Puts.{all_wait, one_goes}
use Rattle.tds_c.proofs.service.putting.put_some.Goals as goal

pub returns : goal.returns
returns c =
    let within : c.args.waiting.now ≤ length c.args.kept.now = omega (arith, c.requires.full, c.requires.room) in
    let over : c.args.end < length c.args.bytes.now = search rules in
    one_goes c.args.seat.now c.go_on.new.self c.args.kept.now c.fill.new.kept c.args.out.now c.fill.new.out c.args.bytes.now c.args.waiting.now c.args.end (c.args.waiting.now + c.args.end + 8)
    c.requires.sending c.requires.range within c.requires.full over c.go_on.ensures.line c.go_on.ensures.place c.go_on.ensures.number c.go_on.ensures.is c.fill.ensures.kept c.fill.ensures.written c.requires.full

pub returns-then-bytes-end : goal.returns-then-bytes-end
returns-then-bytes-end c =
    all_wait c.args.seat.now c.args.kept.now c.keep.new.kept c.args.out.now c.args.bytes.now c.args.waiting.now c.args.count.now c.requires.sending c.requires.range
    (omega (arith, c.requires.full, c.requires.room)) (omega (arith, c.requires.full, c.if-bytes-end.true)) c.keep.ensures c.requires.none
