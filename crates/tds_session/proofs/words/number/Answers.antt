use Rattle.std.proofs.Common.{◌≡◌, ◌+◌, ◌*◌, ◌-◌, ◌<◌, get_or, true, rules, arith}
use Rattle.tds_session.specs.Words.{is_numeral}
use Rattle.tds_session.proofs.Numbers.{too_large}
use Rattle.tds_session.proofs.words.number.Goals as goal

pub returns-then-value-from : goal.returns-then-value-from
returns-then-value-from c =
    let numeral : is_numeral c.args.units.now ≡ true = search rules in
    let over : c.args.most < c.loop-unit.value * 10 + (get_or c.args.units.now c.loop-unit.unit-index 0 - 48) = omega (arith, c.if-value-from.true, c.from.ensures, c.from-in-loop-unit.ensures) in
    too_large c.args.units.now c.loop-unit.value c.loop-unit.unit-index c.args.most numeral c.loop-unit-test.true over c.loop-unit.invariant.value
