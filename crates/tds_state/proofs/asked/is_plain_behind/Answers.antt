use Rattle.std.proofs.Common.{◌∙◌, ◌<◌, sym, ap, length, arith}
use Rattle.std.proofs.lemmas.List.{length-drop}
use Rattle.tds_state.proofs.Names.{plain_end, plain_more, plain_not}
use Rattle.tds_state.proofs.asked.is_plain_behind.Goals as goal

pub letters-preserved : goal.letters-preserved
letters-preserved c =
    plain_more c.args.name.now c.behind-rest.result.now c.letters.at c.behind-rest.ensures (sym c.is_plain_first-is_plain.ensures ∙ c.if-not-is_plain.false)
    ∙ c.letters.invariant

pub returns-then-not-is_plain : goal.returns-then-not-is_plain
returns-then-not-is_plain c =
    let some : 0 < length c.behind-rest.result.now = omega (arith, length-drop c.letters.at c.args.name.now, ap length c.behind-rest.ensures) in
    plain_not c.args.name.now c.behind-rest.result.now c.letters.at c.behind-rest.ensures some (sym c.is_plain_first-is_plain.ensures ∙ c.if-not-is_plain.true)
    ∙ c.letters.invariant

pub returns : goal.returns
returns c = plain_end c.args.name.now c.letters.at (omega arith) ∙ c.letters.invariant
