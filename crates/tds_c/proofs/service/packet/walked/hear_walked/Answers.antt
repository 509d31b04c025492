use Rattle.std.proofs.Common.{◌∙◌, drop, refl, sym, subst}
use Rattle.tds_wire.specs.Lent.{reading_of}
use Rattle.tds_wire.specs.Reading.{Parser}
use Rattle.tds_c.specs.service.Here.{HasCome}
use Rattle.tds_c.proofs.service.Here.{here_walked, read_in, read_one, read_some}
use Rattle.tds_c.proofs.service.packet.walked.hear_walked.Goals as goal

pub returns-clause-none : goal.returns-clause-none
returns-clause-none c = λ none. absurd (read_some _ _ none (read_in c.args.walk.now c.args.memory.now c.in-Some.lent (sym c.in-Some.ensures)))

pub returns-clause-some : goal.returns-clause-some
returns-clause-some c = λ first room r long at come.
    let w = c.args.walk.now in
    let m = c.args.memory.now in
    let rest = drop c.args.taken.now c.args.bytes.now in
    let same = read_one w m r (reading_of c.in-Some.lent m) at (read_in w m c.in-Some.lent (sym c.in-Some.ensures)) in
    let here = subst (λ (x : Parser). HasCome first (record { seat = c.args.seat.now; reading = x; rest = rest })
    (record { before = room; after = c.args.tokens.now; count = c.args.count.now })) same come in
    here_walked first _ _ _ c.hear_on-halt.result c.halt_number.ensures come.kept
    (read_in c.of.result c.hear_on-halt.new.memory c.hear_on-halt.new.walk c.of.ensures) c.whose.ensures.lease c.whose.ensures.request
    c.hear_on-halt.ensures.within (c.hear_on-halt.ensures.run first room long here)
