use Rattle.std.proofs.Common.{◌∙◌, [], drop, refl, sym, subst}
use Rattle.tds_client.specs.Parts.{session_from}
use Rattle.tds_wire.specs.Lent.{reading_of}
use Rattle.tds_wire.specs.Reading.{Parser}
use Rattle.tds_c.proofs.Ready.{is_read, read_as, so_far}
use Rattle.tds_c.proofs.Starting.{is_started}
use Rattle.tds_c.proofs.wire.hearing.walked.hear_walked.Goals as goal

pub returns-clause-some : goal.returns-clause-some
returns-clause-some c first room r long at run = (
  record { session = session_from c.hear_on-came.new.parts []; reading = reading_of c.hear_on-came.new.walk c.hear_on-came.new.memory },
  c.of-2.ensures ∙ is_started _ [] _ refl,
  is_read c.of.result c.hear_on-came.new.memory c.hear_on-came.new.walk c.of.ensures,
  c.hear_on-came.ensures.within,
  c.hear_on-came.ensures.run first room long
      (subst (λ (x : Parser). so_far first (session_from c.args.parts []) x (drop c.args.taken.now c.args.bytes.now) room c.args.tokens.now c.args.count.now)
      (read_as c.args.walk.now c.args.memory.now c.in-Some.lent r (sym c.in-Some.ensures) at) run),
)
