use Rattle.std.specs.Prelude.{Err}
use Rattle.tds_c.specs.declared.service.answers.Stop.TheVariants as stops
use Rattle.tds_c.proofs.service.Steps.{held_same}
use Rattle.tds_c.proofs.service.exports.tds_service_lost.Goals as goal

pub returns-in-Err-lost : goal.returns-in-Err-lost
returns-in-Err-lost c = (
  Err (stops.Refused c.in-Err-lost.refusal),
  c.number-in-Err-lost.ensures,
  (
    held_same c.lost.new.service c.args.service.now c.lost.new.seats c.args.seats.now c.in-Err-lost.ensures.err c.in-Err-lost.ensures.same,
    (c.in_default.ensures.yes, c.in-Err-lost.ensures.refused),
  ),
)
