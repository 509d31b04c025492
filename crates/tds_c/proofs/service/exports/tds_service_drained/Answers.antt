use Rattle.std.proofs.Common.{refl, sym, subst}
use Rattle.std.specs.Prelude.{Ok, Err}
use Rattle.tds_c.specs.declared.service.answers.Stop.{Stop}
use Rattle.tds_c.specs.declared.service.answers.Stop.TheVariants as stops
use Rattle.tds_c.specs.service.Calls.{Settling}
use Rattle.tds_c.proofs.service.Steps.{held_same}
use Rattle.tds_c.proofs.service.exports.tds_service_drained.Goals as goal

pub returns-in-Err : goal.returns-in-Err
returns-in-Err c = (
  Err c.in-Err.stop,
  c.number.ensures,
  subst (λ (stop : Stop). Settling c.args.number (record { service = c.args.service.now; seats = c.args.seats.now }) (record { service = c.args.service.now; seats = c.args.seats.now }) (Err stop)) (sym c.in-Err.ensures.no.0) (refl, c.in-Err.ensures.no.1),
)

pub returns-in-Ok : goal.returns-in-Ok
returns-in-Ok c = (Ok c.in-Ok.rest, c.rest_number.ensures, (c.in_default.ensures.yes, c.in-Ok.ensures.ok, c.in-Ok.ensures.leaves))

pub returns-in-Err-drained : goal.returns-in-Err-drained
returns-in-Err-drained c = (
  Err (stops.Refused c.in-Err-drained.refusal),
  c.number-in-Err-drained.ensures,
  (
    held_same c.drained.new.service c.args.service.now c.drained.new.seats c.args.seats.now c.in-Err-drained.ensures.err c.in-Err-drained.ensures.same,
    c.in_default.ensures.yes,
    c.in-Err-drained.ensures.refused,
  ),
)
