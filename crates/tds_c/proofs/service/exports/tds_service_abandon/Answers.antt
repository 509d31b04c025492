use Rattle.std.proofs.Common.{refl, sym, subst}
use Rattle.std.specs.Prelude.{Err}
use Rattle.tds_service.specs.Service as calls
use Rattle.tds_c.specs.declared.service.answers.Stop.{Stop}
use Rattle.tds_c.specs.declared.service.answers.Stop.TheVariants as stops
use Rattle.tds_c.specs.service.Calls.{Stops}
use Rattle.tds_c.proofs.service.Steps.{held_same}
use Rattle.tds_c.proofs.service.exports.tds_service_abandon.Goals as goal

pub returns-in-Err : goal.returns-in-Err
returns-in-Err c = (Err c.in-Err.stop, c.write_ended.ensures.number, (refl, c.write_ended.ensures.err, subst (λ (stop : Stop). Stops (calls.Abandon c.args.ticket) (record { service = c.args.service.now; seats = c.args.seats.now }) 0 0 stop) (sym c.in-Err.ensures.no.0) c.in-Err.ensures.no.1))

pub returns-in-Err-abandon : goal.returns-in-Err-abandon
returns-in-Err-abandon c = (
  Err (stops.Refused c.in-Err-abandon.refusal),
  c.write_ended-in-Err-abandon.ensures.number,
  (
    held_same c.abandon.new.service c.args.service.now c.abandon.new.seats c.args.seats.now c.in-Err-abandon.ensures.err c.in-Err-abandon.ensures.same,
    c.write_ended-in-Err-abandon.ensures.err,
    (c.in_default.ensures.yes, c.in-Err-abandon.ensures.refused),
  ),
)
