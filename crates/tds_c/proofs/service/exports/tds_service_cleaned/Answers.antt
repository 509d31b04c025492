use Rattle.std.proofs.Common.{refl, sym, subst}
use Rattle.std.specs.Prelude.{Err}
use Rattle.tds_service.specs.Service as calls
use Rattle.tds_c.specs.declared.service.answers.Stop.{Stop}
use Rattle.tds_c.specs.declared.service.answers.Stop.TheVariants as stops
use Rattle.tds_c.specs.service.Calls.{Stops}
use Rattle.tds_c.proofs.service.Steps.{held_same}
use Rattle.tds_c.proofs.service.exports.tds_service_cleaned.Goals as goal

pub returns-in-Err : goal.returns-in-Err
returns-in-Err c = (Err c.in-Err.stop, c.write_ended.ensures.number, (refl, c.write_ended.ensures.err, subst (λ (stop : Stop). Stops (calls.Cleaned c.args.lease) (record { service = c.args.service.now; seats = c.args.seats.now }) 0 0 stop) (sym c.in-Err.ensures.no.0) c.in-Err.ensures.no.1))

pub returns-in-Err-cleaned : goal.returns-in-Err-cleaned
returns-in-Err-cleaned c = (
  Err (stops.Refused c.in-Err-cleaned.refusal),
  c.write_ended-in-Err-cleaned.ensures.number,
  (
    held_same c.cleaned.new.service c.args.service.now c.cleaned.new.seats c.args.seats.now c.in-Err-cleaned.ensures.err c.in-Err-cleaned.ensures.same,
    c.write_ended-in-Err-cleaned.ensures.err,
    (c.in_default.ensures.yes, c.in-Err-cleaned.ensures.refused),
  ),
)
