use Rattle.std.proofs.Common.{refl, sym, subst}
use Rattle.std.specs.Prelude.{Ok, Err}
use Rattle.tds_service.specs.Service as calls
use Rattle.tds_c.specs.declared.service.answers.Stop.{Stop}
use Rattle.tds_c.specs.declared.service.answers.Stop.TheVariants as stops
use Rattle.tds_c.specs.service.Calls.{Stops}
use Rattle.tds_c.proofs.service.Steps.{held_same}
use Rattle.tds_c.proofs.service.exports.tds_service_keep.Goals as goal

pub returns-in-Err : goal.returns-in-Err
returns-in-Err c = (Err c.in-Err.stop, c.number.ensures, (refl, refl, subst (λ (stop : Stop). Stops (calls.Keep c.args.lease) (record { service = c.args.service.now; seats = c.args.seats.now }) 0 0 stop) (sym c.in-Err.ensures.no.0) c.in-Err.ensures.no.1))

pub returns-in-Ok : goal.returns-in-Ok
returns-in-Ok c = (Ok c.in-Ok.given, refl, (c.in-Ok.ensures.ok.0, refl, (c.in_default.ensures.yes, c.in-Ok.ensures.ok.1), c.in-Ok.ensures.leaves))

pub returns-in-Err-keep : goal.returns-in-Err-keep
returns-in-Err-keep c = (
  Err (stops.Refused c.in-Err-keep.refusal),
  c.number-in-Err-keep.ensures,
  (
    held_same c.keep.new.service c.args.service.now c.keep.new.seats c.args.seats.now c.in-Err-keep.ensures.err c.in-Err-keep.ensures.same,
    refl,
    (c.in_default.ensures.yes, c.in-Err-keep.ensures.refused),
  ),
)
