use Rattle.std.proofs.Common.{refl, sym, subst}
use Rattle.std.specs.Prelude.{Ok, Err}
use Rattle.tds_service.specs.Service as calls
use Rattle.tds_c.specs.declared.service.answers.Stop.{Stop}
use Rattle.tds_c.specs.declared.service.answers.Stop.TheVariants as stops
use Rattle.tds_c.specs.service.Calls.{Stops}
use Rattle.tds_c.proofs.service.Steps.{held_same}
use Rattle.tds_c.proofs.service.exports.tds_service_lease.Goals as goal

pub returns-in-Err : goal.returns-in-Err
returns-in-Err c = (Err c.in-Err.stop, c.write_lent.ensures.number, (refl, c.write_lent.ensures.err, subst (λ (stop : Stop). Stops calls.Lease (record { service = c.args.service.now; seats = c.args.seats.now }) 0 0 stop) (sym c.in-Err.ensures.no.0) c.in-Err.ensures.no.1))

pub returns-in-Ok : goal.returns-in-Ok
returns-in-Ok c = (Ok c.in-Ok.l, c.write_lent-in-Ok.ensures.number, (_, c.write_lent-in-Ok.ensures.ok, (c.in_default.ensures.yes, c.in-Ok.ensures.ok), c.in-Ok.ensures.leaves))

pub returns-in-Err-lease : goal.returns-in-Err-lease
returns-in-Err-lease c = (
  Err (stops.Refused c.in-Err-lease.refusal),
  c.write_lent-in-Err-lease.ensures.number,
  (
    held_same c.lease.new.service c.args.service.now c.lease.new.seats c.args.seats.now c.in-Err-lease.ensures.err c.in-Err-lease.ensures.same,
    c.write_lent-in-Err-lease.ensures.err,
    (c.in_default.ensures.yes, c.in-Err-lease.ensures.refused),
  ),
)
