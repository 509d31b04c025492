use Rattle.std.proofs.Common.{refl, sym, subst}
use Rattle.std.specs.Prelude.{Ok, Err}
use Rattle.tds_service.specs.Service as calls
use Rattle.tds_c.specs.declared.service.answers.Stop.{Stop}
use Rattle.tds_c.specs.declared.service.answers.Stop.TheVariants as stops
use Rattle.tds_c.specs.service.Calls.{Stops}
use Rattle.tds_c.proofs.service.Steps.{held_same}
use Rattle.tds_c.proofs.service.exports.tds_service_resume.Goals as goal

pub returns-in-Err : goal.returns-in-Err
returns-in-Err c = (Err c.in-Err.stop, c.write_lent.ensures.number, (refl, c.write_lent.ensures.err, subst (λ (stop : Stop). Stops (calls.Resume c.args.ticket) (record { service = c.args.service.now; seats = c.args.seats.now }) 0 0 stop) (sym c.in-Err.ensures.no.0) c.in-Err.ensures.no.1))

pub returns-in-Ok : goal.returns-in-Ok
returns-in-Ok c = (Ok c.in-Ok.l, c.write_lent-in-Ok.ensures.number, (_, c.write_lent-in-Ok.ensures.ok, (c.in_default.ensures.yes, c.in-Ok.ensures.ok), c.in-Ok.ensures.leaves))

pub returns-in-Err-lend_chosen : goal.returns-in-Err-lend_chosen
returns-in-Err-lend_chosen c = (
  Err (stops.Refused c.in-Err-lend_chosen.refusal),
  c.write_lent-in-Err-lend_chosen.ensures.number,
  (
    held_same c.lend_chosen.new.service c.args.service.now c.lend_chosen.new.seats c.args.seats.now c.in-Err-lend_chosen.ensures.err c.in-Err-lend_chosen.ensures.same,
    c.write_lent-in-Err-lend_chosen.ensures.err,
    (c.in_default.ensures.yes, c.in-Err-lend_chosen.ensures.refused),
  ),
)
