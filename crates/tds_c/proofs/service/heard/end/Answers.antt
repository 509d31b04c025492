use Rattle.std.proofs.Common.{refl, sym, subst}
use Rattle.std.specs.Prelude.{Ok, Err}
use Rattle.tds_service.specs.Service.{Came}
use Rattle.tds_c.specs.declared.service.answers.Stop.{Stop}
use Rattle.tds_c.specs.declared.service.answers.Stop.TheVariants as stops
use Rattle.tds_c.specs.service.Calls.{Stops}
use Rattle.tds_c.specs.service.Hearing.{end_part}
use Rattle.tds_c.specs.service.Plain.{table_of}
use Rattle.tds_c.proofs.service.Arrivals.{comes_unknown}
use Rattle.tds_c.proofs.service.Steps.{held_same}
use Rattle.tds_c.proofs.service.heard.end.Goals as goal

pub returns-in-Err : goal.returns-in-Err
returns-in-Err c = (
  Err c.in-Err.stop,
  c.number.ensures,
  (
    refl,
    refl,
    subst (λ (stop : Stop). Stops (Came c.args.number (end_part c.args.cut)) (record { service = c.args.service.now; seats = c.args.seats.now }) 0 0 stop) (sym c.in-Err.ensures.no.0) c.in-Err.ensures.no.1,
  ),
)

pub returns-in-Ok : goal.returns-in-Ok
returns-in-Ok c = (Ok c.in-Ok.came, c.ended_number.ensures, (c.whose.ensures, refl, c.in_default.ensures.yes, c.in-Ok.ensures.alone, c.in-Ok.ensures.ok))

pub returns-in-Err-end : goal.returns-in-Err-end
returns-in-Err-end c = (
  Err (stops.Refused c.in-Err-end.refusal),
  c.number-in-Err-end.ensures,
  (
    held_same c.args.service.now c.args.service.now c.end.new.seats c.args.seats.now refl c.in-Err-end.ensures.err,
    refl,
    (
      c.in_default.ensures.yes,
      comes_unknown (table_of c.args.service.now c.args.seats.now) c.args.number (end_part c.args.cut) c.in-Err-end.refusal c.in-Err-end.ensures.refused.0 c.in-Err-end.ensures.refused.1,
    ),
  ),
)
