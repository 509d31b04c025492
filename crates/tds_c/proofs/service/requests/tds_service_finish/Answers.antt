use Rattle.std.proofs.Common.{refl, sym, subst}
use Rattle.std.specs.Prelude.{Err}
use Rattle.tds_c.specs.declared.service.answers.Stop.{Stop}
use Rattle.tds_c.specs.service.Asking.{FinishStops}
use Rattle.tds_c.proofs.service.requests.tds_service_finish.Goals as goal

pub returns-in-Err : goal.returns-in-Err
returns-in-Err c = (
  Err c.in-Err.stop,
  c.number.ensures,
  (
    refl,
    refl,
    subst (λ (stop : Stop). FinishStops c.args.lease (record { service = c.args.service.now; seats = c.args.seats.now }) c.args.kept.now (record { before = c.args.out.now; after = c.args.out.now; count = 0 }) stop) (sym c.in-Err.ensures.no.0) (c.in-Err.ensures.no.1, refl),
  ),
)
