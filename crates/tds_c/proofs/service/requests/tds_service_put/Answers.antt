use Rattle.std.proofs.Common.{refl, sym, subst}
use Rattle.std.specs.Prelude.{Err}
use Rattle.tds_c.specs.declared.service.answers.Stop.{Stop}
use Rattle.tds_c.specs.service.Asking.{PutStops}
use Rattle.tds_c.proofs.service.requests.tds_service_put.Goals as goal

pub returns-in-Err : goal.returns-in-Err
returns-in-Err c = (
  Err c.in-Err.stop,
  c.put_number.ensures,
  (
    refl,
    refl,
    refl,
    refl,
    refl,
    subst (λ (stop : Stop). PutStops c.args.lease (record { service = c.args.service.now; seats = c.args.seats.now }) (record { before = c.args.kept.now; after = c.args.kept.now; waiting = c.args.waiting.now; waits = c.args.waiting.now }) (record { before = c.args.out.now; after = c.args.out.now; count = 0 }) stop) (sym c.in-Err.ensures.no.0) (c.in-Err.ensures.no.1, refl),
  ),
)
