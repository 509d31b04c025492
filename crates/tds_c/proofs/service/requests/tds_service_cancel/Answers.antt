use Rattle.std.proofs.Common.{refl, sym, subst, arith}
use Rattle.std.specs.Prelude.{Err}
use Rattle.tds_c.specs.declared.service.answers.Stop.{Stop}
use Rattle.tds_c.specs.service.Asking.{Cancelling}
use Rattle.tds_c.proofs.service.requests.tds_service_cancel.Goals as goal

pub returns-in-Err : goal.returns-in-Err
returns-in-Err c = (
  Err c.in-Err.stop,
  c.cancel_number.ensures,
  subst (λ (stop : Stop). Cancelling c.args.lease (record { service = c.args.service.now; seats = c.args.seats.now }) (record { service = c.args.service.now; seats = c.args.seats.now }) (record { before = c.args.out.now; after = c.args.out.now; count = 0 }) (Err stop)) (sym c.in-Err.ensures.no.0)
      (refl, refl, omega arith, (λ m. let u : ⊥ = cc in u), c.in-Err.ensures.no.1),
)
