use Rattle.std.proofs.Common.{refl, sym, subst, ap}
use Rattle.std.specs.Prelude.{Err, None}
use Rattle.tds_c.specs.declared.service.answers.Stop.{Stop}
use Rattle.tds_c.specs.declared.service.answers.Stop.TheVariants as stops
use Rattle.tds_c.specs.service.Asking.{AskStops, message_from}
use Rattle.tds_c.proofs.service.requests.tds_service_ask.Goals as goal

pub returns-in-Err : goal.returns-in-Err
returns-in-Err c = (
  Err c.in-Err.stop,
  c.write_asked.ensures.number,
  (
    refl,
    c.write_asked.ensures.err,
    refl,
    subst (λ (stop : Stop). AskStops c.args.lease (message_from c.args.kind) (record { service = c.args.service.now; seats = c.args.seats.now }) (record { before = c.args.kept.now; after = c.args.kept.now; count = 0 }) stop) (sym c.in-Err.ensures.no.0) (c.in-Err.ensures.no.1, refl),
  ),
)

pub returns-in_default-message : goal.returns-in_default-message
returns-in_default-message c =
    (Err stops.OutOfRange, c.write_asked-in_default-message.ensures.number, (refl, c.write_asked-in_default-message.ensures.err, refl, (sym c.in_default-message.ensures, refl)))
