use Rattle.std.proofs.Common.{refl, sym, subst}
use Rattle.std.specs.Prelude.{Option, Ok, Err}
use Rattle.tds_client.specs.declared.sign.Sign.{Sign}
use Rattle.tds_service.specs.Service.{Came}
use Rattle.tds_c.specs.declared.service.answers.Stop.{Stop}
use Rattle.tds_c.specs.declared.service.answers.Stop.TheVariants as stops
use Rattle.tds_c.specs.service.Calls.{Stops}
use Rattle.tds_c.specs.service.Hearing.{Hears, one_part}
use Rattle.tds_c.specs.service.Plain.{table_of}
use Rattle.tds_c.proofs.service.Arrivals.{comes_unknown}
use Rattle.tds_c.proofs.service.Steps.{held_same}
use Rattle.tds_c.proofs.service.heard.hear.Goals as goal

pub returns-in-Err : goal.returns-in-Err
returns-in-Err c =
    subst (λ (o : Option Sign). Hears c.args.number o (record { service = c.args.service.now; seats = c.args.seats.now }) (record { service = c.args.service.now; seats = c.args.seats.now }) c.args.owner.now c.args.owner.now c.number-in-Err.result) (sym c.in-Some.is) (
      Err c.in-Err.stop,
      c.number-in-Err.ensures,
      λ token. (
        refl,
        refl,
        subst (λ (stop : Stop). Stops (Came c.args.number (one_part c.in-Some.sign token)) (record { service = c.args.service.now; seats = c.args.seats.now }) 0 0 stop) (sym c.in-Err.ensures.no.0) c.in-Err.ensures.no.1,
      ),
    )

pub returns-in-Ok : goal.returns-in-Ok
returns-in-Ok c =
    subst (λ (o : Option Sign). Hears c.args.number o (record { service = c.args.service.now; seats = c.args.seats.now }) (record { service = c.args.service.now; seats = c.hear.new.seats }) c.args.owner.now c.whose.result c.heard_number.result) (sym c.in-Some.is) (
      Ok (c.in-Ok.came, c.in-Ok.told),
      c.heard_number.ensures,
      λ token. (c.whose.ensures, refl, c.in_default-fits.ensures.yes, c.in-Ok.ensures.alone, c.in-Ok.ensures.ok token),
    )

pub returns-in-Err-hear : goal.returns-in-Err-hear
returns-in-Err-hear c =
    subst (λ (o : Option Sign). Hears c.args.number o (record { service = c.args.service.now; seats = c.args.seats.now }) (record { service = c.args.service.now; seats = c.hear.new.seats }) c.args.owner.now c.args.owner.now c.number-in-Err-hear.result) (sym c.in-Some.is) (
      Err (stops.Refused c.in-Err-hear.refusal),
      c.number-in-Err-hear.ensures,
      λ token. (
        held_same c.args.service.now c.args.service.now c.hear.new.seats c.args.seats.now refl c.in-Err-hear.ensures.err,
        refl,
        (
          c.in_default-fits.ensures.yes,
          comes_unknown (table_of c.args.service.now c.args.seats.now) c.args.number (one_part c.in-Some.sign token) c.in-Err-hear.refusal c.in-Err-hear.ensures.refused.0 c.in-Err-hear.ensures.refused.1,
        ),
      ),
    )
