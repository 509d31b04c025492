use Rattle.std.proofs.Common.{refl, sym, subst}
use Rattle.std.specs.Prelude.{Err, length}
use Rattle.tds_service.specs.Service as calls
use Rattle.tds_c.specs.declared.service.answers.Stop.{Stop}
use Rattle.tds_c.specs.service.Calls.{Stops}
use Rattle.tds_c.proofs.service.exports.tds_service_give_back.Goals as goal

pub returns-in-Err : goal.returns-in-Err
returns-in-Err c = (Err c.in-Err.stop, c.write_ended.ensures.number, (refl, c.write_ended.ensures.err, refl, subst (λ (stop : Stop). Stops (calls.GiveBack c.args.lease) (record { service = c.args.service.now; seats = c.args.seats.now }) (length c.args.out.now) 0 stop) (sym c.in-Err.ensures.no.0) c.in-Err.ensures.no.1))
