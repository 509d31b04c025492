use Rattle.std.proofs.Common.{ap}
use Rattle.tds_service.specs.Service.{Service}
use Rattle.tds_relay.proofs.bytes.Walking.{lease_stand, led_on, same_stand}
use Rattle.tds_service.specs.Service as calls
use Rattle.tds_relay.proofs.spared.Brought.{brought_cleans, brought_there}
use Rattle.tds_service.specs.Table.{service_in}
use Rattle.tds_relay.specs.Ties.{pool_in}
use Rattle.tds_relay.proofs.seats.Rests.{brought_is, same_keeps}
use Rattle.tds_relay.proofs.spared.Aside.{led_at}
use Rattle.tds_relay.proofs.steps.Made.{brought_turns}
use Rattle.tds_relay.proofs.pool.Pool.bring.Goals as goal

pub returns-clause-stand : goal.returns-clause-stand
returns-clause-stand c = λ n r h. c.in_ok-is_there.ensures.stand n r (lease_stand c.args.self.now.service c.lease.new.self c.in-Ok.lent.lease c.in-Ok.lent.number _ c.in-Ok.lent.had _ _ c.in-Ok.ensures.ok c.in-Ok.ensures.makes c.in-Ok.ensures.sizes c.in-Ok.ensures.keeps c.in-Ok.ensures.begins n r h)

pub returns-in-Err-AllInUse-clause-stand : goal.returns-in-Err-AllInUse-clause-stand
returns-in-Err-AllInUse-clause-stand c = same_stand c.args.self.now.service c.lease.new.self c.in-Err-AllInUse.ensures.err c.in-Err-AllInUse.ensures.makes c.in-Err-AllInUse.ensures.sizes c.in-Err-AllInUse.ensures.keeps

pub returns-clause-cleans : goal.returns-clause-cleans
returns-clause-cleans c = λ reached there.
    let led = led_at (pool_in c.args.self.now) reached in
    brought_cleans c.cleaning_text.result.now c.in-Ok.lent.lease c.in-Ok.lent.number c.in-Ok.lent.had c.args.self.now.service c.lease.new.self _ _ c.cleaning_text.ensures led c.in-Ok.ensures.ok.service_is c.in-Ok.ensures.ok.reply_is
    (c.in_ok-is_there.ensures.ends (led_on (service_in c.args.self.now.service) (service_in c.lease.new.self) calls.Lease c.in-Ok.ensures.ok.service_is led) there)

pub returns-clause-lent : goal.returns-clause-lent
returns-clause-lent c = (c.in-Ok.lent.lease, c.in-Ok.lent.had, c.in-Ok.ensures.ok.reply_is)

pub returns-clause-seats : goal.returns-clause-seats
returns-clause-seats c = λ reached.
    brought_is c.in_ok-is_there.is_there c.in-Ok.lent.had c.in-Ok.lent.lease c.in-Ok.lent.number _ (service_in c.args.self.now.service) c.lease.new.self (service_in c.release.new.service) _ _ (led_at (pool_in c.args.self.now) reached) c.in-Ok.ensures.ok c.in_ok-is_there.ensures.seats

pub returns-in-Err-AllInUse-clause-seats : goal.returns-in-Err-AllInUse-clause-seats
returns-in-Err-AllInUse-clause-seats c = λ reached. same_keeps (service_in c.args.self.now.service) (service_in c.lease.new.self) c.in-Err-AllInUse.ensures.err

pub returns-clause-turns : goal.returns-clause-turns
returns-clause-turns c =
    let made = c.in_ok-is_there.ensures.makes in
    (made.0, made.1, brought_turns (pool_in c.args.self.now) (service_in c.lease.new.self) (service_in c.release.new.service) c.in-Ok.lent.lease c.in-Ok.lent.number _ c.in-Ok.lent.had made.0 made.1 _ _ c.in-Ok.ensures.ok made.2)

pub returns-clause-there : goal.returns-clause-there
returns-clause-there c = λ reached.
    let led = led_at (pool_in c.args.self.now) reached in
    brought_there c.in_ok-is_there.is_there c.in-Ok.lent.lease c.in-Ok.lent.number c.in-Ok.lent.had c.args.self.now.service c.lease.new.self led c.in-Ok.ensures.ok.service_is c.in-Ok.ensures.ok.reply_is c.in_ok-is_there.ensures.shut

pub returns-in-Err-AllInUse-clause-same : goal.returns-in-Err-AllInUse-clause-same
returns-in-Err-AllInUse-clause-same c = ap (λ (s : Service). record (pool_in c.args.self.now) { service = s }) c.in-Err-AllInUse.ensures.err
