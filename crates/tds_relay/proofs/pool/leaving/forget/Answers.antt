use Rattle.std.proofs.Common.{◌≡◌, rules}
use Rattle.tds_service.specs.Table.{service_in}
use Rattle.tds_relay.specs.Ties.{lost_by}
use Rattle.tds_relay.proofs.bytes.Leaving.{lost_gone, lost_stand}
use Rattle.tds_relay.proofs.pool.leaving.forget.Goals as goal

pub returns-in-Ok-clause-stand : goal.returns-in-Ok-clause-stand
returns-in-Ok-clause-stand c = lost_stand _ _ c.args.number c.in-Ok.ensures.ok.service_is c.in-Ok.ensures.makes c.in-Ok.ensures.sizes c.in-Ok.ensures.keeps

pub returns-in-Ok-clause-gone : goal.returns-in-Ok-clause-gone
returns-in-Ok-clause-gone c = λ led. lost_gone c.args.service.now c.lost.new.self c.args.number c.in-Ok.ensures.ok.service_is led

pub returns-in-Err : goal.returns-in-Err
returns-in-Err c =
    let is : service_in c.lost.new.self ≡ lost_by (service_in c.args.service.now) c.args.number = search rules in
    record { lost = is; stand = lost_stand _ _ c.args.number is c.in-Err.ensures.makes c.in-Err.ensures.sizes c.in-Err.ensures.keeps; gone = λ led. lost_gone c.args.service.now c.lost.new.self c.args.number is led; clients = c.in-Err.ensures.clients }
