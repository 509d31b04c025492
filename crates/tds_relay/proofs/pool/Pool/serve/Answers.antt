use Rattle.tds_relay.proofs.bytes.Walking.{lease_stand, same_stand}
use Rattle.std.proofs.Common.{rules}
use Rattle.tds_relay.specs.Pool.{holding}
use Rattle.tds_relay.proofs.spared.Held.{lent_all, same_all}
use Rattle.tds_relay.proofs.pool.Pool.serve.Goals as goal

pub returns-in-Ok-clause-stand : goal.returns-in-Ok-clause-stand
returns-in-Ok-clause-stand c = lease_stand _ _ c.in-Ok.lent.lease c.in-Ok.lent.number _ c.in-Ok.lent.had _ _ c.in-Ok.ensures.ok c.in-Ok.ensures.makes c.in-Ok.ensures.sizes c.in-Ok.ensures.keeps c.in-Ok.ensures.begins

pub returns-in-Err-AllInUse-clause-stand : goal.returns-in-Err-AllInUse-clause-stand
returns-in-Err-AllInUse-clause-stand c = same_stand _ _ c.in-Err-AllInUse.ensures.err c.in-Err-AllInUse.ensures.makes c.in-Err-AllInUse.ensures.sizes c.in-Err-AllInUse.ensures.keeps

pub returns-in-Ok-clause-holds : goal.returns-in-Ok-clause-holds
returns-in-Ok-clause-holds c = lent_all c.args.self.now _ (holding c.in-Some.key c.in-Ok.lent.lease c.in-Ok.lent.number) (search rules) c.in-Ok.ensures.clients

pub returns-in-Err-AllInUse-clause-holds : goal.returns-in-Err-AllInUse-clause-holds
returns-in-Err-AllInUse-clause-holds c = same_all c.args.self.now _ (search rules) c.in-Err-AllInUse.ensures.clients
