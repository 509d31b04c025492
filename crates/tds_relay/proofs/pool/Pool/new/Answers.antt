use Rattle.tds_relay.specs.declared.link.TheConstants.{COLUMNS}
use Rattle.tds_relay.proofs.bytes.Heard.{unread_new}
use Rattle.tds_relay.proofs.pool.Pool.new.Goals as goal

pub returns-clause-unread : goal.returns-clause-unread
returns-clause-unread c = unread_new c.args.most COLUMNS c.args.features c.in-Some.service c.in-Some.ensures.value c.in-Some.ensures.told
