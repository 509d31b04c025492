use Rattle.tds_play.proofs.any_bytes.Stays.{sending_columns}
use Rattle.tds_play.proofs.link.asking.put_next.Goals as goal

pub returns-in-Ok-More-clause-columns : goal.returns-in-Ok-More-clause-columns
returns-in-Ok-More-clause-columns c =
    sending_columns c.args.client.now c.send.new.self _ c.args.out.now.items c.send.new.out.items c.in-Ok-More.ensures.ok

pub returns-in-Ok-Last-clause-columns : goal.returns-in-Ok-Last-clause-columns
returns-in-Ok-Last-clause-columns c =
    sending_columns c.args.client.now c.send.new.self _ c.args.out.now.items c.send.new.out.items c.in-Ok-Last.ensures.ok
