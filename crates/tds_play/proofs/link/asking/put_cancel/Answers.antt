use Rattle.tds_play.proofs.any_bytes.Stays.{cancelling_columns}
use Rattle.tds_play.proofs.link.asking.put_cancel.Goals as goal

pub returns-in-Ok-clause-columns : goal.returns-in-Ok-clause-columns
returns-in-Ok-clause-columns c =
    cancelling_columns c.args.client.now c.cancel.new.self c.cancel.result c.args.out.now.items c.cancel.new.out.items c.cancel.ensures.ok c.cancel.ensures.err
