use Rattle.std.proofs.Common.{rules}
use Rattle.tds_text.proofs.Batches.{such_batch}
use Rattle.tds_text.proofs.schedule.fields.batch_text.Goals as goal

pub returns : goal.returns
returns c = such_batch c.args.units.items c.new.result (search rules) c.new.ensures
