use Rattle.tds_text.proofs.FieldCounts.{not_two}
use Rattle.tds_text.proofs.schedule.fields.pair.Goals as goal

pub returns-then-fields-ne2 : goal.returns-then-fields-ne2
returns-then-fields-ne2 c = not_two c.args.fields.now c.if-fields-ne2.true
