use Rattle.tds_text.proofs.FieldCounts.{not_alone}
use Rattle.tds_text.proofs.schedule.fields.alone.Goals as goal

pub returns-in_default : goal.returns-in_default
returns-in_default c = not_alone c.args.event c.args.fields.now c.in_default.len_at_least
