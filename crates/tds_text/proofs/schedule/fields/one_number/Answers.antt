use Rattle.tds_text.specs.Fields.{number_of}
use Rattle.tds_text.proofs.FieldCounts.{more_than_one}
use Rattle.tds_text.proofs.schedule.fields.one_number.Goals as goal

pub returns-in_default-2 : goal.returns-in_default-2
returns-in_default-2 c = more_than_one number_of c.args.fields.now c.in_default.len_at_least
