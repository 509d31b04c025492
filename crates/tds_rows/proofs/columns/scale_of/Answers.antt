use Rattle.tds_rows.proofs.columns.scale_of.Goals as goal

pub returns-in-Info : goal.returns-in-Info
returns-in-Info c = rw c.in-Info.is (c.plain_scale.ensures c.in-Info.field-1)
