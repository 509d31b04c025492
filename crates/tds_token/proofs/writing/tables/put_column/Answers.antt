use Rattle.tds_token.proofs.Keeping.{kept_append, kept_trans}
use Rattle.tds_token.proofs.writing.tables.put_column.Goals as goal

pub returns-clause-kept : goal.returns-clause-kept
returns-clause-kept c = kept_trans _ _ _ (kept_append _ _ _ c.in_ok-extend_from_slice.ensures.items) c.put_short.ensures.kept
