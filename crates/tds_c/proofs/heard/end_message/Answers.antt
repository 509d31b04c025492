use Rattle.std.proofs.Common.{◌∙◌, []}
use Rattle.tds_c.proofs.Starting.{is_started}
use Rattle.tds_c.proofs.heard.end_message.Goals as goal

pub returns-in-Err : goal.returns-in-Err
returns-in-Err c = rw c.in-Some.ensures.some (c.in-Err.ensures.fault [], c.of.ensures ∙ is_started _ _ _ (c.in-Err.ensures.broken []))
