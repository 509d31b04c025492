use Rattle.std.proofs.Common.{refl}
use Rattle.serde_json.proofs.Views.{members_len-members_view}
use Rattle.tds_text.proofs.schedule.has_so_many.Goals as goal

pub returns-in-Some : goal.returns-in-Some
returns-in-Some c = rw (← c.in-Some.ensures, c.len.ensures.len, members_len-members_view) refl
