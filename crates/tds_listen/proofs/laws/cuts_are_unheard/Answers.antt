use Rattle.tds_listen.proofs.Cuts.{cuts}
use Rattle.tds_listen.proofs.laws.cuts_are_unheard.Goals as goal

pub returns : goal.returns
returns c = cuts c.cuts_do_not_matter.ensures
