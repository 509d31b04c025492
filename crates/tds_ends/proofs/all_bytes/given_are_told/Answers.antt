use Rattle.tds_ends.proofs.AllHeard.{told_whole}
use Rattle.tds_ends.proofs.all_bytes.given_are_told.Goals as goal

pub returns : goal.returns
returns c = told_whole
