use Rattle.tds_token.proofs.Again.{contents_again, known_behind, spelled_anywhere}
use Rattle.tds_token.proofs.laws.spelled_are_read.Goals as goal

pub returns-clause-contents : goal.returns-clause-contents
returns-clause-contents c = contents_again

pub returns-clause-known : goal.returns-clause-known
returns-clause-known c = known_behind

pub returns-clause-anywhere : goal.returns-clause-anywhere
returns-clause-anywhere c = spelled_anywhere
