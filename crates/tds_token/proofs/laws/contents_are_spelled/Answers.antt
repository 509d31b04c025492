use Rattle.tds_token.proofs.Behind.{contents_found, contents_only}
use Rattle.tds_token.proofs.laws.contents_are_spelled.Goals as goal

pub returns-clause-found : goal.returns-clause-found
returns-clause-found c = contents_found

pub returns-clause-only : goal.returns-clause-only
returns-clause-only c = contents_only
