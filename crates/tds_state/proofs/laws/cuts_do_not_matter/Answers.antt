use Rattle.tds_state.proofs.Pieces.{body_cut, token_cut}
use Rattle.tds_state.proofs.laws.cuts_do_not_matter.Goals as goal

pub returns-clause-answers : goal.returns-clause-answers
returns-clause-answers c tracker first second token = token_cut tracker first second token

pub returns-clause-requests : goal.returns-clause-requests
returns-clause-requests c session first second = body_cut session first second
