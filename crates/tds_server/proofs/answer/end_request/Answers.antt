use Rattle.tds_server.proofs.Short.{requested}
use Rattle.tds_server.proofs.answer.end_request.Goals as goal

pub returns-clause-fits : goal.returns-clause-fits
returns-clause-fits c = λ short. rw (c.in_ok-push.ensures.items, c.final_token.ensures) (requested c.args.given.items _ short)
