use Rattle.tds_server.proofs.Short.{finished}
use Rattle.tds_server.proofs.answer.final_done.Goals as goal

pub returns-clause-fits : goal.returns-clause-fits
returns-clause-fits c = rw (c.in_ok-tokens.ensures.items, c.final_token.ensures) (finished c.args.failed)
