use Rattle.tds_server.proofs.Short.{of_engine}
use Rattle.tds_server.proofs.answer.run_statement.Goals as goal

pub returns-clause-fits : goal.returns-clause-fits
returns-clause-fits g c =
    let known = c.step.ensures.known in
    let fits = of_engine _ (g.met.E.Engine.fits_packet c.args.engine.now c.args.session.now c.in-Some.statement.now known.0 known.1) in
    rw (c.in_ok-step.ensures.tokens, c.new-tokens.ensures.items) fits
