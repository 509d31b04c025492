use Rattle.tds_world.proofs.script.Fitting as fitting
use Rattle.tds_world.proofs.laws.engine_stays_in_range.Goals as goal

pub returns : goal.returns
returns g c =
    let engine = c.args.engine.now in
    fitting.stay_in_range (g.E.Engine.is_statement engine) (g.E.Engine.statements_of engine) (g.E.Engine.step_of engine)
    (g.met.E.Engine.spells engine) (g.met.E.Engine.is_effect engine) (g.met.E.Engine.fits_packet engine)
