use Rattle.tds_world.proofs.script.Lawful as lawful
use Rattle.tds_world.proofs.laws.engine_is_lawful.Goals as goal

pub returns : goal.returns
returns g c =
    lawful.lawful (g.E.Engine.statements_of c.args.engine.now) (g.E.Engine.step_of c.args.engine.now)
    (λ s q. (g.met.E.Engine.is_effect c.args.engine.now s q).applies)
