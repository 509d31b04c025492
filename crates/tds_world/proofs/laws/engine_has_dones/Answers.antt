use Rattle.tds_world.proofs.packets.Dones as dones
use Rattle.tds_world.proofs.laws.engine_has_dones.Goals as goal

pub returns : goal.returns
returns g c =
    dones.have_dones (g.E.Engine.statements_of c.args.engine.now) (g.E.Engine.step_of c.args.engine.now)
    (λ s q. (g.met.E.Engine.is_effect c.args.engine.now s q).dones)
