use Rattle.tds_ends.proofs.AllArriving.{each_arrives}
use Rattle.tds_world.specs.Events.{world_after}
use Rattle.tds_world.specs.World.{new_world}
use Rattle.tds_session.specs.Answer.{Answers, answer_of}
use Rattle.tds_ends.proofs.laws.arrivals_hold.Goals as goal

pub returns : goal.returns
returns g c setup u events x =
    let answers : Answers = answer_of (g.E.Engine.statements_of c.args.engine.now) (g.E.Engine.step_of c.args.engine.now) in
    each_arrives _ answers setup.packet_size (world_after setup answers events new_world).connections
    (λ r d to whole welcome sized. c.all_arrive.ensures answers r d c.engine_is_lawful.ensures to whole welcome sized)
    (c.messages_are_whole.ensures setup answers u c.engine_is_lawful.ensures c.engine_stays_in_range.ensures events x)
    (c.all_welcome.ensures setup answers c.engine_is_lawful.ensures events)
    (c.packets_fit.ensures setup answers u events)
    (c.few_underway.ensures setup answers u c.engine_is_lawful.ensures events x)
