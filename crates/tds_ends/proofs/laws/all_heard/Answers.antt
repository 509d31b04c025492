use Rattle.tds_session.specs.Answer.{Answers, answer_of}
use Rattle.tds_world.specs.Events.{world_after}
use Rattle.tds_world.specs.World.{World, new_world}
use Rattle.tds_ends.proofs.Coming as coming
use Rattle.tds_ends.proofs.laws.all_heard.Goals as goal

pub returns : goal.returns
returns g c setup s events =
    let engine = c.args.engine.now in
    let answers : Answers = answer_of (g.E.Engine.statements_of engine) (g.E.Engine.step_of engine) in
    let w : World = world_after setup answers events new_world in
    let lawful = c.engine_is_lawful.ensures in
    coming.worlds_hear c.hears_alike.ensures setup answers w s c.answers_are_said.ensures
    (c.all_welcome.ensures setup answers lawful events)
    (c.act_on_newest.ensures setup answers lawful events)
    (c.changes_are_heard.ensures setup answers lawful events)
    (c.all_in_range.ensures setup answers lawful c.engine_stays_in_range.ensures events)
    (c.steps_are_of_answers.ensures setup answers lawful events)
