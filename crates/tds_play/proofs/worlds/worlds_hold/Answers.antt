use Rattle.std.proofs.Common.{ℕ, ◌≤◌, ◌<◌, length, arith}
use Rattle.tds_session.specs.Answer.{Answers, answer_of}
use Rattle.tds_world.specs.Events.{world_after}
use Rattle.tds_world.specs.World.{World, new_world}
use Rattle.tds_play.proofs.Promised.{each_promised, small}
use Rattle.tds_play.proofs.worlds.worlds_hold.Goals as goal

pub returns-clause-each : goal.returns-clause-each
returns-clause-each g c setup events u x few =
    let answers : Answers = answer_of (g.E.Engine.statements_of c.args.engine.now) (g.E.Engine.step_of c.args.engine.now) in
    let lawful = c.engine_is_lawful.ensures in
    each_promised _ answers setup.packet_size (length events) (world_after setup answers events new_world).connections few
    (c.arrivals_hold.ensures setup u events x)
    (c.all_heard.ensures setup u events)
    (c.delivers_exactly.ensures setup answers events)
    (c.answers_end_once.ensures setup answers lawful events)
    (c.idle_is_quiet.ensures setup answers lawful events)
    (c.work_on_newest.ensures setup answers lawful events)
    (c.act_on_newest.ensures setup answers lawful events)
    (c.few_to_clients.ensures setup answers lawful c.engine_stays_in_range.ensures events)

no_more : (n : ℕ) → n < 20000 → n ≤ 20000
no_more n h = omega (arith, h)

pub returns-clause-before : goal.returns-clause-before
returns-clause-before g c setup events u x few =
    let answers : Answers = answer_of (g.E.Engine.statements_of c.args.engine.now) (g.E.Engine.step_of c.args.engine.now) in
    let w : World = world_after setup answers events new_world in
    record {
      each = returns-clause-each g c setup events u x (no_more (length events) few);
      idle = c.lends_idle.ensures setup answers c.engine_is_lawful.ensures events;
      small = small (length events) w few (c.few_of_each.ensures setup answers events);
    }

pub returns-clause-order : goal.returns-clause-order
returns-clause-order g c setup events =
    c.requests_in_order.ensures setup (answer_of (g.E.Engine.statements_of c.args.engine.now) (g.E.Engine.step_of c.args.engine.now)) events
