use Rattle.tds_session.specs.Answer.{answer_of}
use Rattle.tds_ends.proofs.Said as said
use Rattle.tds_ends.proofs.laws.answers_are_said.Goals as goal

pub returns : goal.returns
returns g c =
    said.answers_said (answer_of (g.E.Engine.statements_of c.args.engine.now) (g.E.Engine.step_of c.args.engine.now))
    c.engine_is_lawful.ensures c.engine_has_dones.ensures
