use Rattle.tds_session.specs.Answer.{script_answers}
use Rattle.tds_world.specs.Losses.{marked}
use Rattle.tds_trace.proofs.Traced.{calls_of_play}
use Rattle.tds_trace.proofs.tracing.play_traced.Goals as goal

pub returns-clause-calls : goal.returns-clause-calls
returns-clause-calls c =
    let faithful = c.memory_is_faithful.ensures c.play.new.carrier.inner in
    let sound = c.memory_never_fails.ensures c.play.new.carrier.inner in
    let told = c.in_ok-report.ensures in
    calls_of_play c.args.setup.now c.args.events.now c.in_ok-report.report _ c.in_ok-calls.calls.items
    (told.whole faithful (told.unfailing faithful sound)) (told.bytes faithful) (told.carried faithful) c.in_ok-calls.ensures.all

pub returns-clause-turns : goal.returns-clause-turns
returns-clause-turns c =
    let faithful = c.memory_is_faithful.ensures c.play.new.carrier.inner in
    let calls = c.in_ok-report.ensures.calls faithful in
    c.record_of_a_play.ensures c.args.setup.now script_answers (marked c.args.events.now c.in_ok-report.report.events) c.play.new.carrier.event c.in_ok-calls.calls.items
    _ _ (rw c.new-carrier.ensures.untold at calls) c.in_ok-calls.ensures.turns
