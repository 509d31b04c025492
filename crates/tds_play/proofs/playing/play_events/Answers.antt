use Rattle.std.proofs.Common.{◌∙◌, List, subst, sym}
use Rattle.tds_session.specs.Answer.{Answers, answer_of}
use Rattle.tds_world.specs.Losses.{marked}
use Rattle.tds_world.specs.WithLosses.{MarksNothing}
use Rattle.tds_world.specs.declared.report.EventReport.{EventReport}
use Rattle.tds_world.specs.declared.report.RequestReport.{RequestReport}
use Rattle.tds_play.specs.Calls.{MakesCalls}
use Rattle.tds_play.specs.AnyBytes.{ReadsBytes}
use Rattle.tds_play.specs.Failures.{TellFailures}
use Rattle.tds_play.specs.WholePlay.{IsReportOfPlay}
use Rattle.tds_play.proofs.playing.play_events.Goals as goal

pub returns-clause-unfailing : goal.returns-clause-unfailing
returns-clause-unfailing g c = λ setup is faithful play fine.
    subst (λ (rs : List EventReport). MarksNothing (record { events = rs; requests = c.new-2.result })) (sym c.new.ensures)
    (c.in_ok-reports.ensures.unfailing setup c.new-2.result is faithful play fine)

pub returns-clause-lost : goal.returns-clause-lost
returns-clause-lost g c = λ setup is faithful play.
    let engine = c.args.player.engine in
    subst (λ (rs : List EventReport). TellFailures setup (answer_of (g.E.Engine.statements_of engine) (g.E.Engine.step_of engine)) (marked c.args.events.now rs) (g.C.EventCarrier.pipes c.run-reports.new.carrier)) (sym c.new.ensures)
    (c.in_ok-reports.ensures.lost setup is faithful play)

pub returns-clause-calls : goal.returns-clause-calls
returns-clause-calls g c = λ setup is faithful play.
    let engine = c.args.player.engine in
    subst (λ (rs : List EventReport). MakesCalls g.C.EventCarrier.is_told setup (answer_of (g.E.Engine.statements_of engine) (g.E.Engine.step_of engine)) (marked c.args.events.now rs)
    (g.C.EventCarrier.began c.args.carrier.now) (g.C.EventCarrier.began c.run-reports.new.carrier) (g.C.EventCarrier.pipes c.run-reports.new.carrier)) (sym c.new.ensures)
    (c.in_ok-reports.ensures.calls setup is faithful play)

pub returns-clause-reads : goal.returns-clause-reads
returns-clause-reads g c =
    let all = c.in_ok-reports.ensures.reads c.in_ok-requests.field-0.items c.in_ok-requests.ensures.given in
    subst (λ (rs : List EventReport). ReadsBytes c.args.player.size c.args.events.now (record { events = rs; requests = c.new-2.result }) (g.C.EventCarrier.pipes c.run-reports.new.carrier)) (sym c.new.ensures)
    (subst (λ (qs : List RequestReport). ReadsBytes c.args.player.size c.args.events.now (record { events = c.in_ok-reports.field-0.items; requests = qs }) (g.C.EventCarrier.pipes c.run-reports.new.carrier)) (sym c.new-2.ensures) all)

pub returns-clause-refines : goal.returns-clause-refines
returns-clause-refines g c = λ setup is faithful play.
    let engine = c.args.player.engine in
    let answers : Answers = answer_of (g.E.Engine.statements_of engine) (g.E.Engine.step_of engine) in
    let pipes = g.C.EventCarrier.pipes c.run-reports.new.carrier in
    let stands = c.in_ok-reports.ensures.stands setup is faithful play in
    subst (λ (rs : List EventReport). IsReportOfPlay setup answers c.args.events.now (record { events = rs; requests = c.new-2.result }) pipes) (sym c.new.ensures)
    (stands.whole c.new-2.result (c.new-2.ensures ∙ c.in_ok-requests.ensures.told setup engine pipes _ stands.world stands.order))
