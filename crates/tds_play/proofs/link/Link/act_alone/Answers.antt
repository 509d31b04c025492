use Rattle.std.proofs.Common.{◌∙◌, ap, ℕ, Ok, refl}
use Rattle.tds_session.specs.Answer.{Answers, answer_of}
use Rattle.tds_world.specs.declared.event.Event.TheVariants as event
use Rattle.tds_play.specs.Stepping.{link_event}
use Rattle.tds_play.specs.Seats.{seated}
use Rattle.tds_play.proofs.Acting.{down_act, plain_act, up_act, whole_act}
use Rattle.tds_play.specs.Failures.{calls_of}
use Rattle.tds_play.proofs.Failing.{whole_as}
use Rattle.tds_play.proofs.Tying.{may_lose}
use Rattle.tds_world.specs.declared.event.Event.{Event}
use Rattle.tds_play.specs.Reads.{delivers}
use Rattle.tds_play.proofs.any_bytes.Brought.{still_ok, still_on}
use Rattle.tds_pool.specs.Cleaning.{client_at}
use Rattle.tds_pool.specs.Connections.{connections}
use Rattle.tds_play.proofs.pooled.Clients.{no_change, on_any}
use Rattle.tds_play.proofs.link.Link.act_alone.Goals as goal

pub returns-in-Work-clause-refines : goal.returns-in-Work-clause-refines
returns-in-Work-clause-refines g c = λ setup w m engine p faithful played promises few.
    let answers : Answers = answer_of (g.E.Engine.statements_of engine) (g.E.Engine.step_of engine) in
    plain_act setup answers w (link_event c.args.step) c.work.new.self (client_at c.args.self.now.number (connections c.args.pool.now)) (g.C.EventCarrier.pipes c.work.new.carrier c.args.self.now.number) c.work.result played c.requires.live _ (ap link_event c.in-Work.is) (λ k. refl) few
    (λ most. c.work.ensures.refines setup.packet_size engine (seated p (client_at c.args.self.now.number (connections c.args.pool.now))) m played promises.ends promises.newest promises.works_past most.1)

pub returns-in-ToServer-clause-refines : goal.returns-in-ToServer-clause-refines
returns-in-ToServer-clause-refines g c = λ setup w m engine p faithful played promises few.
    let answers : Answers = answer_of (g.E.Engine.statements_of engine) (g.E.Engine.step_of engine) in
    up_act setup answers w (link_event c.args.step) c.deliver_to_server.new.self (client_at c.args.self.now.number (connections c.args.pool.now)) (g.C.EventCarrier.pipes c.deliver_to_server.new.carrier c.args.self.now.number) c.deliver_to_server.result played c.requires.live _ _ (ap link_event c.in-ToServer.is) few
    (c.deliver_to_server.ensures.refines setup.packet_size engine (seated p (client_at c.args.self.now.number (connections c.args.pool.now))) m faithful played promises)

pub returns-in-ToClient-clause-refines : goal.returns-in-ToClient-clause-refines
returns-in-ToClient-clause-refines g c = λ setup w m engine p faithful played promises few.
    let answers : Answers = answer_of (g.E.Engine.statements_of engine) (g.E.Engine.step_of engine) in
    down_act setup answers w (link_event c.args.step) c.deliver_to_client.new.self (client_at c.args.self.now.number (connections c.deliver_to_client.new.pool)) (g.C.EventCarrier.pipes c.deliver_to_client.new.carrier c.args.self.now.number) c.deliver_to_client.result played c.requires.live _ _ (ap link_event c.in-ToClient.is)
    (c.deliver_to_client.ensures.refines answers setup.packet_size engine p m faithful played promises)

pub returns-in-Cut-clause-refines : goal.returns-in-Cut-clause-refines
returns-in-Cut-clause-refines g c = λ setup w m engine p faithful played promises few.
    let answers : Answers = answer_of (g.E.Engine.statements_of engine) (g.E.Engine.step_of engine) in
    whole_act {B = ⊥} setup answers w (link_event c.args.step) c.cut.new.self (client_at c.args.self.now.number (connections c.args.pool.now)) (g.C.EventCarrier.pipes c.cut.new.carrier c.args.self.now.number) (Ok c.done.result) played c.requires.live (event.Cut _) (ap link_event c.in-Cut.is)
    (c.done.ensures, c.cut.ensures.refines setup.packet_size engine (seated p (client_at c.args.self.now.number (connections c.args.pool.now))) m played c.requires.live)

pub returns-in-Work-clause-failed : goal.returns-in-Work-clause-failed
returns-in-Work-clause-failed g c = rw c.in-Work.is c.work.ensures.failed

pub returns-in-ToServer-clause-failed : goal.returns-in-ToServer-clause-failed
returns-in-ToServer-clause-failed g c = rw c.in-ToServer.is c.deliver_to_server.ensures.failed

pub returns-in-ToClient-clause-failed : goal.returns-in-ToClient-clause-failed
returns-in-ToClient-clause-failed g c = rw c.in-ToClient.is c.deliver_to_client.ensures.failed

pub returns-in-Cut-clause-failed : goal.returns-in-Cut-clause-failed
returns-in-Cut-clause-failed g c = λ fine.
    whole_as (calls_of (link_event c.args.step)) c.done.result c.cut.new.self (g.C.EventCarrier.pipes c.cut.new.carrier c.args.self.now.number) (ap (λ d. d.lost) c.done.ensures)
    (λ call. c.cut.ensures.failed call ∙ fine call)

pub returns-in-Work-clause-reads : goal.returns-in-Work-clause-reads
returns-in-Work-clause-reads g c = λ size reads.
    still_ok size (link_event c.args.step) _ c.work.result c.args.self.now c.work.new.self (client_at c.args.self.now.number (connections c.args.pool.now)).columns (client_at c.args.self.now.number (connections c.args.pool.now)).columns (g.C.EventCarrier.pipes c.args.carrier.now c.args.self.now.number) (g.C.EventCarrier.pipes c.work.new.carrier c.args.self.now.number) (ap link_event c.in-Work.is) (λ d. refl) reads c.work.ensures.still refl

pub returns-in-ToServer-clause-reads : goal.returns-in-ToServer-clause-reads
returns-in-ToServer-clause-reads g c = λ size reads. rw c.in-ToServer.is (c.deliver_to_server.ensures.reads size _ (client_at c.args.self.now.number (connections c.args.pool.now)).columns reads)

pub returns-in-ToClient-clause-reads : goal.returns-in-ToClient-clause-reads
returns-in-ToClient-clause-reads g c = λ size reads. rw c.in-ToClient.is (c.deliver_to_client.ensures.reads size _ reads)

pub returns-in-Cut-clause-reads : goal.returns-in-Cut-clause-reads
returns-in-Cut-clause-reads g c = λ size reads.
    let conn : ℕ = c.args.self.now.number in
    still_on size (link_event c.args.step) c.done.result.outcome c.args.self.now c.cut.new.self (client_at c.args.self.now.number (connections c.args.pool.now)).columns (client_at c.args.self.now.number (connections c.args.pool.now)).columns (g.C.EventCarrier.pipes c.args.carrier.now conn) (g.C.EventCarrier.pipes c.cut.new.carrier conn)
    (λ d. ap (λ (e : Event). delivers e d) (ap link_event c.in-Cut.is)) reads c.cut.ensures.still refl

pub returns-in-Work-clause-loses : goal.returns-in-Work-clause-loses
returns-in-Work-clause-loses g c = may_lose c.work.result (link_event c.args.step) _ (ap link_event c.in-Work.is) tt

pub returns-in-ToServer-clause-loses : goal.returns-in-ToServer-clause-loses
returns-in-ToServer-clause-loses g c = may_lose c.deliver_to_server.result (link_event c.args.step) _ (ap link_event c.in-ToServer.is) tt

pub returns-in-ToClient-clause-loses : goal.returns-in-ToClient-clause-loses
returns-in-ToClient-clause-loses g c = may_lose c.deliver_to_client.result (link_event c.args.step) _ (ap link_event c.in-ToClient.is) tt

pub returns-in-Work-clause-client : goal.returns-in-Work-clause-client
returns-in-Work-clause-client g c = on_any c.work.result _ (no_change c.args.self.now.number c.args.pool.now)

pub returns-in-ToServer-clause-client : goal.returns-in-ToServer-clause-client
returns-in-ToServer-clause-client g c = on_any c.deliver_to_server.result _ (no_change c.args.self.now.number c.args.pool.now)

pub returns-in-Cut-clause-client : goal.returns-in-Cut-clause-client
returns-in-Cut-clause-client g c = no_change c.args.self.now.number c.args.pool.now
