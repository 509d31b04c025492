use Rattle.std.proofs.Common.{◌≡◌, ◌∙◌, ℕ, Option, refl, sym, ap, subst}
use Rattle.std.specs.Prelude.{IfOk}
use Rattle.tds_client.specs.Session.{ClientSession}
use Rattle.tds_pool.specs.Cleaning.{client_at}
use Rattle.tds_pool.specs.Connections.{PoolState, connections, numbered}
use Rattle.tds_pool.specs.Lends.{with_client_numbered}
use Rattle.tds_session.specs.Answer.{answer_of}
use Rattle.tds_world.specs.Losses.{met}
use Rattle.tds_play.specs.Pipe.{Pipe}
use Rattle.tds_play.specs.Plays.{RefinesAct, RepresentsConnection, acts_on, loss_of}
use Rattle.tds_play.specs.Reads.{IsReading, ReadsOn}
use Rattle.tds_play.specs.Seats.{placed_behind, seated}
use Rattle.tds_play.specs.Stepping.{caller_event}
use Rattle.tds_play.proofs.pooled.Clients.{client_at_is, client_put, on_any, with}
use Rattle.tds_play.proofs.pooled.Numbers.{IsIn}
use Rattle.tds_play.proofs.pooled.Settled.{client_found, in_of, lent_client, lent_there}
use Rattle.tds_play.proofs.link.Link.act.Goals as goal

pub returns-in-Some-clause-client : goal.returns-in-Some-clause-client
returns-in-Some-clause-client g c =
    let n : ℕ = c.args.self.now.number in
    let s : ClientSession = c.act_by_caller.new.client in
    on_any c.act_by_caller.result _
    (client_put n s c.args.pool.now (with_client_numbered c.args.pool.now n s)
    (c.at.ensures.writes s (lent_there n (connections c.args.pool.now) c.in-Some.client.now c.in-Some.ensures.value))
    (record { name = refl; max = refl; size = refl; last = refl }))

pub returns-in-Some-clause-reads : goal.returns-in-Some-clause-reads
returns-in-Some-clause-reads g c = λ size reads.
    let n : ℕ = c.args.self.now.number in
    let pcs = connections c.args.pool.now in
    let s : ClientSession = c.act_by_caller.new.client in
    let mid : PoolState = with_client_numbered c.args.pool.now n s in
    let it : IsIn n pcs = in_of n pcs c.requires.there in
    let before : client_at n pcs ≡ c.in-Some.client.now = client_at_is n pcs it.connection it.there ∙ sym (lent_client n pcs it.connection c.in-Some.client.now it.there c.in-Some.ensures.value) in
    let after : client_at n (connections mid) ≡ s =
    client_at_is n (connections mid) (with s it.connection)
    (ap (numbered n) (c.at.ensures.writes s (lent_there n pcs c.in-Some.client.now c.in-Some.ensures.value)) ∙ client_found n s pcs it.connection it.there) in
    let old : Option Pipe = g.C.EventCarrier.pipes c.args.carrier.now n in
    rw c.in-OfCaller.is (subst (λ (x : ClientSession). IfOk c.act_by_caller.result (λ done. ReadsOn size (caller_event c.in-OfCaller.step) done.outcome c.act_by_caller.new.self x.columns old (g.C.EventCarrier.pipes c.act_by_caller.new.carrier n))) (sym after)
    (c.act_by_caller.ensures.reads size (subst (λ (x : ClientSession). IsReading size c.args.self.now x.columns old) before reads)))

pub returns-in-Some-clause-refines : goal.returns-in-Some-clause-refines
returns-in-Some-clause-refines g c = λ setup w m engine p faithful played promises few next.
    let n : ℕ = c.args.self.now.number in
    let pcs = connections c.args.pool.now in
    let s : ClientSession = c.act_by_caller.new.client in
    let mid : PoolState = with_client_numbered c.args.pool.now n s in
    let it : IsIn n pcs = in_of n pcs c.requires.there in
    let before : client_at n pcs ≡ c.in-Some.client.now = client_at_is n pcs it.connection it.there ∙ sym (lent_client n pcs it.connection c.in-Some.client.now it.there c.in-Some.ensures.value) in
    let after : client_at n (connections mid) ≡ s =
    client_at_is n (connections mid) (with s it.connection)
    (ap (numbered n) (c.at.ensures.writes s (lent_there n pcs c.in-Some.client.now c.in-Some.ensures.value)) ∙ client_found n s pcs it.connection it.there) in
    let old : Option Pipe = g.C.EventCarrier.pipes c.args.carrier.now n in
    rw c.in-OfCaller.is (subst (λ (x : ClientSession). IfOk c.act_by_caller.result (λ done. RefinesAct n setup.packet_size engine done c.act_by_caller.new.self (seated (placed_behind (caller_event c.in-OfCaller.step) x p) x) (g.C.EventCarrier.pipes c.act_by_caller.new.carrier n) (acts_on setup (answer_of (g.E.Engine.statements_of engine) (g.E.Engine.step_of engine)) w (met (loss_of done) (caller_event c.in-OfCaller.step)) n m) m)) (sym after)
    (c.act_by_caller.ensures.refines setup w m engine p faithful (subst (λ (x : ClientSession). RepresentsConnection n setup.packet_size engine c.args.self.now (seated p x) old m) before played) promises (rw c.in-OfCaller.is at few) next))

pub returns-in-Some-clause-failed : goal.returns-in-Some-clause-failed
returns-in-Some-clause-failed g c = rw c.in-OfCaller.is c.act_by_caller.ensures.failed

pub returns-in-Some-clause-loses : goal.returns-in-Some-clause-loses
returns-in-Some-clause-loses g c = rw c.in-OfCaller.is c.act_by_caller.ensures.loses

-- ---- Without its caller

pub returns-in-OfLink-clause-failed : goal.returns-in-OfLink-clause-failed
returns-in-OfLink-clause-failed g c = rw c.in-OfLink.is c.act_alone.ensures.failed

pub returns-in-OfLink-clause-loses : goal.returns-in-OfLink-clause-loses
returns-in-OfLink-clause-loses g c = rw c.in-OfLink.is c.act_alone.ensures.loses

pub returns-in-OfLink-clause-reads : goal.returns-in-OfLink-clause-reads
returns-in-OfLink-clause-reads g c = rw c.in-OfLink.is c.act_alone.ensures.reads

pub returns-in-OfLink-clause-refines : goal.returns-in-OfLink-clause-refines
returns-in-OfLink-clause-refines g c = λ setup w m engine p faithful played promises few next. rw c.in-OfLink.is (c.act_alone.ensures.refines setup w m engine p faithful played promises (rw c.in-OfLink.is at few))
