use Rattle.std.proofs.Common.{suc, ◌≡◌, ◌∙◌, List, Option, ap, refl, subst, sym}
use Rattle.tds_pool.specs.Connections.{PoolState, SameRest, connections}
use Rattle.tds_pool.specs.declared.lease.Ticket.{Ticket}
use Rattle.tds_session.specs.Answer.{answer_of}
use Rattle.tds_play.specs.Holdings.{ended_of, put_in}
use Rattle.tds_play.specs.declared.player.Player.{Player}
use Rattle.tds_play.proofs.pooled.Callers.{held_some}
use Rattle.tds_play.proofs.pooled.Ended.{put_back_in}
use Rattle.tds_play.proofs.pooled.Unseen.{read_at, slot_of}
use Rattle.tds_play.proofs.pooled.tickets.Resuming.{resumes_steps, unresumed_steps}
use Rattle.tds_play.proofs.player.Player.resume.Goals as goal

pub returns-in_ok-begin_lease-in-Ok : goal.returns-in_ok-begin_lease-in-Ok
returns-in_ok-begin_lease-in-Ok g c = λ pipes tied.
    let old = c.args.self.now in
    let said = c.in-Ok.ensures in
    let rest = c.in_ok-begin_lease-in-Ok.ensures.rest in
    resumes_steps (λ x. answer_of (g.E.Engine.statements_of x) (g.E.Engine.step_of x)) c.pool_is_unseen.ensures c.idle_alike.ensures c.lends_matching.ensures.marked c.args.place c.args.number c.next-next.result c.number-conn.result old c.begin_lease.new.self c.index_mut.result.now c.resume.new.self c.end-ticket.result c.in-Ok.lease pipes _
    c.requires.held c.requires.few (read_at old.links.items c.args.place c.index_mut.result.now c.requires.there c.index_mut.ensures.value)
    (slot_of _ old.tickets c.args.number _ c.end-ticket.result c.requires.kept c.end-ticket.ensures.taken)
    c.next-next.ensures c.number-conn.ensures
    (record {
      stamp = said.lent.0;
      number = said.lent.1;
      holder = said.lent.2;
      live = said.lent.3;
      shown = ap (λ (p : Player g.row.E.Denot g.row.E-Stmt.Denot). connections p.pool) rest ∙ said.lent.4;
      rest = subst (λ (p : PoolState). SameRest old.pool p) (sym (ap (λ (p : Player g.row.E.Denot g.row.E-Stmt.Denot). p.pool) rest)) said.rest;
      link = said.link;
    })
    (ap (λ (p : Player g.row.E.Denot g.row.E-Stmt.Denot). p.links.items) rest)
    c.in_ok-begin_lease-in-Ok.ensures.leases
    (ap (λ (p : Player g.row.E.Denot g.row.E-Stmt.Denot). p.tickets) rest ∙ c.end-ticket.ensures.left)
    (ap (λ (p : Player g.row.E.Denot g.row.E-Stmt.Denot). p.asked_on.items) rest)
    (record {
      engine_is = ap (λ (p : Player g.row.E.Denot g.row.E-Stmt.Denot). p.engine) rest;
      max_is = ap (λ (p : Player g.row.E.Denot g.row.E-Stmt.Denot). p.max) rest;
      size_is = ap (λ (p : Player g.row.E.Denot g.row.E-Stmt.Denot). p.size) rest;
      told_is = ap (λ (p : Player g.row.E.Denot g.row.E-Stmt.Denot). p.on_attention) rest;
    })
    c.done.ensures tied

pub returns-in-Err : goal.returns-in-Err
returns-in-Err g c = λ pipes tied.
    let old = c.args.self.now in
    let said = c.in-Err.ensures in
    let held_back : put_in (ended_of old.tickets c.args.number) c.args.number c.in-Err.ticket ≡ old.tickets =
    ap (put_in (ended_of old.tickets c.args.number) c.args.number) said.err.0 ∙ put_back_in old.tickets c.args.number c.end-ticket.result (sym c.end-ticket.ensures.taken) in
    unresumed_steps (λ x. answer_of (g.E.Engine.statements_of x) (g.E.Engine.step_of x)) c.idle_alike.ensures c.args.place c.args.number old _ c.index_mut.result.now c.resume.new.self c.end-ticket.result c.in-Err.refusal pipes _
    c.requires.held (read_at old.links.items c.args.place c.index_mut.result.now c.requires.there c.index_mut.ensures.value)
    (slot_of _ old.tickets c.args.number _ c.end-ticket.result c.requires.kept c.end-ticket.ensures.taken)
    (record { same = said.err.1; pool = said.err.2; cut = said.cut; live = λ live none. cc (said.live live none) })
    refl refl (c.put.ensures ∙ ap (λ (ts : List (Option Ticket)). put_in ts c.args.number c.in-Err.ticket) c.end-ticket.ensures.left ∙ held_back) refl
    (record { engine_is = refl; max_is = refl; size_is = refl; told_is = refl })
    c.refused.ensures tied

pub end-ticket-requires : goal.end-ticket-requires
end-ticket-requires g c = held_some (λ (x : Ticket). x.number) c.args.self.now.tickets c.args.number (suc c.args.place) c.requires.kept
