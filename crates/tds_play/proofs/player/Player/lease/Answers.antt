use Rattle.std.proofs.Common.{◌∙◌, length, ◌≤◌, refl, sym, ap, subst, arith}
use Rattle.tds_pool.specs.Calls.{lent_next}
use Rattle.tds_pool.specs.Connections.{connections}
use Rattle.tds_session.specs.Answer.{answer_of}
use Rattle.tds_world.specs.declared.event.Event.TheVariants as event
use Rattle.tds_world.specs.declared.outcome.Outcome.TheVariants.{Refused}
use Rattle.tds_world.specs.declared.outcome.Refusal.{Refusal}
use Rattle.tds_world.specs.declared.outcome.Refusal.TheVariants.{AllInUse}
use Rattle.tds_play.specs.declared.player.Player.{Player}
use Rattle.tds_play.specs.Pooled.{seated_from}
use Rattle.tds_play.specs.Seen.{done_as}
use Rattle.tds_play.proofs.pooled.Happening.{opens_happen, refuses_happen, steps_happen}
use Rattle.tds_play.proofs.pooled.Leasing.{again_steps, again_there, refused_found, refused_held}
use Rattle.tds_play.proofs.pooled.Opening.{LentAgain, lent_again_of, lent_new_of}
use Rattle.tds_play.proofs.pooled.Reusing.{reused_found}
use Rattle.tds_play.proofs.pooled.Steps.{for_told}
use Rattle.tds_play.proofs.player.Player.lease.Goals as goal

-- ---- One that was lent before

pub reuse-requires : goal.reuse-requires
reuse-requires g c =
    let old = c.args.self.now in
    let l : LentAgain c.in-Reused.conn c.in-Ok.given old.pool c.lease.new.self =
    lent_again_of c.in-Reused.conn c.in-Ok.given c.in-Ok.opened old.pool c.lease.new.self _ _ (lent_next (connections old.pool)) refl c.in-Ok.ensures.reused c.in-Ok.ensures.turn c.in-Ok.ensures.reset c.in-Ok.ensures.new c.in-Reused.is in
    let told = c.in_ok-begin_lease-in-Ok.ensures in
    let there = again_there c.in-Reused.conn c.in-Ok.given old c.lease.new.self c.requires.held l in
    record { there = (there.0, subst (λ (p : Player g.row.E.Denot g.row.E-Stmt.Denot). c.in-Reused.conn ≤ length p.links.items) (sym told.rest) there.1) }

pub returns-in-Reused : goal.returns-in-Reused
returns-in-Reused g c =
    let old = c.args.self.now in
    let pipes = g.C.EventCarrier.pipes c.args.carrier.now in
    let l : LentAgain c.in-Reused.conn c.in-Ok.given old.pool c.lease.new.self =
    lent_again_of c.in-Reused.conn c.in-Ok.given c.in-Ok.opened old.pool c.lease.new.self _ _ (lent_next (connections old.pool)) refl c.in-Ok.ensures.reused c.in-Ok.ensures.turn c.in-Ok.ensures.reset c.in-Ok.ensures.new c.in-Reused.is in
    let told = c.in_ok-begin_lease-in-Ok.ensures in
    let reuses = c.reuse.ensures.reuses in
    steps_happen (λ x. answer_of (g.E.Engine.statements_of x) (g.E.Engine.step_of x)) event.Lease reuses.place old c.reuse.new.self pipes pipes _ _ c.reuse.result c.requires.tied tt tt
    (λ setup engine w is idle. reused_found setup engine w reuses.place old l.connection pipes is c.requires.held idle l.lent (sym l.conn_is ∙ reuses.conn_is))
    (for_told _ event.Lease reuses.place old c.reuse.new.self pipes _ c.reuse.result
    (again_steps (λ x. answer_of (g.E.Engine.statements_of x) (g.E.Engine.step_of x)) c.pool_is_unseen.ensures c.idle_alike.ensures c.lends_matching.ensures.marked c.next-lease.result c.in-Reused.conn c.in-Ok.given old c.begin_lease.new.self c.reuse.new.self c.lease.new.self pipes c.reuse.result
    c.requires.held c.requires.few l c.next-lease.ensures told.rest told.leases reuses c.reuse.ensures.done c.requires.tied))

-- ---- A new one

pub returns-in_ok-done-in-New : goal.returns-in_ok-done-in-New
returns-in_ok-done-in-New g c =
    let old = c.args.self.now in
    let told = c.in_ok-begin_lease-in-Ok.ensures in
    opens_happen (λ x. answer_of (g.E.Engine.statements_of x) (g.E.Engine.step_of x)) c.next-lease.result c.in-New.conn c.in-Ok.given old c.begin_lease.new.self c.open.new.self c.lease.new.self (g.C.EventCarrier.pipes c.args.carrier.now) (g.C.EventCarrier.pipes c.open.new.carrier) _ _ c.in_ok-done-in-New.done
    c.requires.tied c.requires.held c.requires.few
    (lent_new_of c.in-New.conn c.in-Ok.given c.in-Ok.opened old.pool c.lease.new.self (lent_next (connections old.pool)) refl c.in-Ok.ensures.reused c.in-Ok.ensures.new c.in-Ok.ensures.first c.in-Ok.ensures.used c.in-Ok.ensures.allowed c.in-New.is)
    c.next-lease.ensures told.rest told.leases c.in_ok-done-in-New.ensures

-- ---- None

pub returns-in_ok-lends_not-in-Err : goal.returns-in_ok-lends_not-in-Err
returns-in_ok-lends_not-in-Err g c =
    let old = c.args.self.now in
    let pipes = g.C.EventCarrier.pipes c.args.carrier.now in
    refuses_happen (λ x. answer_of (g.E.Engine.statements_of x) (g.E.Engine.step_of x)) event.Lease AllInUse old (record old { pool = c.lease.new.self }) pipes _ c.refused.result
    c.requires.tied tt
    (λ setup engine w is idle. refused_found setup engine w old pipes _ is c.requires.held c.requires.few idle (λ some. let bad = c.in-Err.ensures.takes_none some in absurd (cc)) c.in_ok-lends_not-in-Err.ensures.some c.in-Err.ensures.refused)
    (refused_held old (record old { pool = c.lease.new.self }) c.requires.held refl c.in-Err.ensures.err.0 c.in-Err.ensures.err.1 refl refl
    (record { engine_is = refl; max_is = refl; size_is = refl; told_is = refl }))
    (ap (seated_from 1 old.links.items) c.in-Err.ensures.err.0) refl
    (record { leases_are = refl; tickets_are = refl; asked_are = refl })
    (record { engine_is = refl; max_is = refl; size_is = refl; told_is = refl })
    (λ most few. record { links_few = omega (arith, few.links_few); leases_few = omega (arith, few.leases_few); tickets_few = omega (arith, few.tickets_few) })
    (c.refused.ensures ∙ ap (λ (why : Refusal). done_as (Refused why)) c.in_ok-lends_not-in-Err.ensures.value)
