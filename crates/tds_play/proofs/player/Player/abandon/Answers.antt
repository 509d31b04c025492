use Rattle.std.proofs.Common.{◌∙◌, suc, refl, sym, ap, subst}
use Rattle.tds_session.specs.Answer.{answer_of}
use Rattle.tds_pool.specs.declared.lease.Ticket.{Ticket}
use Rattle.tds_world.specs.declared.event.Event.{Event}
use Rattle.tds_world.specs.declared.event.Event.TheVariants as event
use Rattle.tds_play.specs.Failures.{calls_of}
use Rattle.tds_play.specs.Plays.{RefinesAct, acts_on, loss_of}
use Rattle.tds_play.specs.Pooled.{seat_in}
use Rattle.tds_play.specs.declared.seat.Held.{Held}
use Rattle.tds_play.proofs.Failing.{whole_as}
use Rattle.tds_play.proofs.pooled.Callers.{held_some}
use Rattle.tds_play.proofs.pooled.There.{stands_there}
use Rattle.tds_play.proofs.pooled.Ending.{kept_there, met_abandoned, spared_others, ticket_ends, ticket_ends_few, ticket_ends_noted}
use Rattle.tds_play.proofs.pooled.Unseen.{slot_of, touched_steps}
use Rattle.tds_play.proofs.player.Player.abandon.Goals as goal

pub abandon-requires : goal.abandon-requires
abandon-requires g c =
    let old = c.args.self.now in
    let stands = stands_there old c.args.place c.index_mut.result.now (g.C.EventCarrier.pipes c.args.carrier.now) c.requires.tied c.requires.held c.requires.there c.index_mut.ensures.value in
    let slot = slot_of (λ (t : Ticket). t.number) old.tickets c.args.number (suc c.args.place) c.end-ticket.result c.requires.kept c.end-ticket.ensures.taken in
    record {
      tied = stands.tied;
      there = stands.there;
      named = slot.conn_is ∙ sym stands.number;
      known = kept_there old c.args.place c.args.number c.end-ticket.result c.index_mut.result.now c.requires.held stands.at slot;
    }

pub returns : goal.returns
returns g c =
    let old = c.args.self.now in
    let h = c.index_mut.result.now in
    let k = c.abandon.new.self in
    let said = c.abandon.ensures in
    let pipes = g.C.EventCarrier.pipes in
    let stands = stands_there old c.args.place h (pipes c.args.carrier.now) c.requires.tied c.requires.held c.requires.there c.index_mut.ensures.value in
    let slot = slot_of (λ (t : Ticket). t.number) old.tickets c.args.number (suc c.args.place) c.end-ticket.result c.requires.kept c.end-ticket.ensures.taken in
    touched_steps (λ x. answer_of (g.E.Engine.statements_of x) (g.E.Engine.step_of x)) (event.Abandon c.args.number) c.args.place old _ h k (pipes c.args.carrier.now) (pipes c.abandon.new.carrier) _ _ c.abandon.result c.requires.tied stands.at said.number refl
    (spared_others c.args.place h k old.pool c.abandon.new.pool stands.number said.pool)
    (ticket_ends c.args.place c.args.number old _ h k c.end-ticket.result c.requires.held stands.at stands.number said.number slot said.pool said.there
    (λ cut. ap (λ (x : Held g.row.E.Denot g.row.E-Stmt.Denot). x.link.is_cut) (said.gone cut).1 ∙ cut) refl refl c.end-ticket.ensures.left (record { engine_is = refl; max_is = refl; size_is = refl; told_is = refl }))
    (said.ties)
    (λ fine. whole_as (calls_of (event.Abandon c.args.number)) c.abandon.result k.link (pipes c.abandon.new.carrier h.link.number) said.whole (λ call. said.failed call ∙ fine call))
    (λ cut. (ap pipes (said.gone cut).0, ap (λ (x : Held g.row.E.Denot g.row.E-Stmt.Denot). x.link) (said.gone cut).1, said.whole))
    (λ lost. absurd (cc))
    (λ size reads. said.reads size c.args.number reads)
    (record { engine_is = refl; max_is = refl; size_is = refl; told_is = refl })
    (ticket_ends_few c.args.place c.args.number old _ k refl refl c.end-ticket.ensures.left)
    (ticket_ends_noted c.args.number (suc c.args.place) old _ c.abandon.result.outcome said.told refl c.end-ticket.ensures.left refl)
    (λ setup engine w m told is promised promise played ready counts.
    subst (λ (e : Event). RefinesAct h.link.number setup.packet_size engine c.abandon.result k.link (seat_in k c.abandon.new.pool) (pipes c.abandon.new.carrier h.link.number) (acts_on setup (answer_of (g.E.Engine.statements_of engine) (g.E.Engine.step_of engine)) w e h.link.number m) m)
    (sym (met_abandoned (loss_of c.abandon.result) c.args.number)) (said.refines setup w c.args.number m engine played ready))

pub end-ticket-requires : goal.end-ticket-requires
end-ticket-requires g c = held_some (λ (x : Ticket). x.number) c.args.self.now.tickets c.args.number (suc c.args.place) c.requires.kept
