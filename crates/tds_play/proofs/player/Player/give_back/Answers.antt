use Rattle.std.proofs.Common.{◌∙◌, suc, List, Option, refl, sym, ap, subst}
use Rattle.tds_session.specs.Answer.{answer_of}
use Rattle.tds_pool.specs.declared.lease.Lease.{Lease}
use Rattle.tds_world.specs.declared.event.Event.{Event}
use Rattle.tds_world.specs.declared.event.Event.TheVariants as event
use Rattle.tds_play.specs.Plays.{RefinesAct, acts_on, loss_of}
use Rattle.tds_play.specs.Pooled.{seat_in}
use Rattle.tds_play.specs.declared.seat.Held.{Held}
use Rattle.tds_world.specs.World.{numbered}
use Rattle.tds_play.proofs.pooled.Callers.{held_some}
use Rattle.tds_play.proofs.pooled.There.{stands_there, unasked_there}
use Rattle.tds_play.proofs.pooled.Ending.{lent_there, met_back, spared_others, lease_ends, lease_ends_few, lease_ends_noted, taken_slot}
use Rattle.tds_play.proofs.pooled.Unseen.{slot_of, touched_steps}
use Rattle.tds_play.proofs.player.Player.give_back.Goals as goal

pub give_back-requires : goal.give_back-requires
give_back-requires g c =
    let old = c.args.self.now in
    let stands = stands_there old c.args.place c.index_mut.result.now (g.C.EventCarrier.pipes c.args.carrier.now) c.requires.tied c.requires.held c.requires.there c.index_mut.ensures.value in
    let slot = slot_of (λ (l : Lease). l.number) old.leases c.args.number (suc c.args.place) c.end-lease.result c.requires.lent c.end-lease.ensures.taken in
    record {
      tied = stands.tied;
      unasked = unasked_there old c.args.place c.index_mut.result.now (g.C.EventCarrier.began c.args.carrier.now) (g.C.EventCarrier.pipes c.args.carrier.now) c.requires.tied c.requires.told c.requires.sound stands.at;
      there = stands.there;
      named = slot.conn_is ∙ sym stands.number;
      lent = lent_there old c.args.place c.args.number c.end-lease.result c.index_mut.result.now c.requires.held stands.at slot;
    }

pub put-requires : goal.put-requires
put-requires g c =
    let old = c.args.self.now in
    let slot = slot_of (λ (l : Lease). l.number) old.leases c.args.number (suc c.args.place) c.end-lease.result c.requires.lent c.end-lease.ensures.taken in
    ap (λ (ls : List (Option Lease)). numbered ls c.args.number) c.end-lease.ensures.left ∙ taken_slot (λ (l : Lease). l.number) old.leases c.args.number (suc c.args.place) c.end-lease.result slot

pub returns-in-Ok : goal.returns-in-Ok
returns-in-Ok g c =
    let old = c.args.self.now in
    let h = c.index_mut.result.now in
    let k = c.give_back.new.self in
    let done = c.in-Ok.done in
    let said = c.in-Ok.ensures in
    let pipes = g.C.EventCarrier.pipes in
    let stands = stands_there old c.args.place h (pipes c.args.carrier.now) c.requires.tied c.requires.held c.requires.there c.index_mut.ensures.value in
    let slot = slot_of (λ (l : Lease). l.number) old.leases c.args.number (suc c.args.place) c.end-lease.result c.requires.lent c.end-lease.ensures.taken in
    touched_steps (λ x. answer_of (g.E.Engine.statements_of x) (g.E.Engine.step_of x)) (event.GiveBack c.args.number) c.args.place old _ h k (pipes c.args.carrier.now) (pipes c.give_back.new.carrier) _ _ done c.requires.tied stands.at said.number refl
    (spared_others c.args.place h k old.pool c.give_back.new.pool stands.number said.pool)
    (lease_ends c.args.place c.args.number old _ h k c.end-lease.result c.requires.held stands.at stands.number said.number slot said.pool said.there
    (λ cut. ap (λ (x : Held g.row.E.Denot g.row.E-Stmt.Denot). x.link.is_cut) (said.gone cut).1 ∙ cut) refl c.end-lease.ensures.left refl (record { engine_is = refl; max_is = refl; size_is = refl; told_is = refl }))
    (said.ties)
    (said.failed c.args.number)
    (λ cut. (ap pipes (said.gone cut).0, ap (λ (x : Held g.row.E.Denot g.row.E-Stmt.Denot). x.link) (said.gone cut).1, (said.gone cut).3))
    (said.loses c.args.number)
    (λ size reads. said.reads size c.args.number reads)
    (record { engine_is = refl; max_is = refl; size_is = refl; told_is = refl })
    (lease_ends_few c.args.place c.args.number old _ k refl c.end-lease.ensures.left refl)
    (lease_ends_noted c.args.number (suc c.args.place) old _ done.outcome said.told c.end-lease.ensures.left refl refl)
    (λ setup engine w m told is promised promise played ready counts.
    subst (λ (e : Event). RefinesAct h.link.number setup.packet_size engine done k.link (seat_in k c.give_back.new.pool) (pipes c.give_back.new.carrier h.link.number) (acts_on setup (answer_of (g.E.Engine.statements_of engine) (g.E.Engine.step_of engine)) w e h.link.number m) m)
    (sym (met_back (loss_of done) c.args.number)) (said.refines setup w c.args.number m engine played (counts 0)))

pub end-lease-requires : goal.end-lease-requires
end-lease-requires g c = held_some (λ (x : Lease). x.number) c.args.self.now.leases c.args.number (suc c.args.place) c.requires.lent
