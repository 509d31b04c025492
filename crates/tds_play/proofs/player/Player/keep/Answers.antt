use Rattle.std.proofs.Common.{suc, ◌≡◌, ◌∙◌, List, Option, ap, refl, sym}
use Rattle.tds_pool.specs.declared.lease.Lease.{Lease}
use Rattle.tds_session.specs.Answer.{answer_of}
use Rattle.tds_play.proofs.pooled.Callers.{held_some}
use Rattle.tds_play.proofs.pooled.tickets.Keeping.{keeps_steps, unkept_steps}
use Rattle.tds_play.proofs.pooled.Ended.{put_back_in}
use Rattle.tds_play.specs.Holdings.{ended_of, put_in}
use Rattle.tds_play.proofs.pooled.Unseen.{read_at, slot_of}
use Rattle.tds_play.proofs.player.Player.keep.Goals as goal

pub returns-in_ok-give-in-Ok : goal.returns-in_ok-give-in-Ok
returns-in_ok-give-in-Ok g c = λ pipes tied.
    let old = c.args.self.now in
    let said = c.in-Ok.ensures in
    keeps_steps (λ x. answer_of (g.E.Engine.statements_of x) (g.E.Engine.step_of x)) c.pool_is_unseen.ensures c.idle_alike.ensures c.args.place c.args.number c.next-next.result old _ c.index_mut.result.now c.keep.new.self c.end-lease.result c.in-Ok.ticket pipes _
    c.requires.held c.requires.few (read_at old.links.items c.args.place c.index_mut.result.now c.requires.there c.index_mut.ensures.value)
    (slot_of _ old.leases c.args.number _ c.end-lease.result c.requires.lent c.end-lease.ensures.taken)
    c.next-next.ensures
    (record { stamp = said.kept.0; number = said.kept.1; holder = said.kept.2; live = said.kept.3; allowed = said.kept.4; shown = said.kept.5; rest = said.rest; link = said.link })
    refl c.end-lease.ensures.left c.in_ok-give-in-Ok.ensures refl
    (record { engine_is = refl; max_is = refl; size_is = refl; told_is = refl })
    c.done.ensures tied

pub returns-in-Err : goal.returns-in-Err
returns-in-Err g c = λ pipes tied.
    let old = c.args.self.now in
    let said = c.in-Err.ensures in
    let held_back : put_in (ended_of old.leases c.args.number) c.args.number c.in-Err.lease ≡ old.leases =
    ap (put_in (ended_of old.leases c.args.number) c.args.number) said.err.0 ∙ put_back_in old.leases c.args.number c.end-lease.result (sym c.end-lease.ensures.taken) in
    unkept_steps (λ x. answer_of (g.E.Engine.statements_of x) (g.E.Engine.step_of x)) c.pool_is_unseen.ensures c.idle_alike.ensures c.args.place c.args.number old _ c.index_mut.result.now c.keep.new.self c.end-lease.result c.in-Err.refusal pipes _
    c.requires.held (read_at old.links.items c.args.place c.index_mut.result.now c.requires.there c.index_mut.ensures.value)
    (slot_of _ old.leases c.args.number _ c.end-lease.result c.requires.lent c.end-lease.ensures.taken)
    (record { same = said.err.1; pool = said.err.2; cut = said.cut; refused = said.refused; live = λ live none. cc (said.live live none) })
    refl (c.put.ensures ∙ ap (λ (ls : List (Option Lease)). put_in ls c.args.number c.in-Err.lease) c.end-lease.ensures.left ∙ held_back) refl refl
    (record { engine_is = refl; max_is = refl; size_is = refl; told_is = refl })
    c.refused.ensures tied

pub end-lease-requires : goal.end-lease-requires
end-lease-requires g c = held_some (λ (x : Lease). x.number) c.args.self.now.leases c.args.number (suc c.args.place) c.requires.lent
