use Rattle.std.proofs.Common.{◌≡◌, ◌∙◌, ℕ, true, false, List, Option, Some, refl, sym, ap, subst}
use Rattle.tds_pool.specs.Calls.{Returned, abandoned, all_numbers, is_idle, is_kept_for, kept_for}
use Rattle.tds_pool.specs.Connections.{Connection, PoolState, SameRest, connections, numbered, taken_out}
use Rattle.tds_session.specs.Answer.{Answers, answer_of}
use Rattle.tds_world.specs.Pool.{abandons}
use Rattle.tds_world.specs.declared.event.Event.TheVariants as event
use Rattle.tds_world.specs.declared.report.Place.TheVariants.{Free}
use Rattle.tds_play.specs.Pipe.{Pipe}
use Rattle.tds_play.specs.Plays.{RefinesAct}
use Rattle.tds_play.specs.Pooled.{rests_in, seat_by, seat_in}
use Rattle.tds_play.specs.Seats.{Seat, placed_at}
use Rattle.tds_play.proofs.Acting.{abandoned_alike, acts_there, stands_in}
use Rattle.tds_play.proofs.any_bytes.Brought.{still_on}
use Rattle.tds_play.proofs.any_bytes.Stays.{stays}
use Rattle.tds_play.proofs.pooled.Back.{abandoned_here, does_whole, kept_rests, kept_seat, out_either, rests_either, spares_of}
use Rattle.tds_play.proofs.pooled.Changes.{taken_gone}
use Rattle.tds_play.proofs.pooled.Choice.{client_idle}
use Rattle.tds_play.proofs.pooled.Given.{unknown}
use Rattle.tds_play.proofs.pooled.Returned.{abandoned_unknown}
use Rattle.tds_play.proofs.pooled.Leaves.{Leaves, abandoned_in, abandoned_leaves, leaves_numbered, leaves_taken, leaves_twice}
use Rattle.tds_play.proofs.pooled.Settled.{gone_there, one_of, stays_there}
use Rattle.tds_play.proofs.seat.Held.abandon.Goals as goal

pub returns-then-self-clause-pool : goal.returns-then-self-clause-pool
returns-then-self-clause-pool g c =
    let n : ℕ = c.args.self.now.link.number in
    let pcs : List Connection = connections c.args.pool.now in
    let left : Leaves n pcs (connections c.abandon-answer.new.self) =
    subst (λ (cs : List Connection). Leaves n pcs cs) (sym c.abandon-answer.ensures.shown) (leaves_numbered c.args.ticket.number n pcs (abandoned c.args.ticket pcs).connections c.requires.named (abandoned_leaves c.args.ticket pcs)) in
    spares_of n c.args.self.now.link.is_cut c.args.pool.now c.abandon-answer.new.self left
    (λ lives. let bad : true ≡ false = sym c.if-self.true ∙ lives in absurd (cc))
    (λ cut.
    ap (numbered n) c.abandon-answer.ensures.shown
    ∙ ap (λ (r : Returned). numbered n r.connections) (abandoned_unknown c.args.ticket pcs (unknown (is_kept_for c.args.ticket.turn) c.args.ticket.key c.args.ticket.number pcs (ap (λ (m : ℕ). numbered m pcs) c.requires.named ∙ c.requires.there.is_out cut)))
    ∙ c.requires.there.is_out cut)
    c.abandon-answer.ensures.rest

pub returns-in-Free-clause-pool : goal.returns-in-Free-clause-pool
returns-in-Free-clause-pool g c =
    let n : ℕ = c.args.self.now.link.number in
    let pcs : List Connection = connections c.args.pool.now in
    let left : Leaves n pcs (connections c.abandon-answer.new.self) =
    subst (λ (cs : List Connection). Leaves n pcs cs) (sym c.abandon-answer.ensures.shown) (leaves_numbered c.args.ticket.number n pcs (abandoned c.args.ticket pcs).connections c.requires.named (abandoned_leaves c.args.ticket pcs)) in
    let rests : rests_in (abandoned c.args.ticket pcs).answer ≡ true = sym (ap rests_in c.abandon-answer.ensures.answer) ∙ rests_either c.abandon-answer.result c.in-Free.is in
    spares_of n c.args.self.now.link.is_cut c.args.pool.now c.abandon-answer.new.self left
    (λ lives. ap all_numbers c.abandon-answer.ensures.shown ∙ abandoned_in c.args.ticket pcs rests)
    (λ cut. let bad : true ≡ false = sym cut ∙ c.if-self.false in absurd (cc))
    c.abandon-answer.ensures.rest

pub returns-in-Free-clause-there : goal.returns-in-Free-clause-there
returns-in-Free-clause-there g c =
    let pcs : List Connection = connections c.args.pool.now in
    let rests : rests_in (abandoned c.args.ticket pcs).answer ≡ true = sym (ap rests_in c.abandon-answer.ensures.answer) ∙ rests_either c.abandon-answer.result c.in-Free.is in
    stays_there c.args.self.now c.args.self.now c.args.pool.now c.abandon-answer.new.self refl c.if-self.false (c.requires.there.is_in c.if-self.false)
    (ap all_numbers c.abandon-answer.ensures.shown ∙ abandoned_in c.args.ticket pcs rests)

pub returns-in-Free-clause-reads : goal.returns-in-Free-clause-reads
returns-in-Free-clause-reads g c = λ size k reads.
    let n : ℕ = c.args.self.now.link.number in
    let h : ℕ = c.args.self.now.holder in
    let pcs : List Connection = connections c.args.pool.now in
    let pipe : Option Pipe = g.C.EventCarrier.pipes c.args.carrier.now n in
    let rests : rests_in (abandoned c.args.ticket pcs).answer ≡ true = sym (ap rests_in c.abandon-answer.ensures.answer) ∙ rests_either c.abandon-answer.result c.in-Free.is in
    let kept = one_of (kept_for c.args.ticket pcs) (c.requires.known c.if-self.false) in
    let here = abandoned_here c.args.ticket n pcs kept.0 c.requires.named kept.1 rests in
    let was : seat_in c.args.self.now c.args.pool.now ≡ seat_by h (Some kept.0) = kept_seat c.args.ticket n h pcs kept.0 c.requires.named kept.1 in
    still_on size (event.Abandon k) c.done-in-Free.result.outcome c.args.self.now.link c.args.self.now.link (seat_in c.args.self.now c.args.pool.now).client.columns (seat_in c.args.self.now c.abandon-answer.new.self).client.columns pipe pipe
    (λ d. refl) reads (stays c.args.self.now.link pipe)
    (ap (λ o. (seat_by h o).client.columns) (ap (numbered n) c.abandon-answer.ensures.shown ∙ here.1) ∙ sym (ap (λ (x : Seat). x.client.columns) was))

pub returns-in-Free-clause-refines : goal.returns-in-Free-clause-refines
returns-in-Free-clause-refines g c = λ setup w k m engine played idle.
    let n : ℕ = c.args.self.now.link.number in
    let h : ℕ = c.args.self.now.holder in
    let size : ℕ = setup.packet_size in
    let pcs : List Connection = connections c.args.pool.now in
    let pipe : Option Pipe = g.C.EventCarrier.pipes c.args.carrier.now n in
    let answers : Answers = answer_of (g.E.Engine.statements_of engine) (g.E.Engine.step_of engine) in
    let live : c.args.self.now.link.is_cut ≡ false = c.if-self.false in
    let kept = one_of (kept_for c.args.ticket pcs) (c.requires.known live) in
    let was : seat_in c.args.self.now c.args.pool.now ≡ seat_by h (Some kept.0) = kept_seat c.args.ticket n h pcs kept.0 c.requires.named kept.1 in
    let waits : is_idle kept.0.client.stage ≡ true = sym (ap (λ (x : Seat). is_idle x.client.stage) was) ∙ client_idle (seat_in c.args.self.now c.args.pool.now).client m (played.lives live).stands.client (idle live) in
    let free = kept_rests c.args.ticket n h pcs kept.0 c.requires.named kept.1 waits in
    let now : seat_in c.args.self.now c.abandon-answer.new.self ≡ placed_at Free (seat_in c.args.self.now c.args.pool.now) =
    ap (λ cs. seat_by h (numbered n cs)) c.abandon-answer.ensures.shown ∙ free.0 ∙ sym (ap (placed_at Free) was) in
    let does = abandoned_alike c.pool_is_unseen.ensures n size engine c.args.self.now.link (seat_in c.args.self.now c.args.pool.now) (seat_in c.args.self.now c.abandon-answer.new.self) pipe m c.done-in-Free.result played live c.done-in-Free.ensures now in
    subst (λ a. RefinesAct n size engine c.done-in-Free.result c.args.self.now.link (seat_in c.args.self.now c.abandon-answer.new.self) pipe a m)
    (sym (acts_there setup answers w (event.Abandon k) n m (seat_in c.args.self.now c.args.pool.now).place (stands_in n size engine c.args.self.now.link (seat_in c.args.self.now c.args.pool.now) pipe m played live)))
    (does_whole n size engine c.done-in-Free.result c.args.self.now.link (seat_in c.args.self.now c.abandon-answer.new.self) pipe (abandons m) m does)

pub returns-in-Closed-clause-pool : goal.returns-in-Closed-clause-pool
returns-in-Closed-clause-pool g c =
    let n : ℕ = c.args.self.now.link.number in
    let pcs : List Connection = connections c.args.pool.now in
    let q : PoolState = c.abandon-answer.new.self in
    let left : Leaves n pcs (connections q) =
    subst (λ (cs : List Connection). Leaves n pcs cs) (sym c.abandon-answer.ensures.shown) (leaves_numbered c.args.ticket.number n pcs (abandoned c.args.ticket pcs).connections c.requires.named (abandoned_leaves c.args.ticket pcs)) in
    let out : Leaves n pcs (connections c.leave.new.pool) =
    subst (λ (cs : List Connection). Leaves n pcs cs) (sym c.leave.ensures.gone.connections) (leaves_twice n pcs (connections q) (taken_out n (connections q)) left (leaves_taken n (connections q))) in
    let cut : c.leave.new.self.link.is_cut ≡ true = ap (λ l. l.is_cut) c.leave.ensures.link in
    let first : SameRest c.args.pool.now q = c.abandon-answer.ensures.rest in
    let then : SameRest q c.leave.new.pool = c.leave.ensures.gone.rest in
    spares_of n c.leave.new.self.link.is_cut c.args.pool.now c.leave.new.pool out
    (λ lives. let bad : true ≡ false = sym cut ∙ lives in absurd (cc))
    (λ e. ap (numbered n) c.leave.ensures.gone.connections ∙ taken_gone n (connections q))
    (record { name = then.name ∙ first.name; max = then.max ∙ first.max; size = then.size ∙ first.size; last = then.last ∙ first.last })

pub returns-in-Closed-clause-there : goal.returns-in-Closed-clause-there
returns-in-Closed-clause-there g c =
    gone_there c.leave.new.self c.args.self.now.link.number c.leave.new.pool (connections c.abandon-answer.new.self) (ap (λ l. l.number) c.leave.ensures.link) (ap (λ l. l.is_cut) c.leave.ensures.link) c.leave.ensures.gone.connections

-- In the model what is kept is idle, so it is not closed.
pub returns-in-Closed-clause-refines : goal.returns-in-Closed-clause-refines
returns-in-Closed-clause-refines g c = λ setup w k m engine played idle.
    let n : ℕ = c.args.self.now.link.number in
    let h : ℕ = c.args.self.now.holder in
    let pcs : List Connection = connections c.args.pool.now in
    let live : c.args.self.now.link.is_cut ≡ false = c.if-self.false in
    let kept = one_of (kept_for c.args.ticket pcs) (c.requires.known live) in
    let was : seat_in c.args.self.now c.args.pool.now ≡ seat_by h (Some kept.0) = kept_seat c.args.ticket n h pcs kept.0 c.requires.named kept.1 in
    let waits : is_idle kept.0.client.stage ≡ true = sym (ap (λ (x : Seat). is_idle x.client.stage) was) ∙ client_idle (seat_in c.args.self.now c.args.pool.now).client m (played.lives live).stands.client (idle live) in
    let rests : rests_in (abandoned c.args.ticket pcs).answer ≡ true = (kept_rests c.args.ticket n h pcs kept.0 c.requires.named kept.1 waits).1 in
    let bad : true ≡ false = sym rests ∙ sym (ap rests_in c.abandon-answer.ensures.answer) ∙ out_either c.abandon-answer.result c.in-Closed.is in
    absurd (cc)
