use Rattle.std.proofs.Common.{◌≡◌, ◌∙◌, suc, length, ap, arith, subst, sym}
use Rattle.tds_pool.specs.Connections.{PoolState, connections, numbered}
use Rattle.tds_session.specs.Answer.{answer_of}
use Rattle.tds_world.specs.Losses.{met}
use Rattle.tds_world.specs.World.{next_number}
use Rattle.tds_play.specs.Stepping.{ends_event}
use Rattle.tds_play.specs.Plays.{RefinesAct, acts_on, loss_of}
use Rattle.tds_play.specs.Pooled.{ChangesOne, seat_in}
use Rattle.tds_play.specs.Reads.{ReadsOn}
use Rattle.tds_play.specs.declared.player.Player.{Player}
use Rattle.tds_play.specs.declared.seat.Held.{Held}
use Rattle.tds_play.proofs.pooled.There.{stands_there, unasked_there}
use Rattle.tds_play.proofs.pooled.Callers.{caller_carried}
use Rattle.tds_play.proofs.pooled.Noting.{acts_few, acts_held}
use Rattle.tds_play.proofs.pooled.Unseen.{touched_steps}
use Rattle.tds_play.proofs.player.Player.act_on.Goals as goal

pub act-requires : goal.act-requires
act-requires g c =
    let old = c.args.self.now in
    let stands = stands_there old c.args.place c.index_mut.result.now (g.C.EventCarrier.pipes c.args.carrier.now) c.requires.tied c.requires.held c.requires.there c.index_mut.ensures.value in
    record {
      tied = stands.tied;
      unasked = unasked_there old c.args.place c.index_mut.result.now (g.C.EventCarrier.began c.args.carrier.now) (g.C.EventCarrier.pipes c.args.carrier.now) c.requires.tied c.requires.told c.requires.sound stands.at;
      there = stands.there;
      lent = λ asks lives. caller_carried old c.args.place c.index_mut.result.now c.args.step c.requires.held stands.at stands.number c.requires.found asks lives;
    }

pub returns : goal.returns
returns g c =
    let old = c.args.self.now in
    let new = c.note.new.self in
    let h = c.index_mut.result.now in
    let k = c.act.new.self in
    let done = c.in_ok-done.done in
    let said = c.in_ok-done.ensures in
    let noted = c.in_ok-note.ensures.noted in
    let rest = c.in_ok-note.ensures.rest in
    let pipes = g.C.EventCarrier.pipes in
    let stands = stands_there old c.args.place h (pipes c.args.carrier.now) c.requires.tied c.requires.held c.requires.there c.index_mut.ensures.value in
    let pool : new.pool ≡ c.act.new.pool = ap (λ (p : Player g.row.E.Denot g.row.E-Stmt.Denot). p.pool) rest in
    let leases : new.leases ≡ old.leases = ap (λ (p : Player g.row.E.Denot g.row.E-Stmt.Denot). p.leases) rest in
    let tickets : new.tickets ≡ old.tickets = ap (λ (p : Player g.row.E.Denot g.row.E-Stmt.Denot). p.tickets) rest in
    let links = ap (λ (p : Player g.row.E.Denot g.row.E-Stmt.Denot). p.links.items) rest in
    touched_steps (λ x. answer_of (g.E.Engine.statements_of x) (g.E.Engine.step_of x)) (ends_event c.args.step) c.args.place old new h k (pipes c.args.carrier.now) (pipes c.act.new.carrier) _ _ done c.requires.tied stands.at said.number links
    (λ m other. ap (λ (q : PoolState). numbered m (connections q)) pool ∙ said.pool.others m (λ is. other (is ∙ stands.number)))
    (acts_held c.args.place old new h k c.requires.held stands.at stands.number said.holder
    (subst (λ (q : PoolState). ChangesOne h.link.number k.link.is_cut old.pool q) (sym pool) said.pool)
    (λ cut. ap (λ (x : Held g.row.E.Denot g.row.E-Stmt.Denot). x.link.is_cut) (said.gone cut).1 ∙ cut)
    links leases tickets (record {
      engine_is = ap (λ (p : Player g.row.E.Denot g.row.E-Stmt.Denot). p.engine) rest;
      max_is = ap (λ (p : Player g.row.E.Denot g.row.E-Stmt.Denot). p.max) rest;
      size_is = ap (λ (p : Player g.row.E.Denot g.row.E-Stmt.Denot). p.size) rest;
      told_is = ap (λ (p : Player g.row.E.Denot g.row.E-Stmt.Denot). p.on_attention) rest;
    }))
    said.ties said.failed
    (λ cut. (ap pipes (said.gone cut).0, ap (λ (x : Held g.row.E.Denot g.row.E-Stmt.Denot). x.link) (said.gone cut).1, (said.gone cut).3))
    said.loses
    (λ size reads. subst (λ (q : PoolState). ReadsOn size (ends_event c.args.step) done.outcome k.link (seat_in k q).client.columns (pipes c.args.carrier.now h.link.number) (pipes c.act.new.carrier h.link.number)) (sym pool) (said.reads size reads))
    (record {
      engine_is = ap (λ (p : Player g.row.E.Denot g.row.E-Stmt.Denot). p.engine) rest;
      max_is = ap (λ (p : Player g.row.E.Denot g.row.E-Stmt.Denot). p.max) rest;
      size_is = ap (λ (p : Player g.row.E.Denot g.row.E-Stmt.Denot). p.size) rest;
      told_is = ap (λ (p : Player g.row.E.Denot g.row.E-Stmt.Denot). p.on_attention) rest;
    })
    (acts_few c.args.place old new k links leases tickets)
    (record { refused = noted.refused; applied = noted.applied })
    (λ setup engine w m told is promised promise played ready counts.
    let asked : length old.asked_on.items ≡ length w.asked_on = ap length is.asked in
    let count : c.len.result ≡ length w.asked_on = omega (arith, c.len.ensures, old.asked_on.ok.0, asked) in
    let next : c.next_number-number.result ≡ next_number w.asked_on = c.next_number-number.ensures.few (omega (arith, count, promised.small.asked)) ∙ ap suc count in
    subst (λ (q : PoolState). RefinesAct h.link.number setup.packet_size engine done k.link (seat_in k q) (pipes c.act.new.carrier h.link.number) (acts_on setup (answer_of (g.E.Engine.statements_of engine) (g.E.Engine.step_of engine)) w (met (loss_of done) (ends_event c.args.step)) h.link.number m) m) (sym pool)
    (said.refines setup w m engine told played promise counts next))
