use Rattle.std.proofs.Common.{◌≡◌, ◌∙◌, length, ap, sym, refl, true, false, Ok, rules, arith}
use Rattle.tds_packet.specs.Reading.{IsWhole}
use Rattle.tds_server.specs.declared.outcome.ServerTook.TheVariants.{NoMemory}
use Rattle.tds_session.specs.Answer.{answer_of}
use Rattle.tds_ends.proofs.Empty.{fed_tells, faulty_some}
use Rattle.tds_ends.proofs.Feeding.{slice_rest, fed_at, held_at, faulty_at, drained_at}
use Rattle.tds_ends.proofs.FedServer.{refused_quietly, same_took, goes_on, stopped, fed_length, whole_length}
use Rattle.tds_ends.proofs.LentServer.{wanting}
use Rattle.tds_ends.proofs.serving.serve_on.Goals as goal

pub returns-in-Err-clause-serves : goal.returns-in-Err-clause-serves
returns-in-Err-clause-serves g c =
    let so = c.packets.invariant.so_far in
    stopped _ _ _ c.feed.new.self c.args.piece.now _ c.packets.count _ _ _ _ _ _ _ _ so
    (faulty_at c.reads_packets.ensures.faulty _ _ _ _ _ c.packets.count so.packets c.in-Err.fault so.bytes (slice_rest c.packets.count c.args.piece.now) c.in-Err.ensures.taken c.in-Err.ensures.fault)
    refl refl

pub returns-in_default-clause-serves : goal.returns-in_default-clause-serves
returns-in_default-clause-serves g c =
    let so = c.packets.invariant.so_far in
    let not : ¬ IsWhole c.feed.new.self = λ whole. let z : false ≡ true = c.in_default.ensures.whole.1 whole in absurd (cc) in
    stopped _ _ _ c.feed.new.self c.args.piece.now _ c.packets.count _ _ _ _ _ _ _ _ so
    (drained_at c.reads_packets.ensures.less _ _ _ _ _ c.packets.count c.in-Ok.taken so.packets so.bytes (slice_rest c.packets.count c.args.piece.now) c.packets.invariant.within c.in-Ok.ensures.within c.in-Ok.ensures.taken c.in-Ok.ensures.count c.in-Ok.ensures.all not c.in-Ok.ensures.fault)
    refl refl

pub returns-then-eq-clause-serves : goal.returns-then-eq-clause-serves
returns-then-eq-clause-serves g c =
    let so = c.packets.invariant.so_far in
    let whole : IsWhole c.feed.new.self = (c.in-Some.packet.header, c.in-Some.packet.data.now, c.in-Some.ensures.lent) in
    let none : c.in-Ok-take.took ≡ NoMemory = search rules in
    let still = c.take.ensures.memory (c.in-Ok-take.is ∙ ap Ok none) in
    stopped _ _ _ c.feed.new.self c.args.piece.now _ c.packets.count _ _ _ _ _ _ _ _ so
    (held_at _ _ c.feed.new.self c.args.piece.now _ c.packets.count c.in-Ok.taken so.packets so.bytes (slice_rest c.packets.count c.args.piece.now) c.in-Ok.ensures.taken c.in-Ok.ensures.count whole)
    still.1 still.0

pub returns-in-Err-take-clause-serves : goal.returns-in-Err-take-clause-serves
returns-in-Err-take-clause-serves g c =
    let so = c.packets.invariant.so_far in
    let whole : IsWhole c.feed.new.self = (c.in-Some.packet.header, c.in-Some.packet.data.now, c.in-Some.ensures.lent) in
    let answers = ap (λ e. answer_of (g.E.Engine.statements_of e) (g.E.Engine.step_of e)) c.packets.invariant.engine in
    let refused = rw answers at c.in-Err-take.ensures.answer (λ e. absurd (cc)) in
    let state = rw answers at c.in-Err-take.ensures.state (λ e. absurd (cc)) in
    let reply = rw answers at c.in-Err-take.ensures.reply (λ e. absurd (cc)) in
    stopped _ _ _ c.feed.new.self c.args.piece.now _ c.packets.count _ _ _ _ _ _ _ _ so
    (held_at _ _ c.feed.new.self c.args.piece.now _ c.packets.count c.in-Ok.taken so.packets so.bytes (slice_rest c.packets.count c.args.piece.now) c.in-Ok.ensures.taken c.in-Ok.ensures.count whole)
    (refused_quietly _ c.packets.server c.in-Some.packet.header c.in-Some.packet.data.now c.packets.reply.items c.take.new.reply.items c.in-Err-take.fault refused reply) (c.in-Some.packet.header, c.in-Some.packet.data.now, c.in-Some.ensures.lent, sym refused, state)

pub returns-in-Err-take-clause-short : goal.returns-in-Err-take-clause-short
returns-in-Err-take-clause-short g c =
    omega (arith, c.packets.invariant.short, c.take.ensures.short, fed_length _ _ _ _ c.in-Ok.ensures.count c.in-Ok.ensures.within, whole_length c.feed.new.self _ _ c.in-Some.ensures.lent)

pub packets-preserved : goal.packets-preserved
packets-preserved g c =
    let so = c.packets.invariant.so_far in
    let lent = c.in-Some.ensures.lent in
    let gone = c.done.ensures.next (c.in-Some.packet.header, c.in-Some.packet.data.now, lent) in
    let fed = fed_at _ _ c.feed.new.self c.args.piece.now _ c.packets.count c.in-Ok.taken so.packets so.bytes (slice_rest c.packets.count c.args.piece.now) c.in-Ok.ensures.taken c.in-Ok.ensures.count in
    let differs : ¬ (c.in-Ok-take.took ≡ NoMemory) = λ e. let z : false ≡ true = rw e at c.if-eq.ensures in absurd (cc) in
    let answers = ap (λ e. answer_of (g.E.Engine.statements_of e) (g.E.Engine.step_of e)) c.packets.invariant.engine in
    let took = c.take.ensures.answer (λ e. differs (same_took _ _ c.take.result c.in-Ok-take.is e)) in
    let state = c.take.ensures.state (λ e. differs (same_took _ _ c.take.result c.in-Ok-take.is e)) in
    let reply = c.take.ensures.reply (λ e. differs (same_took _ _ c.take.result c.in-Ok-take.is e)) in
    record {
      reads = ap (λ r. r.direction) gone ∙ ap (λ r. r.direction) c.in-Ok.ensures.taken ∙ c.packets.invariant.reads;
      size = ap (λ r. r.size) gone ∙ ap (λ r. r.size) c.in-Ok.ensures.taken ∙ c.packets.invariant.size;
      engine = c.take.ensures.engine ∙ c.packets.invariant.engine;
      on_attention = c.take.ensures.on_attention ∙ c.packets.invariant.on_attention;
      within = search rules;
      empty = λ tells. ap (λ r. r.taken) gone;
      short = omega (arith, c.packets.invariant.short, c.take.ensures.short, fed_length _ _ _ _ c.in-Ok.ensures.count c.in-Ok.ensures.within, whole_length c.feed.new.self _ _ lent, ap (λ r. length r.taken) gone);
      so_far = goes_on _ _ c.feed.new.self c.done.new.self c.args.piece.now _ _ _ _ _ _ _ _ _ c.in-Ok-take.took so.packets fed so.took lent gone (sym c.in-Ok-take.is ∙ rw answers at took) (rw answers at state) (rw answers at reply);
    }

pub returns-in-Err-clause-empty : goal.returns-in-Err-clause-empty
returns-in-Err-clause-empty g c = λ tells. faulty_some c.feed.new.self c.in-Err.fault c.in-Err.ensures.fault

pub returns-in_default-clause-empty : goal.returns-in_default-clause-empty
returns-in_default-clause-empty g c = λ tells. fed_tells _ _ c.in-Ok.taken _ _ _ c.is_still_empty-is_empty.ensures c.in-Ok.ensures.within c.in-Ok.ensures.count (c.packets.invariant.empty tells)

pub returns-then-eq-clause-empty : goal.returns-then-eq-clause-empty
returns-then-eq-clause-empty g c = λ tells. fed_tells _ _ c.in-Ok.taken _ _ _ c.is_still_empty-is_empty.ensures c.in-Ok.ensures.within c.in-Ok.ensures.count (c.packets.invariant.empty tells)

pub returns-in-Err-take-clause-empty : goal.returns-in-Err-take-clause-empty
returns-in-Err-take-clause-empty g c = λ tells. fed_tells _ _ c.in-Ok.taken _ _ _ c.is_still_empty-is_empty.ensures c.in-Ok.ensures.within c.in-Ok.ensures.count (c.packets.invariant.empty tells)

pub returns-then-eq-clause-waits : goal.returns-then-eq-clause-waits
returns-then-eq-clause-waits g c =
    let none : c.in-Ok-take.took ≡ NoMemory = search rules in
    let still = c.take.ensures.memory (c.in-Ok-take.is ∙ ap Ok none) in
    let answers = ap (λ e. answer_of (g.E.Engine.statements_of e) (g.E.Engine.step_of e)) c.packets.invariant.engine in
    let wanted = c.take.ensures.wanted (c.in-Ok-take.is ∙ ap Ok none) in
    (c.in-Some.packet.header, c.in-Some.packet.data.now, c.in-Some.ensures.lent, wanting _ c.packets.server c.take.new.self c.in-Some.packet.header c.in-Some.packet.data.now still.0 (rw answers at wanted))
