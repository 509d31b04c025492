use Rattle.std.proofs.Common.{◌≡◌, ◌∙◌, drop, ap, sym, subst, refl, true, false, Ok, rules, arith}
use Rattle.tds_packet.specs.declared.kind.Direction.TheVariants.{ToServer}
use Rattle.tds_packet.specs.Stream.{IsLess}
use Rattle.tds_server.specs.declared.outcome.ServerTook.TheVariants.{NoMemory}
use Rattle.tds_session.specs.Answer.{answer_of}
use Rattle.tds_ends.specs.AllBytes.{new_reader}
use Rattle.tds_ends.proofs.Feeding.{slice_rest}
use Rattle.tds_ends.proofs.FedServer.{refused_quietly, same_took}
use Rattle.tds_ends.proofs.Lent.{front_at, lent_within}
use Rattle.tds_ends.proofs.LentServer.{serves_all, serves_on, serves_refused, serves_wanting}
use Rattle.tds_ends.proofs.serving.serve_lent.Goals as goal

pub packets-preserved : goal.packets-preserved
packets-preserved g c =
    let so = c.packets.invariant.so_far in
    let front = front_at ToServer c.args.size c.args.piece.now c.in-Some.packet.data.now c.in-Some.packet.header c.packets.count c.in-Some.ensures.lent in
    let differs : ¬ (c.in-Ok.took ≡ NoMemory) = λ e. let z : false ≡ true = rw e at c.if-eq.ensures in absurd (cc) in
    let answers = ap (λ e. answer_of (g.E.Engine.statements_of e) (g.E.Engine.step_of e)) c.packets.invariant.engine in
    let took = c.take.ensures.answer (λ e. differs (same_took _ _ c.take.result c.in-Ok.is e)) in
    let state = c.take.ensures.state (λ e. differs (same_took _ _ c.take.result c.in-Ok.is e)) in
    let reply = c.take.ensures.reply (λ e. differs (same_took _ _ c.take.result c.in-Ok.is e)) in
    record {
      engine = c.take.ensures.engine ∙ c.packets.invariant.engine;
      on_attention = c.take.ensures.on_attention ∙ c.packets.invariant.on_attention;
      within = lent_within c.args.piece.now c.in-Some.packet.header c.in-Some.packet.data.now front.0 c.packets.count front.1 c.packets.invariant.within;
      short = omega (arith, c.packets.invariant.short, c.take.ensures.short);
      so_far = serves_on _ ToServer c.args.size c.args.piece.now c.in-Some.packet.data.now c.in-Some.packet.header c.packets.count _ _ c.packets.server c.take.new.self _ c.packets.reply.items c.take.new.reply.items c.in-Ok.took so front refl (sym c.in-Ok.is ∙ rw answers at took) (rw answers at state) (rw answers at reply);
    }

pub returns-then-eq-clause-serves : goal.returns-then-eq-clause-serves
returns-then-eq-clause-serves g c =
    let so = c.packets.invariant.so_far in
    let front = front_at ToServer c.args.size c.args.piece.now c.in-Some.packet.data.now c.in-Some.packet.header c.packets.count c.in-Some.ensures.lent in
    let none : c.in-Ok.took ≡ NoMemory = search rules in
    let still = c.take.ensures.memory (c.in-Ok.is ∙ ap Ok none) in
    let answers = ap (λ e. answer_of (g.E.Engine.statements_of e) (g.E.Engine.step_of e)) c.packets.invariant.engine in
    let wanted = c.take.ensures.wanted (c.in-Ok.is ∙ ap Ok none) in
    serves_wanting _ ToServer c.args.size c.args.piece.now c.in-Some.packet.data.now c.in-Some.packet.header c.packets.count _ c.packets.server c.take.new.self _ c.packets.reply.items c.take.new.reply.items so front still.0 still.1 (rw answers at wanted)

pub returns-in-Err-clause-serves : goal.returns-in-Err-clause-serves
returns-in-Err-clause-serves g c =
    let so = c.packets.invariant.so_far in
    let front = front_at ToServer c.args.size c.args.piece.now c.in-Some.packet.data.now c.in-Some.packet.header c.packets.count c.in-Some.ensures.lent in
    let answers = ap (λ e. answer_of (g.E.Engine.statements_of e) (g.E.Engine.step_of e)) c.packets.invariant.engine in
    let refused = rw answers at c.in-Err.ensures.answer (λ e. absurd (cc)) in
    let state = rw answers at c.in-Err.ensures.state (λ e. absurd (cc)) in
    let reply = rw answers at c.in-Err.ensures.reply (λ e. absurd (cc)) in
    serves_refused _ ToServer c.args.size c.args.piece.now c.in-Some.packet.data.now c.in-Some.packet.header c.packets.count _ _ c.packets.server c.take.new.self _ c.packets.reply.items c.take.new.reply.items c.in-Err.fault so front refl (refused_quietly _ c.packets.server c.in-Some.packet.header c.in-Some.packet.data.now c.packets.reply.items c.take.new.reply.items c.in-Err.fault refused reply) (sym refused) state

pub returns-in_default-clause-serves : goal.returns-in_default-clause-serves
returns-in_default-clause-serves g c =
    let less : IsLess (new_reader ToServer c.args.size) (drop c.packets.count c.args.piece.now) = subst (IsLess (new_reader ToServer c.args.size)) (slice_rest c.packets.count c.args.piece.now) (c.in_default.ensures.none refl) in
    serves_all _ ToServer c.args.size c.args.piece.now c.packets.count _ c.packets.server _ c.packets.reply.items c.packets.invariant.so_far less
