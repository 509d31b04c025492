use Rattle.std.proofs.Common.{rules, ◌≡◌, ◌≢◌, length, true, false, inl, inr, refl, subst, ap}
use Rattle.tds_packet.specs.declared.kind.Direction.TheVariants.{ToServer}
use Rattle.tds_ends.specs.Lent.{LentToServer}
use Rattle.tds_session.specs.Answer.{answer_of}
use Rattle.tds_ends.proofs.Empty.{as_new, holds_none, is_absent, is_there}
use Rattle.tds_ends.proofs.Feeding.{slice_rest}
use Rattle.tds_ends.proofs.LentServer.{served_behind, served_stopped, served_whole}
use Rattle.tds_ends.proofs.ends.ServerEnd.serve.Goals as goal

pub returns-then-is_some-clause-serves : goal.returns-then-is_some-clause-serves
returns-then-is_some-clause-serves g c =
    let yes : c.is_empty.result ≡ true = search rules in
    let empty = holds_none c.is_empty.result c.args.self.now.reader.taken yes c.is_empty.ensures in
    let reads : c.args.self.now.reader.direction ≡ ToServer = search rules in
    let same = as_new c.args.self.now.reader ToServer c.size.result reads c.size.ensures empty in
    let answers = answer_of (g.E.Engine.statements_of c.args.self.now.server.engine) (g.E.Engine.step_of c.args.self.now.server.engine) in
    let lent = subst (λ x. LentToServer answers x c.args.piece.now c.args.self.now.server c.serve_lent-lent.new.server c.args.reply.now.items c.serve_lent-lent.new.reply.items c.serve_lent-lent.result) same c.serve_lent-lent.ensures.serves in
    elim c.then-is_some.either [
      | inl some ↦ served_stopped _ _ _ _ _ _ _ _ _ empty refl (is_there c.is_some.result _ some c.is_some.ensures) lent
      | inr all ↦ served_whole _ _ _ _ _ _ _ _ empty (is_absent c.is_some.result _ all.0 c.is_some.ensures) all.1 lent
    ]

pub returns-clause-serves : goal.returns-clause-serves
returns-clause-serves g c =
    let yes : c.is_empty.result ≡ true = search rules in
    let empty = holds_none c.is_empty.result c.args.self.now.reader.taken yes c.is_empty.ensures in
    let reads : c.args.self.now.reader.direction ≡ ToServer = search rules in
    let same = as_new c.args.self.now.reader ToServer c.size.result reads c.size.ensures empty in
    let answers = answer_of (g.E.Engine.statements_of c.args.self.now.server.engine) (g.E.Engine.step_of c.args.self.now.server.engine) in
    let lent = subst (λ x. LentToServer answers x c.args.piece.now c.args.self.now.server c.serve_lent-lent.new.server c.args.reply.now.items c.serve_lent-lent.new.reply.items c.serve_lent-lent.result) same c.serve_lent-lent.ensures.serves in
    let off : c.is_some.result ≡ false = search rules in
    let more : c.serve_lent-lent.result.count ≢ length c.args.piece.now = search rules in
    let engine = ap (λ e. answer_of (g.E.Engine.statements_of e) (g.E.Engine.step_of e)) c.serve_lent-lent.ensures.engine in
    let kept = rw engine at c.keep-kept.ensures.keeps in
    served_behind _ _ _ _ _ _ _ _ _ _ _ c.serve_lent-lent.result c.keep-kept.result _ empty (is_absent c.is_some.result _ off c.is_some.ensures) c.serve_lent-lent.ensures.within more (slice_rest c.serve_lent-lent.result.count c.args.piece.now)
    refl lent kept
