use Rattle.std.proofs.Common.{◌∙◌, [], length, drop, refl, sym, ap, arith, rules}
use Rattle.std.proofs.lemmas.List.{drop-drop, drop_all, length-drop}
use Rattle.tds_client.specs.Parts.{session_from}
use Rattle.tds_wire.specs.Lent.{reading_of}
use Rattle.tds_c.proofs.Hearing.{heard_on}
use Rattle.tds_c.proofs.wire.hearing.walked.hear_tokens.Goals as goal

pub tokens-preserved : goal.tokens-preserved
tokens-preserved c = record {
  run = λ first room long run.
      rw (sym (drop-drop c.in-Ok.more c.tokens.taken c.args.bytes.now)) (heard_on first _ _ room _ _ _ _ (c.tokens.invariant.same ∙ sym long) (rw (sym c.behind.ensures) c.in-Ok.ensures.exact.1) c.in-Ok.ensures.exact.2 (c.tokens.invariant.run first room long run));
  same = c.hear_next.ensures.room ∙ c.tokens.invariant.same;
  room = search rules;
  within = omega (arith, c.in-Ok.ensures.within, ap length c.behind.ensures, length-drop c.tokens.taken c.args.bytes.now, c.tokens-test.true);
}

pub returns-then-may_tell-clause-run : goal.returns-then-may_tell-clause-run
returns-then-may_tell-clause-run c first room long run =
    (_, c.tokens.invariant.run first room long run, refl, ((λ none. omega (arith, ap length none, length-drop c.tokens.taken c.args.bytes.now, c.tokens-test.true)), sym (c.may_tell.ensures []) ∙ c.if-may_tell.true, c.if-count-tokens.true ∙ c.tokens.invariant.same ∙ sym long, refl))

pub returns-in-Err-clause-run : goal.returns-in-Err-clause-run
returns-in-Err-clause-run c first room long run =
    (record { session = session_from c.tokens.parts []; reading = reading_of c.tokens.walk c.tokens.memory; rest = drop c.tokens.taken c.args.bytes.now }, rw (c.in-Err.ensures.stays, c.in-Err.ensures.same) (c.tokens.invariant.run first room long run), refl, (rw (sym c.behind.ensures) c.in-Err.ensures.exact, c.in-Err.ensures.broken, c.in-Err.ensures.refused))

pub returns-clause-run : goal.returns-clause-run
returns-clause-run c first room long run =
    (_, c.tokens.invariant.run first room long run, refl, (drop_all c.tokens.taken c.args.bytes.now (omega (arith, c.tokens-test.false)), refl))
