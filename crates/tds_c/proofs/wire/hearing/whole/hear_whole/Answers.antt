use Rattle.std.proofs.Common.{◌∙◌, ◌<◌, ◌≡◌, Some, length, drop, refl, sym, ap, arith, rules, subst}
use Rattle.std.proofs.lemmas.List.{length-drop}
use Rattle.tds_client.specs.Machine.{tells, with_heard}
use Rattle.tds_client.specs.Session.{ClientSession, Stage}
use Rattle.tds_listen.specs.Hearing.{told_if}
use Rattle.tds_wire.specs.Reading.{Parser}
use Rattle.tds_walk.specs.WireCalls.{reading_from}
use Rattle.tds_walk.specs.WireTokens.{Puts}
use Rattle.tds_walk.specs.declared.walk.TdsWire.{TdsWire}
use Rattle.tds_c.specs.Hearing.{Ready}
use Rattle.tds_c.proofs.Hearing.{none_heard}
use Rattle.tds_c.proofs.Ready.{moved, signs, so_far, stays_heard, whole_on}
use Rattle.tds_c.proofs.wire.hearing.whole.hear_whole.Goals as goal

pub tokens-init : goal.tokens-init
tokens-init c = record {
  ready = c.requires.ready;
  run = λ s first stage heard is.
      (first, is, subst (λ (x : ClientSession). so_far (record { session = s; reading = first; rest = c.args.bytes.now }) x first c.args.bytes.now c.args.tokens.now c.args.tokens.now 0) (stays_heard s _ heard) (none_heard _ _));
  same = refl;
  room = search rules;
  within = search rules;
}

pub tokens-preserved : goal.tokens-preserved
tokens-preserved c =
    let some : 0 < c.hear_here-size.result = omega (arith, c.if-size-eq0.false) in
    let here = c.hear_here-size.ensures.some some in
    record {
      ready = subst Ready (sym here.walk) (moved c.tokens.walk _ _ c.tokens.invariant.ready);
      run = λ s first stage heard is.
          let so = c.tokens.invariant.run s first stage heard is in
          let x = whole_on c.tokens.walk c.args.memory.now c.tokens.invariant.ready c.bounds.ensures.few c.bounds.ensures.nulls (with_heard s c.tokens.heard) (with_heard s c.hear_here-size.new.heard) here.token c.hear_here-size.result c.tokens.done c.args.bytes.now c.behind.result.now (record { session = s; reading = first; rest = c.args.bytes.now }) so.0 _ _ _ _ _ _ _
          c.behind.ensures here.next (signs s _ _ _ stage here.heard) refl refl c.tokens.invariant.same
          (subst (λ (stage : Stage). Puts (told_if (tells stage) here.token) (record { before = c.tokens.tokens; after = c.hear_here-size.new.tokens; count = c.hear_here-size.new.count }) c.tokens.read) (sym stage) here.put) so.1 so.2 in
          (x.0, subst (λ (p : TdsWire). reading_from p c.args.memory.now ≡ Some x.0) (sym here.walk) x.1, x.2);
      same = c.hear_here-size.ensures.long ∙ c.tokens.invariant.same;
      room = search rules;
      within = omega (arith, c.hear_here-size.ensures.within, ap length c.behind.ensures, length-drop c.tokens.done c.args.bytes.now, c.tokens.invariant.within);
    }

pub returns-then-size-eq0-clause-run : goal.returns-then-size-eq0-clause-run
returns-then-size-eq0-clause-run c = λ s first stage heard is.
    let so = c.tokens.invariant.run s first stage heard is in
    let none = c.hear_here-size.ensures.none c.if-size-eq0.true in
    let same = c.hear_here-size.ensures.same c.if-size-eq0.true in
    (so.0, rw none.1 so.1, rw (none.0, same.0, same.1) so.2)
