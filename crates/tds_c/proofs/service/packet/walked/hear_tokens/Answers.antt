use Rattle.std.proofs.Common.{◌≡◌, ◌∙◌, ◌≤◌, ℕ, List, [], length, drop, refl, sym, ap, subst, arith, rules}
use Rattle.std.proofs.lemmas.List.{drop-drop, drop_all, length-drop}
use Rattle.std.specs.Prelude.{false}
use Rattle.tds_wire.specs.Lent.{reading_of}
use Rattle.tds_wire.specs.Reading.{next_token}
use Rattle.tds_service.specs.Ties.{listed}
use Rattle.tds_c.specs.service.ComesOn.{BreaksOn, MovesOn}
use Rattle.tds_c.specs.service.Here.{Start}
use Rattle.tds_c.proofs.service.Here.{come_on, stops_broken, stops_full}
use Rattle.tds_c.proofs.service.packet.walked.hear_tokens.Goals as goal

pub tokens-init : goal.tokens-init
tokens-init c = record {
  come = λ first room long come. come;
  same = refl;
  room = search rules;
  within = search rules;
}

pub tokens-preserved : goal.tokens-preserved
tokens-preserved c =
    let r = reading_of c.tokens.walk c.tokens.memory in
    let rest = drop c.tokens.taken c.args.bytes.now in
    let exact = c.in-Ok.ensures.exact in
    let next = reading_of c.hear_next.new.walk c.hear_next.new.memory in
    let at : Start = record { seat = c.tokens.seat; reading = r; rest = rest } in
    let moved : MovesOn (next_token r rest) c.tokens.seat c.hear_next.new.seat next (drop c.in-Ok.more rest) (listed exact.0) =
    subst (λ (piece : List ℕ). MovesOn (next_token r piece) c.tokens.seat c.hear_next.new.seat next (drop c.in-Ok.more piece) (listed exact.0)) c.behind.ensures exact.1 in
    record {
      come = λ first room long come.
          rw (sym (drop-drop c.in-Ok.more c.tokens.taken c.args.bytes.now))
          (come_on first at (record { seat = c.hear_next.new.seat; reading = next; rest = drop c.in-Ok.more rest }) exact.0 room _ _ _ _ moved (c.tokens.invariant.same ∙ sym long) exact.2
          (c.tokens.invariant.come first room long come));
      same = c.hear_next.ensures.room ∙ c.tokens.invariant.same;
      room = search rules;
      within = omega (arith, c.in-Ok.ensures.within, ap length c.behind.ensures, length-drop c.tokens.taken c.args.bytes.now, c.tokens-test.true);
    }

pub returns-then-may_tell-clause-run : goal.returns-then-may_tell-clause-run
returns-then-may_tell-clause-run c = λ first room long come.
    stops_full first (record { seat = c.tokens.seat; reading = reading_of c.tokens.walk c.tokens.memory; rest = drop c.tokens.taken c.args.bytes.now }) _
    (c.tokens.invariant.come first room long come)
    (λ none. omega (arith, ap length none, length-drop c.tokens.taken c.args.bytes.now, c.tokens-test.true))
    (sym c.may_tell.ensures ∙ c.if-may_tell.true) (c.if-count-tokens.true ∙ (c.tokens.invariant.same ∙ sym long)) false

pub returns-in-Err-clause-run : goal.returns-in-Err-clause-run
returns-in-Err-clause-run c = λ first room long come.
    let r = reading_of c.tokens.walk c.tokens.memory in
    rw (c.in-Err.ensures.stays, c.in-Err.ensures.same)
    (stops_broken first (record { seat = c.tokens.seat; reading = r; rest = drop c.tokens.taken c.args.bytes.now }) _
    (c.tokens.invariant.come first room long come) c.hear_next.new.seat _ c.in-Err.fault
    (subst (λ (piece : List ℕ). BreaksOn (next_token r piece) c.tokens.seat c.hear_next.new.seat c.in-Err.fault) c.behind.ensures c.in-Err.ensures.exact)
    c.in-Err.ensures.refused false)

pub returns-clause-run : goal.returns-clause-run
returns-clause-run c = λ first room long come.
    let done : length c.args.bytes.now ≤ c.tokens.taken = omega (arith, c.tokens-test.false) in
    (c.tokens.invariant.come first room long come, drop_all c.tokens.taken c.args.bytes.now done)
