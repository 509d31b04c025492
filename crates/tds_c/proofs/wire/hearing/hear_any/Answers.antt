use Rattle.std.proofs.Common.{◌≡◌, ◌∙◌, ℕ, List, [], drop, length, refl, sym, ap, arith, rules, subst}
use Rattle.std.proofs.lemmas.List.{drop_all, length-drop}
use Rattle.tds_client.specs.Parts.{session_from}
use Rattle.tds_c.specs.declared.wire.hearing.Came.TheVariants as came
use Rattle.tds_c.specs.declared.client.TdsClient.{TdsClient}
use Rattle.tds_walk.specs.Wire.{truth}
use Rattle.tds_c.specs.Hearing.{Ready, StopsBehind}
use Rattle.tds_c.specs.Plain.{client_of}
use Rattle.tds_c.proofs.Awaiting.{held_again}
use Rattle.tds_c.proofs.Whole.{hears_ready}
use Rattle.tds_c.proofs.Ready.{at_ready, is_at_ready, tells_reading}
use Rattle.tds_c.proofs.Starting.{is_started}
use Rattle.tds_c.proofs.wire.hearing.hear_any.Goals as goal

pub returns-then-count-tokens : goal.returns-then-count-tokens
returns-then-count-tokens c =
    let ready : Ready c.args.walk.now = search rules in
    let reads = tells_reading _ (sym (c.may_tell.ensures []) ∙ search rules) in
    let x = c.hear_whole.ensures.run (session_from c.in-Some.parts []) (at_ready c.args.walk.now c.args.memory.now ready) reads refl (is_at_ready c.args.walk.now c.args.memory.now ready) in (
      came.Full,
      c.came_code-then-count-tokens.ensures,
      hears_ready _ _ (session_from c.in-Some.parts []) ready c.in-Some.ensures.some (
        record { session = session_from (record c.in-Some.parts { heard = c.hear_whole.new.heard }) []; reading = x.0 },
        c.of.ensures ∙ is_started _ [] _ refl,
        x.1,
        c.hear_whole.ensures.within,
        (_, x.2, refl, ((λ none. omega (arith, ap length none, length-drop c.hear_whole.new.taken c.args.bytes.now, c.if-taken-bytes.true)), sym (c.may_tell.ensures []) ∙ search rules, c.if-count-tokens.true ∙ c.hear_whole.ensures.same, refl)),
      ),
    )

pub returns-then-taken-bytes : goal.returns-then-taken-bytes
returns-then-taken-bytes c =
    let ready : Ready c.args.walk.now = search rules in
    let reads = tells_reading _ (sym (c.may_tell.ensures []) ∙ search rules) in
    let x = c.hear_whole.ensures.run (session_from c.in-Some.parts []) (at_ready c.args.walk.now c.args.memory.now ready) reads refl (is_at_ready c.args.walk.now c.args.memory.now ready) in
    let held = held_again c.args.client.now c.in-Some.parts c.hear_whole.new.heard c.in-Some.ensures.some reads in
    let e = c.hear_other-then-taken-bytes.ensures.behind _ _ c.args.tokens.now x.0 (ap (λ (k : TdsClient). client_of k []) c.of.ensures ∙ held) (sym c.hear_whole.ensures.same) x.1 x.2 in
    (e.0, e.1, hears_ready _ _ (session_from c.in-Some.parts []) ready c.in-Some.ensures.some e.2)

pub returns : goal.returns
returns c =
    let ready : Ready c.args.walk.now = search rules in
    let reads = tells_reading _ (sym (c.may_tell.ensures []) ∙ search rules) in
    let x = c.hear_whole.ensures.run (session_from c.in-Some.parts []) (at_ready c.args.walk.now c.args.memory.now ready) reads refl (is_at_ready c.args.walk.now c.args.memory.now ready) in
    let none : drop c.hear_whole.new.taken c.args.bytes.now ≡ [] = drop_all c.hear_whole.new.taken c.args.bytes.now (omega (arith, c.if-taken-bytes.false)) in
    let e = c.end_ready-came.ensures.run _ _ _ x.2 none refl x.1 in (
      c.end_ready-came.result,
      c.came_code-2.ensures,
      hears_ready _ _ (session_from c.in-Some.parts []) ready c.in-Some.ensures.some (
        record { session = session_from c.end_ready-came.new.parts []; reading = e.0 },
        c.of-2.ensures ∙ is_started _ [] _ refl,
        e.1,
        c.hear_whole.ensures.within,
        subst (λ (rest : List ℕ). StopsBehind (record { session = session_from c.in-Some.parts []; reading = at_ready c.args.walk.now c.args.memory.now ready; rest = c.args.bytes.now }) rest (record { session = session_from c.end_ready-came.new.parts []; reading = e.0 }) (truth c.args.ends) (record { before = c.args.tokens.now; after = c.hear_whole.new.tokens; count = c.hear_whole.new.count }) c.end_ready-came.result) (sym none) e.2,
      ),
    )
