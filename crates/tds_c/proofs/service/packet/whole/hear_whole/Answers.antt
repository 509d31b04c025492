use Rattle.std.proofs.Common.{◌≡◌, ◌∙◌, ◌<◌, ℕ, List, [], Some, length, drop, refl, sym, ap, arith, rules, subst}
use Rattle.std.proofs.lemmas.List.{drop-drop, length-drop}
use Rattle.std.specs.Prelude.{IfSome, Option, true}
use Rattle.tds_walk.specs.Taking.{TakesToken}
use Rattle.tds_wire.specs.declared.told.Token.{Token}
use Rattle.tds_wire.specs.Reading.{Parser, Sees, next_token}
use Rattle.tds_c.specs.service.Here.{Start}
use Rattle.tds_c.proofs.service.Here.{broken_by_token, come_none, come_on, moved_by_token, stops_broken}
use Rattle.tds_c.proofs.service.packet.whole.hear_whole.Goals as goal

pub tokens-init : goal.tokens-init
tokens-init c = record { ready = c.requires.ready; run = λ first is. (first, is, come_none _ _); same = refl; room = search rules; within = search rules }

pub returns-in-Err-clause-run : goal.returns-in-Err-clause-run
returns-in-Err-clause-run c = λ first is.
    let takes : TakesToken c.args.memory.now c.tokens.walk c.take_token-size.new.walk c.in-Some.token c.take_token-size.result c.behind.result.now =
    subst (λ (o : Option Token). IfSome o (λ t. TakesToken c.args.memory.now c.tokens.walk c.take_token-size.new.walk t c.take_token-size.result c.behind.result.now)) c.in-Some.is c.take_token-size.ensures.taken in
    let so = c.tokens.invariant.run first is in
    let rest = drop c.tokens.done c.args.bytes.now in
    let seen = takes so.0 so.1 in
    let at : Start = record { seat = c.tokens.seat; reading = so.0; rest = rest } in
    let found : next_token so.0 rest ≡ Sees c.in-Some.token seen.0 (drop c.take_token-size.result rest) =
    subst (λ (xs : List ℕ). next_token so.0 xs ≡ Sees c.in-Some.token seen.0 (drop c.take_token-size.result xs)) c.behind.ensures seen.2 in (
      seen.0,
      seen.1,
      rw (c.in-Err.ensures.stays, c.in-Err.ensures.same)
          (stops_broken _ at _ so.2 c.hear_token.new.seat seen.0 c.in-Err.fault
          (broken_by_token c.tokens.seat c.hear_token.new.seat so.0 seen.0 rest c.take_token-size.result c.in-Some.token c.in-Err.fault found c.in-Err.ensures.fault)
          (search rules) true),
    )

pub tokens-preserved : goal.tokens-preserved
tokens-preserved c =
    let takes : TakesToken c.args.memory.now c.tokens.walk c.take_token-size.new.walk c.in-Some.token c.take_token-size.result c.behind.result.now =
    subst (λ (o : Option Token). IfSome o (λ t. TakesToken c.args.memory.now c.tokens.walk c.take_token-size.new.walk t c.take_token-size.result c.behind.result.now)) c.in-Some.is c.take_token-size.ensures.taken in
    let rest = drop c.tokens.done c.args.bytes.now in
    record {
      ready = c.take_token-size.ensures.ready;
      run = λ first is.
          let so = c.tokens.invariant.run first is in
          let seen = takes so.0 so.1 in
          let heard = c.in_default-hear_token.ensures.ok in
          let at : Start = record { seat = c.tokens.seat; reading = so.0; rest = rest } in
          let to : Start = record { seat = c.hear_token.new.seat; reading = seen.0; rest = drop c.take_token-size.result rest } in
          let found : next_token so.0 rest ≡ Sees c.in-Some.token seen.0 (drop c.take_token-size.result rest) =
          subst (λ (xs : List ℕ). next_token so.0 xs ≡ Sees c.in-Some.token seen.0 (drop c.take_token-size.result xs)) c.behind.ensures seen.2 in (
            seen.0,
            seen.1,
            rw (sym (drop-drop c.take_token-size.result c.tokens.done c.args.bytes.now))
                (come_on _ at to heard.0 _ _ _ _ _
                (moved_by_token c.tokens.seat c.hear_token.new.seat so.0 seen.0 rest c.take_token-size.result c.in-Some.token heard.0 found heard.1)
                c.tokens.invariant.same heard.2 so.2),
          );
      same = c.hear_token.ensures.room ∙ c.tokens.invariant.same;
      room = search rules;
      within = omega (arith, c.take_token-size.ensures.within, ap length c.behind.ensures, length-drop c.tokens.done c.args.bytes.now, c.tokens.invariant.within);
    }
