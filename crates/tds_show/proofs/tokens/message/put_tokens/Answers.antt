use Rattle.std.proofs.Common.{rules, arith, ◌≡◌, sym, ap, ◌∙◌, ◌+◌, ◌≤◌, ◌<◌, length, drop, Option}
use Rattle.std.proofs.lemmas.List.{length-drop, take_rest}
use Rattle.tds_wire.specs.declared.told.Token.{Token}
use Rattle.tds_wire.specs.Reading.{found_to}
use Rattle.tds_show.proofs.Passing.{at_some, none_left, no_more, ends_inside, ends_refused, one_more}
use Rattle.tds_show.proofs.tokens.message.put_tokens.Goals as goal

pub returns-in-Err-clause-lines : goal.returns-in-Err-clause-lines
returns-in-Err-clause-lines c =
    let m : 0 < c.tokens.most = search rules in
    let n : 0 < length c.tokens.rest.now = search rules in
    let fits : c.tokens.parser.start + length c.tokens.rest.now ≤ 18446744073709551615 = search rules in
    ends_refused _ _ c.tokens.most c.tokens.parser c.tokens.rest.now c.in-Err.refusal m n c.tokens.invariant.plain c.tokens.invariant.ready fits
    (c.tokens_are_passed.ensures _ _ c.tokens.invariant.ready) c.in-Err.ensures.exact c.tokens.invariant.does

pub returns-in-None-clause-lines : goal.returns-in-None-clause-lines
returns-in-None-clause-lines c =
    let m : 0 < c.tokens.most = search rules in
    let n : 0 < length c.tokens.rest.now = search rules in
    ends_inside _ _ c.tokens.most c.tokens.parser c.feed.new.self c.tokens.rest.now m n c.tokens.invariant.plain
    (c.tokens_are_passed.ensures _ _ c.tokens.invariant.ready)
    (ap (λ (t : Option Token). found_to t c.feed.new.self (drop c.in-Ok.fed.count c.tokens.rest.now)) (sym c.in-None.is) ∙ c.in-Ok.ensures.exact)
    c.tokens.invariant.does

pub returns-else-not-is_empty-clause-lines : goal.returns-else-not-is_empty-clause-lines
returns-else-not-is_empty-clause-lines c =
    let e : length c.tokens.rest.now ≡ 0 = search rules in
    none_left _ _ c.tokens.most _ _ c.tokens.rest.now e c.tokens.invariant.does

pub returns-after-tokens-clause-lines : goal.returns-after-tokens-clause-lines
returns-after-tokens-clause-lines c =
    let e : c.tokens.most ≡ 0 = search rules in
    no_more _ _ c.tokens.most _ _ c.tokens.rest.now e c.tokens.invariant.does

pub tokens-preserved : goal.tokens-preserved
tokens-preserved c =
    let m : 0 < c.tokens.most = search rules in
    let n : 0 < length c.tokens.rest.now = search rules in
    let fits : c.tokens.parser.start + length c.tokens.rest.now ≤ 18446744073709551615 = search rules in
    let shorter : length (drop c.in-Ok.fed.count c.tokens.rest.now) ≤ length c.tokens.rest.now = rw (length-drop c.in-Ok.fed.count c.tokens.rest.now) (omega arith) in
    let t =
    one_more _ _ c.tokens.most c.tokens.parser c.feed.new.self c.tokens.rest.now (drop c.in-Ok.fed.count c.tokens.rest.now) c.in-Some.token m n
    c.tokens.invariant.plain c.tokens.invariant.ready fits shorter (c.tokens_are_passed.ensures _ _ c.tokens.invariant.ready)
    (ap (λ (u : Option Token). found_to u c.feed.new.self (drop c.in-Ok.fed.count c.tokens.rest.now)) (sym c.in-Some.is) ∙ c.in-Ok.ensures.exact)
    (at_some _ c.in-Some.is c.in-Ok.ensures.start) c.tokens.invariant.does in
    rw take_rest (record {
      does = rw c.in_ok-put_token.ensures t.does;
      ready = at_some _ c.in-Some.is c.in-Ok.ensures.ready;
      plain = record { most = c.in-Ok.ensures.most ∙ c.tokens.invariant.plain.most; features = c.in-Ok.ensures.features ∙ c.tokens.invariant.plain.features };
      within = t.within ∙ c.tokens.invariant.within;
    })
