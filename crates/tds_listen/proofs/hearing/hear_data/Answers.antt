use Rattle.std.proofs.Common.{◌≡◌, ◌∙◌, sym, ap, drop, rules}
use Rattle.tds_wire.specs.Reading.{Parser}
use Rattle.tds_listen.specs.Hearing.{heard_data}
use Rattle.tds_listen.proofs.Data.{goes_on, heard_all, stops}
use Rattle.tds_listen.proofs.Rows.{rows_behind}
use Rattle.tds_listen.proofs.hearing.hear_data.Goals as goal

pub tokens-preserved-then-rows-gt0 : goal.tokens-preserved-then-rows-gt0
tokens-preserved-then-rows-gt0 c = record {
  does = c.tokens.invariant.does
      ∙ rows_behind c.cuts_do_not_matter.ensures c.tokens.client c.tokens.parser c.pass_rows-rows.new.parser c.pass_rows-rows.result c.tokens.done c.args.bytes.now c.pass_rows-rows.ensures.exact;
  within = search rules;
}

pub returns-in-Err-clause-exact : goal.returns-in-Err-clause-exact
returns-in-Err-clause-exact c =
    let none : c.pass_rows-rows.result ≡ 0 = search rules in
    c.tokens.invariant.does
    ∙ (ap (λ (r : Parser). heard_data c.tokens.client r (drop c.tokens.done c.args.bytes.now)) (sym (c.pass_rows-rows.ensures.same none))
    ∙ stops c.tokens.client c.pass_rows-rows.new.parser c.args.bytes.now c.tokens.done (search rules) c.in-Err.fault c.in-Err.ensures.exact)

pub tokens-preserved : goal.tokens-preserved
tokens-preserved c =
    let none : c.pass_rows-rows.result ≡ 0 = search rules in
    record {
      does = c.tokens.invariant.does
          ∙ (ap (λ (r : Parser). heard_data c.tokens.client r (drop c.tokens.done c.args.bytes.now)) (sym (c.pass_rows-rows.ensures.same none))
          ∙ goes_on c.tokens.client c.pass_rows-rows.new.parser c.args.bytes.now c.tokens.done (search rules) c.in-Ok.heard.token _ _ c.in-Ok.heard.count c.in-Ok.ensures.exact);
      within = search rules;
    }

pub returns-clause-exact : goal.returns-clause-exact
returns-clause-exact c = c.tokens.invariant.does ∙ heard_all c.tokens.client c.tokens.parser c.args.bytes.now c.tokens.done (search rules)
