use Rattle.std.proofs.Common.{◌∙◌, string_bytes, sym, ap, ◌++◌, arith}
use Rattle.relay_logins.proofs.Letters.{next_letter, last_letter}
use Rattle.relay_logins.proofs.login7.letters_of.Goals as goal

-- src/login7.rt
pub loop-rest-preserved : goal.loop-rest-preserved
loop-rest-preserved c =
    let is = c.in_ok-push.ensures.bytes ∙ ap (λ l. string_bytes c.loop-rest.name ++ l) (c.in_ok-push.ensures.ascii c.shown.ensures.ascii) in
    next_letter (string_bytes c.loop-rest.name) (string_bytes c.push.new.self) c.loop-rest.rest.now c.shown.result c.in-len2-up.len_at_least is c.shown.ensures.is ∙ c.loop-rest.invariant

-- src/login7.rt
pub returns : goal.returns
returns c = sym (last_letter (string_bytes c.loop-rest.name) c.loop-rest.rest.now (omega (arith, c.in_default.len_below))) ∙ c.loop-rest.invariant
