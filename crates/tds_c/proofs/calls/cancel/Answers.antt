use Rattle.std.proofs.Common.{rules, refl, ap, ◌∙◌, [], Some}
use Rattle.tds_c.proofs.Starting.{cancels_from, is_started}
use Rattle.tds_c.proofs.calls.cancel.Goals as goal

pub returns-in-Err : goal.returns-in-Err
returns-in-Err c =
    ((_, cancels_from _ _ c.in-Some.ensures.some, c.in-Err.ensures.refused, refl), (refl, refl))

pub returns-then-not-put : goal.returns-then-not-put
returns-then-not-put c =
    ((_, _, _, cancels_from _ _ c.in-Some.ensures.some ∙ ap Some c.in-Ok.ensures.ok, search rules, search rules), (refl, search rules))

pub returns : goal.returns
returns c =
    (_, _, cancels_from _ _ c.in-Some.ensures.some ∙ ap Some c.in-Ok.ensures.ok, c.of.ensures ∙ is_started _ [] _ refl, search rules, search rules)
