use Rattle.std.proofs.Common.{◌≡◌, ◌∙◌, ◌<◌, List, length, sym, ap, subst}
use Rattle.std.specs.Prelude.{slice_index}
use Rattle.tds_service.specs.declared.index.Indexed.{Indexed}
use Rattle.tds_service.specs.Index.{ForgetsId, ids_in, number_held}
use Rattle.tds_service.proofs.Ids.{forgets, forgets_none}
use Rattle.tds_service.proofs.index.forget.Goals as goal

pub returns-in-Some-clause-forgets : goal.returns-in-Some-clause-forgets
returns-in-Some-clause-forgets c =
    let items = c.args.index.now.items in
    let place = c.in-Some.place in
    let there : place < length items = subst (λ (es : List Indexed). place < length es) c.deref.ensures.value c.in-Some.ensures.found.0 in
    let is : slice_index (ids_in items) place ≡ c.args.id = ap (λ (es : List Indexed). slice_index (ids_in es) place) (sym c.deref.ensures.value) ∙ c.in-Some.ensures.found.1 in
    subst (λ (es : List Indexed). ForgetsId items es c.args.id) (sym c.remove.ensures.items)
    (forgets c.requires.rising.0 c.args.id items c.remove.result place c.requires.rising.1 there is)

pub returns-in-None-clause-forgets : goal.returns-in-None-clause-forgets
returns-in-None-clause-forgets c =
    forgets_none c.args.index.now.items c.args.id (ap (λ (es : List Indexed). number_held es c.args.id) (sym c.deref.ensures.value) ∙ c.in-None.ensures.absent)
