use Rattle.std.proofs.Common.{List, sym, subst}
use Rattle.tds_service.specs.declared.index.Indexed.{Indexed}
use Rattle.tds_service.specs.Index.{AddsId}
use Rattle.tds_service.proofs.Ids.{adds}
use Rattle.tds_service.proofs.index.add.Goals as goal

pub returns-clause-adds : goal.returns-clause-adds
returns-clause-adds c =
    let new : Indexed = record { id = c.args.id; number = c.args.number } in
    subst (λ (es : List Indexed). AddsId c.args.index.now.items es c.args.id c.args.number) (sym c.push_reserved.ensures.items)
    (adds c.args.index.now.items new c.requires.newest)
