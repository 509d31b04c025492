use Rattle.std.proofs.Common.{◌∙◌, ℕ, List, ap, sym}
use Rattle.tds_relay.specs.declared.index.Indexed.{Indexed}
use Rattle.tds_relay.specs.Sorted.{first, under}
use Rattle.tds_relay.specs.Linking.{Linked}
use Rattle.tds_relay.specs.Reads.{place_of}
use Rattle.tds_relay.proofs.steps.Placed.{within_is}
use Rattle.tds_relay.proofs.links.place_in.Goals as goal

pub returns-clause-within : goal.returns-clause-within
returns-clause-within c =
    within_is c.find.result c.args.number c.args.links.now.items
    (sym (c.find.ensures.is ∙ (ap (λ (es : List (Indexed ℕ)). first (under c.args.number es)) c.deref.ensures.value
    ∙ (c.links.invariant.finds c.args.number ∙ ap (λ (v : Linked). place_of c.args.number v.items) c.links.view_is))))
