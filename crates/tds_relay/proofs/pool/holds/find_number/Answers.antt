use Rattle.std.proofs.Common.{◌∙◌, ap, List}
use Rattle.tds_relay.specs.declared.index.Indexed.{Indexed}
use Rattle.tds_relay.specs.declared.pool.Hold.{Hold}
use Rattle.tds_relay.specs.Pool.{find_number}
use Rattle.tds_relay.specs.Holding.{Held}
use Rattle.tds_relay.specs.Sorted.{first, under}
use Rattle.tds_relay.proofs.indexed.Holding.{first_number}
use Rattle.tds_relay.proofs.pool.holds.find_number.Goals as goal

pub returns : goal.returns
returns c =
    c.find.ensures.is ∙ (ap (λ (es : List (Indexed Hold)). first (under c.args.number es)) c.deref.ensures.value
    ∙ (ap first (c.holds.invariant.by_number.finds c.args.number)
    ∙ (first_number c.args.number c.holds.inside.list.items ∙ ap (λ (v : Held). find_number c.args.number v.items) c.holds.view_is)))
