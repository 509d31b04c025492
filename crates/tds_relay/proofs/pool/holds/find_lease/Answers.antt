use Rattle.std.proofs.Common.{◌∙◌, ap, List}
use Rattle.tds_relay.specs.declared.index.Indexed.{Indexed}
use Rattle.tds_relay.specs.declared.pool.Hold.{Hold}
use Rattle.tds_relay.specs.Pool.{find_lease}
use Rattle.tds_relay.specs.Holding.{Held}
use Rattle.tds_relay.specs.Sorted.{first, under}
use Rattle.tds_relay.proofs.indexed.Holding.{first_lease}
use Rattle.tds_relay.proofs.pool.holds.find_lease.Goals as goal

pub returns : goal.returns
returns c =
    c.find.ensures.is ∙ (ap (λ (es : List (Indexed Hold)). first (under c.args.lease es)) c.deref.ensures.value
    ∙ (ap first (c.holds.invariant.by_lease.finds c.args.lease)
    ∙ (first_lease c.args.lease c.holds.inside.list.items ∙ ap (λ (v : Held). find_lease c.args.lease v.items) c.holds.view_is)))
