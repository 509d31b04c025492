use Rattle.std.proofs.Common.{◌∙◌, ap, List}
use Rattle.tds_relay.specs.declared.index.Indexed.{Indexed}
use Rattle.tds_relay.specs.declared.pool.Hold.{Hold}
use Rattle.tds_relay.specs.Pool.{find_key}
use Rattle.tds_relay.specs.Holding.{Held}
use Rattle.tds_relay.specs.Sorted.{first, under}
use Rattle.tds_relay.proofs.indexed.Holding.{first_key}
use Rattle.tds_relay.proofs.pool.holds.find_key.Goals as goal

pub returns : goal.returns
returns c =
    c.find.ensures.is ∙ (ap (λ (es : List (Indexed Hold)). first (under c.args.key es)) c.deref.ensures.value
    ∙ (ap first (c.holds.invariant.by_key.finds c.args.key)
    ∙ (first_key c.args.key c.holds.inside.list.items ∙ ap (λ (v : Held). find_key c.args.key v.items) c.holds.view_is)))
