use Rattle.std.proofs.Common.{◌≡◌, ◌==◌, ◌∙◌, not, sym, ap, subst, rules, List}
use Rattle.std.specs.Prelude.{filter}
use Rattle.std.proofs.lemmas.Fn.{filter_same}
use Rattle.tds_relay.specs.declared.pool.Hold.{Hold}
use Rattle.tds_relay.specs.declared.index.Indexed.{Indexed}
use Rattle.tds_relay.specs.Sorted.{Climbs, ids_in, under}
use Rattle.tds_relay.proofs.indexed.Climbing.{kept_climbs}
use Rattle.tds_relay.proofs.indexed.Index.{kept_under}
use Rattle.tds_relay.proofs.pool.holds.drop_lease.Goals as goal

pub returns-clause-climbs : goal.returns-clause-climbs
returns-clause-climbs c =
    let p = λ (x : Indexed Hold). not (x.item.lease == c.args.lease) in
    let is : c.retain.new.self.items ≡ filter p c.args.index.now.items = filter_same _ p _ (λ x b q t. (search rules, search rules)) _ _ c.retain.ensures.filtered in
    subst (λ (es : List (Indexed Hold)). Climbs (ids_in es)) (sym is) (kept_climbs (λ (x : Indexed Hold). x.id) p c.args.index.now.items c.requires.climbs)

pub returns-clause-drops : goal.returns-clause-drops
returns-clause-drops c = λ id.
    let p = λ (x : Indexed Hold). not (x.item.lease == c.args.lease) in
    let is : c.retain.new.self.items ≡ filter p c.args.index.now.items = filter_same _ p _ (λ x b q t. (search rules, search rules)) _ _ c.retain.ensures.filtered in
    ap (under id) is ∙ kept_under id (λ (h : Hold). not (h.lease == c.args.lease)) c.args.index.now.items
