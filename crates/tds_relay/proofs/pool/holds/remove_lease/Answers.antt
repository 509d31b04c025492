use Rattle.std.proofs.Common.{◌≡◌, ◌==◌, ◌∙◌, not, sym, ap, subst, rules, List}
use Rattle.std.specs.Prelude.{filter}
use Rattle.std.proofs.lemmas.Fn.{filter_same}
use Rattle.tds_relay.specs.declared.pool.Hold.{Hold}
use Rattle.tds_relay.specs.Pool.{without_lease}
use Rattle.tds_relay.specs.Holding.{Held, IsIndexBy, key_in, lease_in, number_in}
use Rattle.tds_relay.proofs.indexed.Holding.{less_by}
use Rattle.tds_relay.proofs.pool.holds.remove_lease.Goals as goal

pub invariant_of-holds : goal.invariant_of-holds
invariant_of-holds c =
    let p = λ (h : Hold). not (h.lease == c.args.lease) in
    let list = c.holds.inside.list.items in
    let is : c.retain.new.self.items ≡ filter p list = filter_same _ p _ (λ x b q t. (search rules, search rules)) _ _ c.retain.ensures.filtered in
    record {
      by_key = subst (λ (hs : List Hold). IsIndexBy key_in hs c.drop_lease.new.index.items) (sym is)
          (less_by key_in p list c.holds.inside.keys.items c.drop_lease.new.index.items c.holds.invariant.by_key c.drop_lease.ensures.climbs c.drop_lease.ensures.drops);
      by_lease = subst (λ (hs : List Hold). IsIndexBy lease_in hs c.drop_lease-2.new.index.items) (sym is)
          (less_by lease_in p list c.holds.inside.leases.items c.drop_lease-2.new.index.items c.holds.invariant.by_lease c.drop_lease-2.ensures.climbs c.drop_lease-2.ensures.drops);
      by_number = subst (λ (hs : List Hold). IsIndexBy number_in hs c.drop_lease-3.new.index.items) (sym is)
          (less_by number_in p list c.holds.inside.numbers.items c.drop_lease-3.new.index.items c.holds.invariant.by_number c.drop_lease-3.ensures.climbs c.drop_lease-3.ensures.drops);
    }

pub returns : goal.returns
returns c =
    let p = λ (h : Hold). not (h.lease == c.args.lease) in
    let is : c.retain.new.self.items ≡ filter p c.holds.inside.list.items = filter_same _ p _ (λ x b q t. (search rules, search rules)) _ _ c.retain.ensures.filtered in
    is ∙ ap (λ (v : Held). without_lease c.args.lease v.items) c.holds.view_is
