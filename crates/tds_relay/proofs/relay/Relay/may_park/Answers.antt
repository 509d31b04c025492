use Rattle.std.proofs.Common.{◌∙◌, ap, inl, inr, rules, sym}
use Rattle.slab.specs.Slab.{get}
use Rattle.tds_relay.specs.Pool.{find_key}
use Rattle.tds_relay.specs.Fronts.{ends_in, has_no_request}
use Rattle.tds_relay.specs.Core.{end_at, is_at_end}
use Rattle.tds_relay.specs.Places.{holds_clean, is_by_transactions}
use Rattle.tds_relay.specs.Ties.{pool_in}
use Rattle.tds_relay.proofs.steps.Parked.{never, nobodys_end}
use Rattle.tds_relay.proofs.relay.Relay.may_park.Goals as goal

pub returns-in-Sessions : goal.returns-in-Sessions
returns-in-Sessions c =
    let r = c.args.self.now in
    never (is_by_transactions (pool_in r.pool).mode) (is_at_end (end_at (ends_in r.applications) c.args.key)) (holds_clean (find_key c.args.key (pool_in r.pool).holds) (pool_in r.pool)) (has_no_request (get r.applications c.args.key))
    (inl (ap is_by_transactions (sym c.mode.ensures ∙ c.in-Sessions.is)))

pub returns-in_default : goal.returns-in_default
returns-in_default c =
    let r = c.args.self.now in
    never (is_by_transactions (pool_in r.pool).mode) (is_at_end (end_at (ends_in r.applications) c.args.key)) (holds_clean (find_key c.args.key (pool_in r.pool).holds) (pool_in r.pool)) (has_no_request (get r.applications c.args.key))
    (inr (inl (nobodys_end r.applications c.args.key (search rules))))
