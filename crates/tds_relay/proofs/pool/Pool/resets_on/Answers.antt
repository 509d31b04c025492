use Rattle.std.proofs.Common.{◌≡◌, rules, subst, sym, ◌∙◌}
use Rattle.tds_packet.specs.declared.status.Reset.TheVariants.{Full, KeepTransaction}
use Rattle.tds_packet.specs.declared.status.Reset.{Reset}
use Rattle.tds_service.specs.Service.{seat_numbered}
use Rattle.tds_relay.specs.Anew.{ResetsNext}
use Rattle.tds_relay.specs.Ties.{pool_in}
use Rattle.tds_relay.proofs.spared.Undone.{kept_not}
use Rattle.tds_relay.proofs.pool.Pool.resets_on.Goals as goal

pub returns-in-Full-clause-resets_not : goal.returns-in-Full-clause-resets_not
returns-in-Full-clause-resets_not c = λ e.
    let is : c.args.reset ≡ Full = search rules in
    subst (λ (r : Reset). ¬ ResetsNext r (seat_numbered c.args.number (pool_in c.args.self.now).service.seats)) (sym is) (c.begins_anew.ensures.not_anew (search rules))

pub returns-in-KeepTransaction-clause-resets_not : goal.returns-in-KeepTransaction-clause-resets_not
returns-in-KeepTransaction-clause-resets_not c = λ e.
    let is : c.args.reset ≡ KeepTransaction = search rules in
    subst (λ (r : Reset). ¬ ResetsNext r (seat_numbered c.args.number (pool_in c.args.self.now).service.seats)) (sym is) (kept_not _ (c.begins_anew.ensures.not_anew (search rules)) (sym c.owes_reset.ensures ∙ e))
