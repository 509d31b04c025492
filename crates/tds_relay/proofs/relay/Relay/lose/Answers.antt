use Rattle.std.proofs.Common.{Option, ℕ, ap, refl, subst, sym, ◌∙◌}
use Rattle.tds_relay.specs.declared.pool.Pool as code
use Rattle.tds_relay.specs.Ties.{Reaches, pool_in}
use Rattle.tds_relay.proofs.steps.Fronts.{moves_loses, moves_same}
use Rattle.tds_relay.proofs.steps.Reaching.{ok_if, ok_more, reaches_turn, reaches_turned}
use Rattle.tds_relay.proofs.bytes.Calls.{stand_at}
use Rattle.tds_relay.proofs.lending.Resting.{lost_on}
use Rattle.tds_relay.specs.Fronts.{ends_in}
use Rattle.tds_relay.specs.Core.{change_whose, closes, holder}
use Rattle.tds_relay.proofs.spared.Apart.{line_loses}
use Rattle.tds_relay.specs.Closings.{IsWho}
use Rattle.tds_relay.proofs.spared.Closings.{closes_more_on}
use Rattle.tds_relay.proofs.seats.Relays.{closed_end}
use Rattle.tds_relay.proofs.seats.Pools.{lost_seated}
use Rattle.tds_relay.proofs.relay.Relay.lose.Goals as goal

pub returns-clause-lost : goal.returns-clause-lost
returns-clause-lost c =
    ok_if c.close.result _ (λ by from h. subst (λ (d : code.Pool). Reaches by from (pool_in d)) (sym c.close.ensures.pool)
    (reaches_turned by from _ _ _ _ _ c.in_ok-key.ensures.turns h))

pub returns-clause-goes : goal.returns-clause-goes
returns-clause-goes c =
    ok_if c.close.result _ (λ by from h. subst (λ (d : code.Pool). Reaches by from (pool_in d)) (sym c.close.ensures.pool)
    (reaches_turn by from _ _ _ _ _ c.in_ok-key.ensures.turns tt h))

pub returns-clause-moves : goal.returns-clause-moves
returns-clause-moves c =
    ok_more c.close.result _ _
    (λ e by from h. moves_same by from _ _ _ _ (ap pool_in c.close.ensures.pool) e
    (moves_loses by from _ _ _ _ c.args.number c.in_ok-key.key _ _ c.in_ok-key.ensures.turns c.in_ok-key.ensures.whose refl h))
    c.close.ensures.ends

pub returns-clause-stand : goal.returns-clause-stand
returns-clause-stand c = ok_if c.close.result _ (stand_at _ _ _ c.in_ok-key.ensures.stand c.close.ensures.pool)

pub returns-clause-rests : goal.returns-clause-rests
returns-clause-rests c = λ reached.
    lost_on c.close.result c.args.number c.args.self.now c.close.new.self _ c.in_ok-key.key reached c.in_ok-key.ensures.whose c.in_ok-key.ensures.off c.close.ensures.pool c.close.ensures.shuts c.close.ensures.others c.close.ensures.asks

pub returns-clause-shuts : goal.returns-clause-shuts
returns-clause-shuts c = ok_more c.close.result _ _ (λ s key e. s key (c.in_ok-key.ensures.whose ∙ e)) c.close.ensures.shuts

pub returns-clause-ends : goal.returns-clause-ends
returns-clause-ends c = ok_more c.close.result _ _ (λ e. e ∙ ap (λ (o : Option ℕ). change_whose o closes (ends_in c.args.self.now.applications)) c.in_ok-key.ensures.whose) c.close.ensures.ends

pub returns-clause-line : goal.returns-clause-line
returns-clause-line c = ok_if c.close.result _ (ap (λ (d : code.Pool). (pool_in d).line) c.close.ensures.pool ∙ line_loses c.args.number _ _ _ _ c.in_ok-key.ensures.turns)

pub returns-clause-closes : goal.returns-clause-closes
returns-clause-closes c = closes_more_on c.close.result (IsWho c.in_ok-key.key) (IsWho (holder (pool_in c.args.self.now.pool) c.args.number)) _ _ (λ key e. sym c.in_ok-key.ensures.whose ∙ e) c.close.ensures.closes

pub returns-clause-seated : goal.returns-clause-seated
returns-clause-seated c = λ s.
    closed_end c.close.result c.args.number c.lose.new.self c.args.self.now.links.items c.close.new.self c.close.ensures.pool c.close.ensures.fewer c.close.ensures.gone c.close.ensures.others
    (lost_seated c.args.number (pool_in c.args.self.now.pool) (pool_in c.lose.new.self) _ _ c.args.self.now.links.items c.in_ok-key.ensures.turns s)

pub returns-clause-holds : goal.returns-clause-holds
returns-clause-holds c = ok_if c.close.result _ (ap (λ (d : code.Pool). d.holds.items) c.close.ensures.pool ∙ c.in_ok-key.ensures.holds)
