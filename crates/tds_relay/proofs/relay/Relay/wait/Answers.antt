use Rattle.std.proofs.Common.{refl, rules, ap}
use Rattle.tds_relay.proofs.steps.Fronts.{moves_does}
use Rattle.tds_relay.proofs.steps.Reaching.{ok_more, reaches_turn}
use Rattle.tds_relay.proofs.steps.Underway.{in_line}
use Rattle.tds_relay.proofs.spared.Lined.{stands_last}
use Rattle.tds_relay.specs.Fronts.{core_in}
use Rattle.tds_relay.proofs.spared.Only.{spares_refl, spares_waits}
use Rattle.tds_relay.proofs.seats.Relays.{serviced_seated}
use Rattle.tds_relay.specs.Pool.{Waits, Pool}
use Rattle.tds_relay.proofs.relay.Relay.wait.Goals as goal

pub returns-then-is_away-clause-goes : goal.returns-then-is_away-clause-goes
returns-then-is_away-clause-goes c = ok_more c.wait.result _ _ (λ t by cause from h. reaches_turn by from _ _ _ _ _ t cause h) c.wait.ensures.ok

pub returns-then-is_away-clause-moves : goal.returns-then-is_away-clause-moves
returns-then-is_away-clause-moves c =
    ok_more c.wait.result _ _ (λ t by cause begun from h. moves_does by from _ _ _ _ _ _ _ t (c.is_away.ensures.away (search rules), begun) cause refl h) c.wait.ensures.ok

pub returns-then-is_away-clause-underway : goal.returns-then-is_away-clause-underway
returns-then-is_away-clause-underway c = λ none. ok_more c.wait.result _ _ (λ t whole. in_line whole _ c.args.key _ _ _ t.pool_is) c.wait.ensures.ok

pub returns-then-is_away-clause-lines : goal.returns-then-is_away-clause-lines
returns-then-is_away-clause-lines c = ok_more c.wait.result _ _ (λ t. stands_last _ _ c.args.key t.pool_is) c.wait.ensures.ok

pub returns-then-is_away-clause-spares : goal.returns-then-is_away-clause-spares
returns-then-is_away-clause-spares c = ok_more c.wait.result _ _ (λ t number. spares_waits number c.args.key _ _ t.pool_is refl) c.wait.ensures.ok

pub returns-else-is_away-clause-spares : goal.returns-else-is_away-clause-spares
returns-else-is_away-clause-spares c = λ number. spares_refl number _ (core_in c.args.self.now)

pub returns-then-is_away-clause-seated : goal.returns-then-is_away-clause-seated
returns-then-is_away-clause-seated c = λ s. ok_more c.wait.result _ _ (λ t. serviced_seated (Waits c.args.key) c.args.self.now.pool c.wait.new.self c.args.self.now.links.items _ _ t c.wait.ensures.service s) c.wait.ensures.ok

pub returns-then-is_away-clause-holds : goal.returns-then-is_away-clause-holds
returns-then-is_away-clause-holds c = ok_more c.wait.result _ _ (λ t. ap (λ (d : Pool). d.holds) t.pool_is) c.wait.ensures.ok
