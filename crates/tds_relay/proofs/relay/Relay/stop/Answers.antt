use Rattle.tds_relay.specs.Bodies.{ClientStops}
use Rattle.tds_relay.specs.Ties.{Application, pool_in}
use Rattle.tds_relay.proofs.steps.Fronts.{moves_does, moves_same}
use Rattle.tds_relay.proofs.steps.Reaching.{reaches_turn}
use Rattle.tds_relay.proofs.spared.Reasons.{asked_not, is_asked, refused_there, unstopped}
use Rattle.tds_relay.proofs.seats.Relays.{pool_seated}
use Rattle.tds_relay.proofs.seats.Pools.{action_seated}
use Rattle.tds_relay.specs.Pool.{Pool, Stops}
use Rattle.std.proofs.Common.{ap, ◌≡◌, List, false, inr, ℕ, refl, rules, subst}
use Rattle.tds_relay.proofs.spared.Speaking.{done_as}
use Rattle.tds_service.specs.Service as calls
use Rattle.tds_relay.proofs.lending.Tending.{none_same, tend_here}
use Rattle.tds_relay.proofs.lending.Newly.{turned_was}
use Rattle.tds_relay.proofs.relay.Relay.stop.Goals as goal

pub returns-then-matches-clause-goes : goal.returns-then-matches-clause-goes
returns-then-matches-clause-goes c = λ from h. reaches_turn (Application c.args.key) from _ _ _ _ _ c.in-Ok.ensures.ok refl h

pub returns-then-matches-clause-moves : goal.returns-then-matches-clause-moves
returns-then-matches-clause-moves c = λ es here from h. moves_does (Application c.args.key) from _ _ _ _ _ _ _ c.in-Ok.ensures.ok (tt, here, tt) refl refl h

pub returns-then-matches-clause-some : goal.returns-then-matches-clause-some
returns-then-matches-clause-some c = (_, _, c.in-Ok.ensures.ok)

pub returns-else-matches-clause-goes : goal.returns-else-matches-clause-goes
returns-else-matches-clause-goes c = λ from h. reaches_turn (Application c.args.key) from _ _ _ _ _ c.in-Ok.ensures.ok refl h

pub returns-else-matches-clause-moves : goal.returns-else-matches-clause-moves
returns-else-matches-clause-moves c = λ es here from h. moves_does (Application c.args.key) from _ _ _ _ _ _ _ c.in-Ok.ensures.ok (tt, here, tt) refl refl h

pub returns-in_ok-unless_memory-in-Err-clause-moves : goal.returns-in_ok-unless_memory-in-Err-clause-moves
returns-in_ok-unless_memory-in-Err-clause-moves c = λ es here from h. moves_same (Application c.args.key) from _ _ _ _ c.in-Err.ensures.err refl h

pub returns-in_err-unless_memory-in-Err-clause-moves : goal.returns-in_err-unless_memory-in-Err-clause-moves
returns-in_err-unless_memory-in-Err-clause-moves c = λ es here from h. moves_same (Application c.args.key) from _ _ _ _ c.in-Err.ensures.err refl h

pub returns-then-matches-clause-stops : goal.returns-then-matches-clause-stops
returns-then-matches-clause-stops c = record {
  hold = c.in-Ok.hold;
  its = c.in-Ok.ensures.whose;
  number_is = refl;
  stops = subst (λ (xs : List ℕ). ClientStops c.args.key c.args.self.now.pool c.cancel.new.self xs c.cancel.new.out.items) (search rules) c.in-Ok.ensures.stops;
}

pub returns-in_ok-unless_memory-in-Err-clause-none : goal.returns-in_ok-unless_memory-in-Err-clause-none
returns-in_ok-unless_memory-in-Err-clause-none c =
    unstopped c.args.key c.args.self.now.pool (refused_there (λ lease count. calls.Cancel lease) c.args.key c.args.self.now.pool c.in-Err.refusal c.in_ok-unless_memory-in-Err.ensures (λ hold its count. c.in-Err.ensures.refused hold its))

pub returns-else-matches-clause-none : goal.returns-else-matches-clause-none
returns-else-matches-clause-none c =
    let not : is_asked c.in-Ok.how ≡ false = search rules in
    inr (inr (record {
      hold = c.in-Ok.hold;
      its = c.in-Ok.ensures.whose;
      request = c.in-Ok.ensures.how.0;
      how = c.in-Ok.how;
      answers = c.in-Ok.ensures.how.1;
      not_asked = asked_not c.in-Ok.how not;
    }))

pub returns-then-matches-clause-seated : goal.returns-then-matches-clause-seated
returns-then-matches-clause-seated c = λ s. action_seated c.args.key Stops (pool_in c.args.self.now.pool) (pool_in c.cancel.new.self) _ _ c.args.self.now.links.items c.in-Ok.ensures.ok s

pub returns-else-matches-clause-seated : goal.returns-else-matches-clause-seated
returns-else-matches-clause-seated c = λ s. action_seated c.args.key Stops (pool_in c.args.self.now.pool) (pool_in c.cancel.new.self) _ _ c.args.self.now.links.items c.in-Ok.ensures.ok s

pub returns-in_ok-unless_memory-in-Err-clause-seated : goal.returns-in_ok-unless_memory-in-Err-clause-seated
returns-in_ok-unless_memory-in-Err-clause-seated c = λ s. pool_seated (pool_in c.args.self.now.pool) (pool_in c.cancel.new.self) c.args.self.now.links.items c.in-Err.ensures.err s

pub returns-in_err-unless_memory-in-Err-clause-seated : goal.returns-in_err-unless_memory-in-Err-clause-seated
returns-in_err-unless_memory-in-Err-clause-seated c = λ s. pool_seated (pool_in c.args.self.now.pool) (pool_in c.cancel.new.self) c.args.self.now.links.items c.in-Err.ensures.err s

pub returns-then-matches-clause-others : goal.returns-then-matches-clause-others
returns-then-matches-clause-others c = λ reached. done_as c.args.key c.args.self.now _ reached c.cancel.ensures.others refl (λ k goes. refl)

pub returns-else-matches-clause-others : goal.returns-else-matches-clause-others
returns-else-matches-clause-others c = λ reached. done_as c.args.key c.args.self.now _ reached c.cancel.ensures.others refl (λ k goes. refl)

pub returns-in_ok-unless_memory-in-Err-clause-others : goal.returns-in_ok-unless_memory-in-Err-clause-others
returns-in_ok-unless_memory-in-Err-clause-others c = λ reached. done_as c.args.key c.args.self.now _ reached c.cancel.ensures.others refl (λ k goes. refl)

pub returns-in_err-unless_memory-in-Err-clause-others : goal.returns-in_err-unless_memory-in-Err-clause-others
returns-in_err-unless_memory-in-Err-clause-others c = λ reached. done_as c.args.key c.args.self.now _ reached c.cancel.ensures.others refl (λ k goes. refl)

pub returns-then-matches-clause-holds : goal.returns-then-matches-clause-holds
returns-then-matches-clause-holds c = c.in-Ok.ensures.stops.same

pub returns-else-matches-clause-holds : goal.returns-else-matches-clause-holds
returns-else-matches-clause-holds c = c.in-Ok.ensures.stops.same

pub returns-in_ok-unless_memory-in-Err-clause-holds : goal.returns-in_ok-unless_memory-in-Err-clause-holds
returns-in_ok-unless_memory-in-Err-clause-holds c = ap (λ (d : Pool). d.holds) c.in-Err.ensures.err

pub returns-in_err-unless_memory-in-Err-clause-holds : goal.returns-in_err-unless_memory-in-Err-clause-holds
returns-in_err-unless_memory-in-Err-clause-holds c = ap (λ (d : Pool). d.holds) c.in-Err.ensures.err

pub returns-then-matches-clause-awaits : goal.returns-then-matches-clause-awaits
returns-then-matches-clause-awaits c = tend_here (pool_in c.args.self.now.pool) (pool_in c.cancel.new.self) c.args.self.now.links.items (λ reached n. turned_was n _ _ _ _ _ reached c.in-Ok.ensures.ok tt)

pub returns-else-matches-clause-awaits : goal.returns-else-matches-clause-awaits
returns-else-matches-clause-awaits c = tend_here (pool_in c.args.self.now.pool) (pool_in c.cancel.new.self) c.args.self.now.links.items (λ reached n. turned_was n _ _ _ _ _ reached c.in-Ok.ensures.ok tt)

pub returns-in_ok-unless_memory-in-Err-clause-awaits : goal.returns-in_ok-unless_memory-in-Err-clause-awaits
returns-in_ok-unless_memory-in-Err-clause-awaits c =
    tend_here (pool_in c.args.self.now.pool) (pool_in c.cancel.new.self) c.args.self.now.links.items (λ reached. none_same (pool_in c.args.self.now.pool) (pool_in c.cancel.new.self) c.in-Err.ensures.err)

pub returns-in_err-unless_memory-in-Err-clause-awaits : goal.returns-in_err-unless_memory-in-Err-clause-awaits
returns-in_err-unless_memory-in-Err-clause-awaits c =
    tend_here (pool_in c.args.self.now.pool) (pool_in c.cancel.new.self) c.args.self.now.links.items (λ reached. none_same (pool_in c.args.self.now.pool) (pool_in c.cancel.new.self) c.in-Err.ensures.err)
