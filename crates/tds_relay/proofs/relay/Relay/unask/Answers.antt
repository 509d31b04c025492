use Rattle.std.proofs.Common.{ap, List, inl, inr, refl, rules, subst, ℕ, sym}
use Rattle.tds_relay.specs.Bodies.{ClientStops, going_of, standing_in}
use Rattle.tds_relay.specs.Ties.{Application, pool_in, IsReached}
use Rattle.tds_relay.proofs.steps.Fronts.{moves_closes, moves_does}
use Rattle.tds_relay.proofs.steps.Reaching.{ok_more, reaches_turn, reached_turn}
use Rattle.tds_relay.proofs.bytes.Calls.{stand_on}
use Rattle.tds_relay.proofs.spared.Reasons.{for_reason, for_that, stops_unfit, refused_there, uncancelled}
use Rattle.tds_relay.proofs.seats.Relays.{pool_seated}
use Rattle.tds_relay.proofs.seats.Pools.{action_seated}
use Rattle.tds_relay.specs.Pool.{Stops, Pool, find_number}
use Rattle.tds_relay.proofs.spared.Speaking.{done_as, stopped_held}
use Rattle.tds_relay.proofs.lending.Resting.{others_on}
use Rattle.tds_relay.specs.Pool as pool
use Rattle.tds_service.specs.Service as calls
use Rattle.tds_relay.specs.Core.{end_at}
use Rattle.tds_relay.specs.Fronts.{ends_in}
use Rattle.tds_relay.proofs.spared.Elsewhere.{keeps_on}
use Rattle.tds_relay.proofs.steps.Bodied.{shut}
use Rattle.tds_relay.proofs.steps.Halting.{cancelled_going, cancelled_shut}
use Rattle.tds_relay.proofs.steps.Underway.{out_still}
use Rattle.tds_relay.proofs.lending.Tending.{none_same, none_on, tend_at, tend_here, tend_kept}
use Rattle.tds_relay.proofs.lending.Newly.{turned_was}
use Rattle.tds_relay.proofs.relay.Relay.unask.Goals as goal

pub returns-then-not-has_nothing_out-clause-moves : goal.returns-then-not-has_nothing_out-clause-moves
returns-then-not-has_nothing_out-clause-moves c = ok_more c.expel.result _ _ (λ m quiet from h. m from (moves_closes (Application c.args.key) from _ _ _ _ c.args.key refl refl h)) c.expel.ensures.moves

pub returns-in-Ok-clause-goes : goal.returns-in-Ok-clause-goes
returns-in-Ok-clause-goes c = ok_more c.send_stop.result _ _ (λ g from h. g (Application c.args.key) from (reaches_turn (Application c.args.key) from _ _ _ _ _ c.in-Ok.ensures.ok refl h)) c.send_stop.ensures.goes

pub returns-in-Ok-clause-moves : goal.returns-in-Ok-clause-moves
returns-in-Ok-clause-moves c =
    ok_more c.send_stop.result _ _
    (λ m quiet from h. m (Application c.args.key) from (moves_does (Application c.args.key) from _ _ _ _ _ _ _ c.in-Ok.ensures.ok (tt, quiet, tt) refl refl h))
    c.send_stop.ensures.moves

pub returns-in_ok-unless_memory-in-Err-clause-moves : goal.returns-in_ok-unless_memory-in-Err-clause-moves
returns-in_ok-unless_memory-in-Err-clause-moves c =
    ok_more c.expel-in-Err.result _ _ (λ m quiet from h. m from (moves_closes (Application c.args.key) from _ _ _ _ c.args.key c.in-Err.ensures.err refl h)) c.expel-in-Err.ensures.moves

pub returns-in-Ok-clause-stand : goal.returns-in-Ok-clause-stand
returns-in-Ok-clause-stand c = stand_on c.send_stop.result _ _ _ c.in-Ok.ensures.stand c.send_stop.ensures.stand

pub returns-in_ok-unless_memory-in-Err-clause-stand : goal.returns-in_ok-unless_memory-in-Err-clause-stand
returns-in_ok-unless_memory-in-Err-clause-stand c = stand_on c.expel-in-Err.result _ _ _ c.in-Err.ensures.stand c.expel-in-Err.ensures.stand

pub returns-in-Ok-clause-closes : goal.returns-in-Ok-clause-closes
returns-in-Ok-clause-closes c =
    let stops = subst (λ (xs : List ℕ). ClientStops c.args.key c.args.self.now.pool c.cancel.new.self xs c.cancel.new.out.items) (search rules) c.in-Ok.ensures.stops in
    for_that c.send_stop.result c.args.key _ _ _ _ (λ none. inr (inr (inr (stops_unfit c.args.key c.args.self.now.pool c.cancel.new.self c.cancel.new.out.items c.args.self.now.links.items c.in-Ok.hold stops c.in-Ok.ensures.whose none)))) c.send_stop.ensures.closes

pub returns-in_ok-unless_memory-in-Err-clause-closes : goal.returns-in_ok-unless_memory-in-Err-clause-closes
returns-in_ok-unless_memory-in-Err-clause-closes c =
    for_reason c.expel-in-Err.result c.args.key _ _ _
    (uncancelled c.args.key (end_at (ends_in c.args.self.now.applications) c.args.key) c.args.self.now.pool c.args.self.now.links.items (refused_there (λ lease count. calls.Cancel lease) c.args.key c.args.self.now.pool c.in-Err.refusal c.in_ok-unless_memory-in-Err.ensures (λ hold its count. c.in-Err.ensures.refused hold its))) c.expel-in-Err.ensures.closes

pub returns-then-not-has_nothing_out-clause-closes : goal.returns-then-not-has_nothing_out-clause-closes
returns-then-not-has_nothing_out-clause-closes c = for_reason c.expel.result c.args.key _ _ _ (inr (inl (c.has_nothing_out.ensures.out (search rules)))) c.expel.ensures.closes

pub returns-in-Ok-clause-seated : goal.returns-in-Ok-clause-seated
returns-in-Ok-clause-seated c = λ s. c.send_stop.ensures.seated (action_seated c.args.key Stops (pool_in c.args.self.now.pool) (pool_in c.cancel.new.self) _ _ c.args.self.now.links.items c.in-Ok.ensures.ok s)

pub returns-in_ok-unless_memory-in-Err-clause-seated : goal.returns-in_ok-unless_memory-in-Err-clause-seated
returns-in_ok-unless_memory-in-Err-clause-seated c = λ s. c.expel-in-Err.ensures.seated (pool_seated (pool_in c.args.self.now.pool) (pool_in c.cancel.new.self) c.args.self.now.links.items c.in-Err.ensures.err s)

pub returns-then-not-has_nothing_out-clause-others : goal.returns-then-not-has_nothing_out-clause-others
returns-then-not-has_nothing_out-clause-others c = c.expel.ensures.others

pub returns-in-Ok-clause-others : goal.returns-in-Ok-clause-others
returns-in-Ok-clause-others c = λ reached.
    others_on c.send_stop.result c.args.key c.args.self.now _ c.send_stop.new.self
    (c.send_stop.ensures.others (reached_turn _ _ (pool.Does c.args.key Stops) _ _ c.in-Ok.ensures.ok reached) c.in-Ok.hold (stopped_held c.args.key c.args.self.now.pool c.cancel.new.self c.in-Ok.hold _ _ c.in-Ok.ensures.stops c.in-Ok.ensures.whose) refl)
    (done_as c.args.key c.args.self.now _ reached c.cancel.ensures.others refl (λ k goes. refl))

pub returns-in_ok-unless_memory-in-Err-clause-others : goal.returns-in_ok-unless_memory-in-Err-clause-others
returns-in_ok-unless_memory-in-Err-clause-others c = λ reached.
    others_on c.expel-in-Err.result c.args.key c.args.self.now _ c.expel-in-Err.new.self (c.expel-in-Err.ensures.others (subst (λ (d : Pool). IsReached d) (sym c.in-Err.ensures.err) reached))
    (done_as c.args.key c.args.self.now _ reached c.cancel.ensures.others refl (λ k goes. refl))

pub returns-then-not-has_nothing_out-clause-aside : goal.returns-then-not-has_nothing_out-clause-aside
returns-then-not-has_nothing_out-clause-aside c = c.expel.ensures.aside

pub returns-in-Ok-clause-aside : goal.returns-in-Ok-clause-aside
returns-in-Ok-clause-aside c = λ reached.
    keeps_on c.send_stop.result c.args.key c.args.self.now.pool.holds.items c.cancel.new.self.holds.items c.send_stop.new.self.pool.holds.items c.args.self.now.links.items c.args.self.now.links.items c.send_stop.new.self.links.items
    (λ n differs. (ap (find_number n) c.in-Ok.ensures.stops.same, refl))
    (c.send_stop.ensures.aside (reached_turn _ _ (pool.Does c.args.key Stops) _ _ c.in-Ok.ensures.ok reached) c.in-Ok.hold (stopped_held c.args.key c.args.self.now.pool c.cancel.new.self c.in-Ok.hold _ _ c.in-Ok.ensures.stops c.in-Ok.ensures.whose) refl)

pub returns-in_ok-unless_memory-in-Err-clause-aside : goal.returns-in_ok-unless_memory-in-Err-clause-aside
returns-in_ok-unless_memory-in-Err-clause-aside c = λ reached.
    keeps_on c.expel-in-Err.result c.args.key c.args.self.now.pool.holds.items c.cancel.new.self.holds.items c.expel-in-Err.new.self.pool.holds.items c.args.self.now.links.items c.args.self.now.links.items c.expel-in-Err.new.self.links.items
    (λ n differs. (ap (λ (d : Pool). find_number n d.holds) c.in-Err.ensures.err, refl)) (c.expel-in-Err.ensures.aside (subst (λ (d : Pool). IsReached d) (sym c.in-Err.ensures.err) reached))

pub returns-then-not-has_nothing_out-clause-cancels : goal.returns-then-not-has_nothing_out-clause-cancels
returns-then-not-has_nothing_out-clause-cancels c =
    ok_more c.expel.result _ _ (λ d. cancelled_shut (going_of c.args.key c.args.self.now) (standing_in c.args.key c.expel.new.self) (shut c.expel.new.self.applications c.args.key (going_of c.args.key c.expel.new.self) d)) c.expel.ensures.over

pub returns-in-Ok-clause-cancels : goal.returns-in-Ok-clause-cancels
returns-in-Ok-clause-cancels c =
    let stops = subst (λ (xs : List ℕ). ClientStops c.args.key c.args.self.now.pool c.cancel.new.self xs c.cancel.new.out.items) (search rules) c.in-Ok.ensures.stops in
    ok_more c.send_stop.result _ _
    (λ s. cancelled_going c.args.key c.in-Ok.hold.number c.args.self.now.pool c.cancel.new.self c.cancel.new.out.items c.args.self.now.links.items c.in-Ok.hold c.send_stop.new.self c.in-Ok.ensures.whose refl stops s)
    c.send_stop.ensures.sends

pub returns-in_ok-unless_memory-in-Err-clause-cancels : goal.returns-in_ok-unless_memory-in-Err-clause-cancels
returns-in_ok-unless_memory-in-Err-clause-cancels c =
    ok_more c.expel-in-Err.result _ _ (λ d. cancelled_shut (going_of c.args.key c.args.self.now) (standing_in c.args.key c.expel-in-Err.new.self) (shut c.expel-in-Err.new.self.applications c.args.key (going_of c.args.key c.expel-in-Err.new.self) d)) c.expel-in-Err.ensures.over

pub returns-then-not-has_nothing_out-clause-away : goal.returns-then-not-has_nothing_out-clause-away
returns-then-not-has_nothing_out-clause-away c = λ out. c.expel.ensures.away

pub returns-in-Ok-clause-away : goal.returns-in-Ok-clause-away
returns-in-Ok-clause-away c = λ out. c.send_stop.ensures.away (out_still c.args.key Stops (pool_in c.args.self.now.pool) (pool_in c.cancel.new.self) c.in-Ok.ensures.ok.pool_is out)

pub returns-in_ok-unless_memory-in-Err-clause-away : goal.returns-in_ok-unless_memory-in-Err-clause-away
returns-in_ok-unless_memory-in-Err-clause-away c = λ out. c.expel-in-Err.ensures.away

pub returns-in-Ok-clause-awaits : goal.returns-in-Ok-clause-awaits
returns-in-Ok-clause-awaits c =
    tend_kept c.send_stop.result c.args.key c.args.self.now c.send_stop.new.self
    (none_on c.send_stop.result (pool_in c.args.self.now.pool) (pool_in c.cancel.new.self) (pool_in c.send_stop.new.self.pool) (reached_turn _ _ _ _ _ c.in-Ok.ensures.ok) (λ reached n. turned_was n _ _ _ _ _ reached c.in-Ok.ensures.ok tt)
    c.send_stop.ensures.goes) (returns-in-Ok-clause-aside c)

pub returns-in_ok-unless_memory-in-Err-clause-awaits : goal.returns-in_ok-unless_memory-in-Err-clause-awaits
returns-in_ok-unless_memory-in-Err-clause-awaits c =
    tend_at c.expel-in-Err.result (pool_in c.args.self.now.pool) (pool_in c.cancel.new.self) (pool_in c.expel-in-Err.new.self.pool) c.args.self.now.links.items c.args.self.now.links.items c.expel-in-Err.new.self.links.items
    (λ reached. subst (λ (d : Pool). IsReached d) (sym c.in-Err.ensures.err) reached)
    (tend_here (pool_in c.args.self.now.pool) (pool_in c.cancel.new.self) c.args.self.now.links.items (λ reached. none_same (pool_in c.args.self.now.pool) (pool_in c.cancel.new.self) c.in-Err.ensures.err)) c.expel-in-Err.ensures.awaits

pub returns-then-not-has_nothing_out-clause-awaits : goal.returns-then-not-has_nothing_out-clause-awaits
returns-then-not-has_nothing_out-clause-awaits c = c.expel.ensures.awaits
