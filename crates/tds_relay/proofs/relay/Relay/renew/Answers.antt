use Rattle.std.proofs.Common.{ap, inl, inr, refl, rules, subst, sym, true, ◌≡◌, ◌∙◌, Option, Some, ℕ, List}
use Rattle.tds_relay.specs.Waiting.{IsUnheldOrTurnedAway}
use Rattle.tds_relay.specs.declared.pool.Pool as code
use Rattle.tds_relay.proofs.steps.Fronts.{moves_closes, moves_does, moves_same}
use Rattle.tds_relay.proofs.steps.Reaching.{ok_more, reaches_turn, reached_turn}
use Rattle.tds_relay.proofs.steps.Staying.{stays_on}
use Rattle.tds_relay.proofs.bytes.Calls.{stand_at, stand_on}
use Rattle.tds_relay.specs.Asking.{Closes}
use Rattle.tds_relay.specs.Bodies.{body_in, body_of, going_of}
use Rattle.slab.specs.Slab.{Slab, get}
use Rattle.tds_relay.specs.declared.application.Application as an
use Rattle.tds_relay.proofs.steps.Bodied.{shut, shut_starts, spared_starts}
use Rattle.tds_relay.proofs.steps.Going.{waits_from}
use Rattle.tds_relay.proofs.steps.Still.{spared_place, waits_place}
use Rattle.tds_relay.specs.Reads.{waits_on}
use Rattle.tds_relay.specs.Pool.{Pool, find_key, find_number, key_of}
use Rattle.std.specs.Prelude.{IsSome}
use Rattle.tds_relay.specs.Fronts.{ends_in}
use Rattle.tds_relay.specs.Reasons.{HasTransaction, Unkept, Unserved}
use Rattle.tds_relay.proofs.spared.Turned.{as_seen, part_at, renewed_held, turned_with}
use Rattle.tds_relay.proofs.spared.Closings.{closes_first}
use Rattle.tds_relay.proofs.spared.Reasons.{for_reason, for_that}
use Rattle.tds_relay.proofs.seats.Relays.{pool_lasting, renewed_on, renews_keep}
use Rattle.tds_relay.specs.declared.pool.leaving.Renewed.TheVariants as renewals
use Rattle.tds_relay.specs.Ties.{Application, IsReached, Reaches, pool_in}
use Rattle.tds_relay.proofs.spared.Speaking.{done_as}
use Rattle.tds_relay.proofs.lending.Resting.{all_others, others_both, others_on}
use Rattle.tds_relay.specs.declared.pool.leaving.Renewed.{Renewed}
use Rattle.tds_relay.specs.Sparing.{IsKeptBy, IsLentLater, IsRenewed}
use Rattle.tds_relay.proofs.spared.Elsewhere.{begun_aside, begun_own, aside_own, keeps_both, keeps_on, renew_keeps}
use Rattle.tds_relay.proofs.spared.Filling.{last_found}
use Rattle.tds_relay.proofs.held.Numbers.{Apart, apart_at}
use Rattle.tds_relay.specs.Lent.{OthersKeep}
use Rattle.tds_relay.specs.declared.pool.Hold.{Hold}
use Rattle.tds_relay.proofs.spared.Rightly.{deaf_right_on, held_right_on}
use Rattle.tds_relay.proofs.lending.Earlier.{anew_kept, relent_anew}
use Rattle.tds_relay.proofs.lending.Tending.{none_on, none_same, none_both, tend_at, tend_here, tend_kept}
use Rattle.tds_relay.proofs.lending.Newly.{turned_was}
use Rattle.tds_relay.proofs.relay.Relay.renew.Goals as goal

pub returns-in-Kept-clause-goes : goal.returns-in-Kept-clause-goes
returns-in-Kept-clause-goes c =
    ok_more c.start_kept.result _ _
    (λ g from h. g (Application c.args.key) from (subst (λ (d : code.Pool). Reaches (Application c.args.key) from (pool_in d)) (sym c.restart.ensures.pool) (reaches_turn (Application c.args.key) from _ _ _ _ _ c.in_ok-hold.ensures.turns refl h)))
    c.start_kept.ensures.goes

pub returns-else-has_transaction-clause-goes : goal.returns-else-has_transaction-clause-goes
returns-else-has_transaction-clause-goes c = ok_more c.change.result _ _ (λ g from h. g from (reaches_turn (Application c.args.key) from _ _ _ _ _ c.in_ok-hold.ensures.turns refl h)) c.change.ensures.goes

pub returns-in-Kept-clause-moves : goal.returns-in-Kept-clause-moves
returns-in-Kept-clause-moves c =
    ok_more c.start_kept.result _ _
    (λ m asks begun held from h. m (Application c.args.key) from (moves_same (Application c.args.key) from _ _ _ _ (ap pool_in c.restart.ensures.pool) c.restart.ensures.ends
    (moves_does (Application c.args.key) from _ _ _ _ _ _ _ c.in_ok-hold.ensures.turns (refl, asks) refl refl h)))
    c.start_kept.ensures.moves

pub returns-else-has_transaction-clause-moves : goal.returns-else-has_transaction-clause-moves
returns-else-has_transaction-clause-moves c =
    let is = subst (λ (r : Renewed). IsRenewed r c.args.key c.args.self.now.pool c.renew.new.self) c.in-NotKept.is c.in_ok-hold.ensures.is in
    ok_more c.change.result _ _
    (λ m asks begun held from h. m (inr (asks, c.has_transaction.ensures.none (search rules))) begun (subst (λ (d : Pool). IsSome (find_key c.args.key d.holds)) (sym is) held) from (moves_does (Application c.args.key) from _ _ _ _ _ _ _ c.in_ok-hold.ensures.turns (refl, asks) refl refl h)) c.change.ensures.moves

pub returns-in-Kept-clause-read : goal.returns-in-Kept-clause-read
returns-in-Kept-clause-read c = stays_on c.start_kept.result _ _ _ c.restart.ensures.read c.start_kept.ensures.read

pub returns-else-has_transaction-clause-underway : goal.returns-else-has_transaction-clause-underway
returns-else-has_transaction-clause-underway c = λ whole waits. ok_more c.change.result _ _ (λ u. u whole) c.change.ensures.underway

pub returns-in-Kept-clause-stand : goal.returns-in-Kept-clause-stand
returns-in-Kept-clause-stand c = stand_on c.start_kept.result _ _ _ (stand_at _ _ _ c.in_ok-hold.ensures.stand c.restart.ensures.pool) c.start_kept.ensures.stand

pub returns-else-has_transaction-clause-stand : goal.returns-else-has_transaction-clause-stand
returns-else-has_transaction-clause-stand c = stand_on c.change.result _ _ _ c.in_ok-hold.ensures.stand c.change.ensures.stand

pub returns-in-Kept-clause-body : goal.returns-in-Kept-clause-body
returns-in-Kept-clause-body c = λ whole waits.
    ok_more c.start_kept.result _ _ (λ s. waits_from (get c.args.self.now.applications c.args.key) (get c.restart.new.self.applications c.args.key) whole (going_of c.args.key c.args.self.now) (going_of c.args.key c.restart.new.self) (body_of c.args.key c.start_kept.new.self) waits
    (ap (λ (s : Slab an.Application). get s c.args.key) c.restart.ensures.same) s) c.start_kept.ensures.body

pub returns-else-has_transaction-clause-body : goal.returns-else-has_transaction-clause-body
returns-else-has_transaction-clause-body c = λ whole waits.
    ok_more c.change.result _ _ (λ s. waits_from (get c.args.self.now.applications c.args.key) (get c.args.self.now.applications c.args.key) whole (going_of c.args.key c.args.self.now) _ (body_of c.args.key c.change.new.self) waits refl (spared_starts _ (body_of c.args.key c.change.new.self) s)) (c.change.ensures.body whole waits)

pub returns-then-has_transaction-clause-goes : goal.returns-then-has_transaction-clause-goes
returns-then-has_transaction-clause-goes c = ok_more c.expel.result _ _ (λ g from h. g from (reaches_turn (Application c.args.key) from _ _ _ _ _ c.in_ok-hold.ensures.turns refl h)) c.expel.ensures.goes

pub returns-then-has_transaction-clause-moves : goal.returns-then-has_transaction-clause-moves
returns-then-has_transaction-clause-moves c =
    ok_more c.expel.result _ _
    (λ m asks begun held from h. m from (moves_closes (Application c.args.key) from _ _ _ _ c.args.key refl refl (moves_does (Application c.args.key) from _ _ _ _ _ _ _ c.in_ok-hold.ensures.turns (refl, asks) refl refl h)))
    c.expel.ensures.moves

pub returns-then-has_transaction-clause-underway : goal.returns-then-has_transaction-clause-underway
returns-then-has_transaction-clause-underway c = λ whole waits. ok_more c.expel.result _ _ (λ d. Closes d) c.expel.ensures.over

pub returns-then-has_transaction-clause-stand : goal.returns-then-has_transaction-clause-stand
returns-then-has_transaction-clause-stand c = stand_on c.expel.result _ _ _ c.in_ok-hold.ensures.stand c.expel.ensures.stand

pub returns-then-has_transaction-clause-body : goal.returns-then-has_transaction-clause-body
returns-then-has_transaction-clause-body c = λ whole waits. ok_more c.expel.result _ _ (λ d. shut_starts c.expel.new.self.applications c.args.key (body_of c.args.key c.args.self.now) (going_of c.args.key c.expel.new.self) d) c.expel.ensures.over

pub returns-in-Kept-clause-closes : goal.returns-in-Kept-clause-closes
returns-in-Kept-clause-closes c =
    let old = c.args.self.now in
    let key = c.args.key in
    let at = c.restart.new.self in
    closes_first c.start_kept.result _ _ _ _
    (for_that c.start_kept.result key (IsUnheldOrTurnedAway key at) _ _ _
    (λ why. Unserved c.renew.new.self (subst (λ (r : Renewed). IsKeptBy r key (pool_in old.pool)) c.in-Kept.is c.in_ok-hold.ensures.keeps) c.in_ok-hold.ensures.turns.pool_is
    (turned_with key at old c.renew.new.self old.links.items c.restart.ensures.pool (ap ends_in c.restart.ensures.same) (λ k goes. ap (λ (s : Slab an.Application). body_in (get s k) goes) c.restart.ensures.same)
    (as_seen old.links.items at.links.items c.restart.ensures.queues c.restart.ensures.read.seen) (renewed_held key old.pool c.renew.new.self at c.in-Kept.hold (subst (λ (r : Renewed). IsRenewed r key old.pool c.renew.new.self) c.in-Kept.is c.in_ok-hold.ensures.is) c.restart.ensures.pool why))) c.start_kept.ensures.closes) c.restart.ensures.closes

pub returns-then-has_transaction-clause-closes : goal.returns-then-has_transaction-clause-closes
returns-then-has_transaction-clause-closes c =
    let key = c.args.key in
    let is = subst (λ (r : Renewed). IsRenewed r key c.args.self.now.pool c.renew.new.self) c.in-NotKept.is c.in_ok-hold.ensures.is in
    for_reason c.expel.result key _ _ _ (Unkept (sym c.in_ok-hold.ensures.turns.pool_is ∙ is) (inl (subst (λ (d : Pool). HasTransaction d key) is (c.has_transaction.ensures.some (search rules))))) c.expel.ensures.closes

pub returns-else-has_transaction-clause-closes : goal.returns-else-has_transaction-clause-closes
returns-else-has_transaction-clause-closes c =
    let key = c.args.key in
    let is = subst (λ (r : Renewed). IsRenewed r key c.args.self.now.pool c.renew.new.self) c.in-NotKept.is c.in_ok-hold.ensures.is in
    for_that c.change.result key _ _ _ _
    (λ why. Unkept (sym c.in_ok-hold.ensures.turns.pool_is ∙ is) (inr (part_at key _ c.renew.new.self c.args.self.now.pool is why))) c.change.ensures.closes

pub returns-in-Kept-clause-seated : goal.returns-in-Kept-clause-seated
returns-in-Kept-clause-seated c = λ s.
    c.start_kept.ensures.seated (pool_lasting c.renew.new.self c.args.self.now.links.items c.restart.new.self c.restart.ensures.pool c.restart.ensures.lasts c.restart.ensures.read (renewed_on c.args.key true c.args.self.now.pool c.renew.new.self _ _ c.args.self.now.links.items c.in_ok-hold.ensures.turns s (renews_keep _ (renewals.Kept c.in-Kept.hold) _ _ c.in-Kept.is (c.in_ok-hold.ensures.seats s.reached))))

pub returns-then-has_transaction-clause-seated : goal.returns-then-has_transaction-clause-seated
returns-then-has_transaction-clause-seated c = λ s.
    c.expel.ensures.seated (renewed_on c.args.key true c.args.self.now.pool c.renew.new.self _ _ c.args.self.now.links.items c.in_ok-hold.ensures.turns s (renews_keep _ (renewals.NotKept) _ _ c.in-NotKept.is (c.in_ok-hold.ensures.seats s.reached)))

pub returns-else-has_transaction-clause-seated : goal.returns-else-has_transaction-clause-seated
returns-else-has_transaction-clause-seated c = λ s.
    c.change.ensures.seated (renewed_on c.args.key true c.args.self.now.pool c.renew.new.self _ _ c.args.self.now.links.items c.in_ok-hold.ensures.turns s (renews_keep _ (renewals.NotKept) _ _ c.in-NotKept.is (c.in_ok-hold.ensures.seats s.reached)))

pub returns-in-Kept-clause-others : goal.returns-in-Kept-clause-others
returns-in-Kept-clause-others c = λ reached.
    let led = reached_turn _ _ _ _ _ c.in_ok-hold.ensures.turns reached in
    others_on c.start_kept.result c.args.key c.args.self.now c.restart.new.self c.start_kept.new.self (c.start_kept.ensures.others (subst (λ (d : code.Pool). IsReached (pool_in d)) (sym c.restart.ensures.pool) led))
    (others_both c.args.key c.args.self.now _ c.restart.new.self (done_as c.args.key c.args.self.now _ reached c.in_ok-hold.ensures.others refl (λ k goes. refl)) (all_others c.args.key _ c.restart.new.self c.restart.ensures.rests))

pub returns-then-has_transaction-clause-others : goal.returns-then-has_transaction-clause-others
returns-then-has_transaction-clause-others c = λ reached.
    others_on c.expel.result c.args.key c.args.self.now _ c.expel.new.self (c.expel.ensures.others (reached_turn _ _ _ _ _ c.in_ok-hold.ensures.turns reached))
    (done_as c.args.key c.args.self.now _ reached c.in_ok-hold.ensures.others refl (λ k goes. refl))

pub returns-else-has_transaction-clause-others : goal.returns-else-has_transaction-clause-others
returns-else-has_transaction-clause-others c = λ reached.
    others_on c.change.result c.args.key c.args.self.now _ c.change.new.self (c.change.ensures.others (reached_turn _ _ _ _ _ c.in_ok-hold.ensures.turns reached))
    (done_as c.args.key c.args.self.now _ reached c.in_ok-hold.ensures.others refl (λ k goes. refl))

pub returns-then-has_transaction-clause-aside : goal.returns-then-has_transaction-clause-aside
returns-then-has_transaction-clause-aside c = λ reached.
    keeps_on c.expel.result c.args.key c.args.self.now.pool.holds.items c.renew.new.self.holds.items c.expel.new.self.pool.holds.items c.args.self.now.links.items c.args.self.now.links.items c.expel.new.self.links.items
    (λ n differs. (renew_keeps (pool_in c.args.self.now.pool) c.args.key n reached differs (pool_in c.renew.new.self) true c.in_ok-hold.ensures.turns.pool_is, refl))
    (c.expel.ensures.aside (reached_turn _ _ _ _ _ c.in_ok-hold.ensures.turns reached))

pub returns-else-has_transaction-clause-aside : goal.returns-else-has_transaction-clause-aside
returns-else-has_transaction-clause-aside c = λ reached.
    keeps_on c.change.result c.args.key c.args.self.now.pool.holds.items c.renew.new.self.holds.items c.change.new.self.pool.holds.items c.args.self.now.links.items c.args.self.now.links.items c.change.new.self.links.items
    (λ n differs. (renew_keeps (pool_in c.args.self.now.pool) c.args.key n reached differs (pool_in c.renew.new.self) true c.in_ok-hold.ensures.turns.pool_is, refl))
    (c.change.ensures.aside (reached_turn _ _ _ _ _ c.in_ok-hold.ensures.turns reached))

pub returns-in-Kept-clause-aside : goal.returns-in-Kept-clause-aside
returns-in-Kept-clause-aside c = λ reached.
    let led = reached_turn _ _ _ _ _ c.in_ok-hold.ensures.turns reached in
    let is = subst (λ (r : Renewed). IsRenewed r c.args.key c.args.self.now.pool c.renew.new.self) c.in-Kept.is c.in_ok-hold.ensures.is in
    let number = c.in-Kept.hold.number in
    let its : key_of (find_number number c.renew.new.self.holds.items) ≡ Some c.args.key =
    ap (λ (hs : List Hold). key_of (find_number number hs)) is.3 ∙ ap key_of (last_found c.in-Kept.hold _ (subst Apart is.3 (apart_at (pool_in c.renew.new.self) led))) ∙ ap (λ (k : ℕ). Some k) is.2 in
    keeps_on c.start_kept.result c.args.key c.args.self.now.pool.holds.items c.restart.new.self.pool.holds.items c.start_kept.new.self.pool.holds.items c.args.self.now.links.items c.restart.new.self.links.items c.start_kept.new.self.links.items
    (subst (λ (d : code.Pool). OthersKeep c.args.key c.args.self.now.pool.holds.items c.args.self.now.links.items d.holds.items c.restart.new.self.links.items) (sym c.restart.ensures.pool)
    (keeps_both c.args.key c.args.self.now.pool.holds.items c.renew.new.self.holds.items c.renew.new.self.holds.items c.args.self.now.links.items c.args.self.now.links.items c.restart.new.self.links.items
    (λ n differs. (renew_keeps (pool_in c.args.self.now.pool) c.args.key n reached differs (pool_in c.renew.new.self) true c.in_ok-hold.ensures.turns.pool_is, refl))
    (begun_aside c.args.key number c.renew.new.self.holds.items c.args.self.now.links.items c.restart.new.self.links.items its
    (begun_own number c.args.self.now.links.items c.restart.new.self.links.items c.restart.ensures.queues c.restart.ensures.others))))
    (aside_own c.start_kept.result c.args.key c.restart.new.self c.start_kept.new.self (c.start_kept.ensures.own (subst (λ (d : code.Pool). IsReached (pool_in d)) (sym c.restart.ensures.pool) led)))

pub returns-in-Kept-clause-right : goal.returns-in-Kept-clause-right
returns-in-Kept-clause-right c = held_right_on c.start_kept.result c.args.key c.start_kept.new.self c.start_kept.ensures.placed

pub returns-then-has_transaction-clause-right : goal.returns-then-has_transaction-clause-right
returns-then-has_transaction-clause-right c = deaf_right_on c.expel.result c.args.key c.expel.new.self c.expel.ensures.over

pub returns-in-Kept-clause-puts : goal.returns-in-Kept-clause-puts
returns-in-Kept-clause-puts c = λ whole waits.
    ok_more c.start_kept.result _ _
    (λ p. waits_place (λ (number : ℕ). waits_on number c.args.self.now.links.items) (λ (number : ℕ). waits_on number c.restart.new.self.links.items) (get c.args.self.now.applications c.args.key) (get c.restart.new.self.applications c.args.key) whole
    (going_of c.args.key c.args.self.now) (going_of c.args.key c.restart.new.self) (body_of c.args.key c.start_kept.new.self) waits
    (ap (λ (s : Slab an.Application). get s c.args.key) c.restart.ensures.same) c.restart.ensures.waits p.starts)
    c.start_kept.ensures.puts

pub returns-then-has_transaction-clause-puts : goal.returns-then-has_transaction-clause-puts
returns-then-has_transaction-clause-puts c = λ whole waits.
    ok_more c.expel.result _ _
    (λ d. spared_place (λ (number : ℕ). waits_on number c.args.self.now.links.items) (body_of c.args.key c.args.self.now) (body_of c.args.key c.expel.new.self) (inr (shut c.expel.new.self.applications c.args.key (going_of c.args.key c.expel.new.self) d)))
    c.expel.ensures.over

pub returns-else-has_transaction-clause-puts : goal.returns-else-has_transaction-clause-puts
returns-else-has_transaction-clause-puts c = λ whole waits.
    let waiting : ℕ → Option (List ℕ) = λ (number : ℕ). waits_on number c.args.self.now.links.items in
    ok_more c.change.result _ _
    (λ s. waits_place waiting waiting (get c.args.self.now.applications c.args.key) (get c.args.self.now.applications c.args.key) whole (going_of c.args.key c.args.self.now) _ (body_of c.args.key c.change.new.self) waits refl (λ number. refl)
    (spared_place waiting _ (body_of c.args.key c.change.new.self) s))
    (c.change.ensures.body whole waits)

pub returns-in-Kept-clause-anew : goal.returns-in-Kept-clause-anew
returns-in-Kept-clause-anew c = λ reached.
    let old = c.args.self.now in
    let key = c.args.key in
    let is = subst (λ (r : Renewed). IsRenewed r key old.pool c.renew.new.self) c.in-Kept.is c.in_ok-hold.ensures.is in
    let later = subst (IsLentLater old.pool.service.given) c.in-Kept.is (c.in_ok-hold.ensures.later reached) in
    relent_anew key old c.restart.new.self c.start_kept.new.self c.renew.new.self c.in-Kept.hold _ _ (Application key) reached c.in_ok-hold.ensures.turns later is c.restart.ensures.pool c.restart.ensures.others c.start_kept.result
    (ok_more c.start_kept.result _ _ (λ g. g (Application key)) c.start_kept.ensures.goes) c.start_kept.ensures.answers

pub returns-then-has_transaction-clause-anew : goal.returns-then-has_transaction-clause-anew
returns-then-has_transaction-clause-anew c = λ reached. anew_kept c.expel.result c.args.self.now c.expel.new.self c.expel.ensures.answers

pub returns-else-has_transaction-clause-anew : goal.returns-else-has_transaction-clause-anew
returns-else-has_transaction-clause-anew c = λ reached. anew_kept c.change.result c.args.self.now c.change.new.self c.change.ensures.answers

pub returns-then-has_transaction-clause-awaits : goal.returns-then-has_transaction-clause-awaits
returns-then-has_transaction-clause-awaits c =
    tend_at c.expel.result (pool_in c.args.self.now.pool) (pool_in c.renew.new.self) (pool_in c.expel.new.self.pool) c.args.self.now.links.items c.args.self.now.links.items c.expel.new.self.links.items
    (reached_turn _ _ _ _ _ c.in_ok-hold.ensures.turns)
    (tend_here (pool_in c.args.self.now.pool) (pool_in c.renew.new.self) c.args.self.now.links.items (λ reached n. turned_was n _ _ _ _ _ reached c.in_ok-hold.ensures.turns tt)) c.expel.ensures.awaits

pub returns-else-has_transaction-clause-awaits : goal.returns-else-has_transaction-clause-awaits
returns-else-has_transaction-clause-awaits c =
    tend_at c.change.result (pool_in c.args.self.now.pool) (pool_in c.renew.new.self) (pool_in c.change.new.self.pool) c.args.self.now.links.items c.args.self.now.links.items c.change.new.self.links.items
    (reached_turn _ _ _ _ _ c.in_ok-hold.ensures.turns)
    (tend_here (pool_in c.args.self.now.pool) (pool_in c.renew.new.self) c.args.self.now.links.items (λ reached n. turned_was n _ _ _ _ _ reached c.in_ok-hold.ensures.turns tt)) c.change.ensures.awaits

pub returns-in-Kept-clause-awaits : goal.returns-in-Kept-clause-awaits
returns-in-Kept-clause-awaits c =
    let old = c.args.self.now in
    let at = c.restart.new.self in
    let led : IsReached (pool_in old.pool) → IsReached (pool_in at.pool) = λ reached. subst (λ (d : code.Pool). IsReached (pool_in d)) (sym c.restart.ensures.pool) (reached_turn _ _ _ _ _ c.in_ok-hold.ensures.turns reached) in
    tend_kept c.start_kept.result c.args.key old c.start_kept.new.self
    (none_on c.start_kept.result (pool_in old.pool) (pool_in at.pool) (pool_in c.start_kept.new.self.pool) led
    (λ reached. none_both (pool_in old.pool) (pool_in c.renew.new.self) (pool_in at.pool) (λ n. turned_was n _ _ _ _ _ reached c.in_ok-hold.ensures.turns tt) (none_same (pool_in c.renew.new.self) (pool_in at.pool) (ap pool_in c.restart.ensures.pool)))
    c.start_kept.ensures.goes) (returns-in-Kept-clause-aside c)
