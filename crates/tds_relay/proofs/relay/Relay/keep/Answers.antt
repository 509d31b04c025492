use Rattle.std.proofs.Common.{ap, refl, subst, sym, true, ◌≡◌, ◌∙◌, Some}
use Rattle.tds_relay.specs.Waiting.{IsUnheldOrTurnedAway}
use Rattle.tds_relay.specs.declared.pool.Pool as code
use Rattle.tds_relay.specs.Ties.{Connection, Reaches, pool_in, IsReached}
use Rattle.tds_relay.proofs.steps.Fronts.{moves_does, moves_same}
use Rattle.tds_relay.proofs.steps.Reaching.{ok_more, reaches_turn, reached_on, reached_turn}
use Rattle.tds_relay.proofs.steps.Staying.{stays_on}
use Rattle.tds_relay.proofs.bytes.Calls.{stand_at, stand_on}
use Rattle.tds_relay.proofs.spared.Coming.{alike_along, along_on, start_along}
use Rattle.tds_relay.proofs.spared.Ordered.{ordered_on, ordered_same}
use Rattle.tds_relay.proofs.spared.Closings.{closes_first, closes_more_on}
use Rattle.std.proofs.lemmas.Bool.{cases_eq}
use Rattle.slab.specs.Slab.{Slab, get}
use Rattle.tds_relay.specs.declared.application.Application as an
use Rattle.tds_relay.specs.Bodies.{body_in}
use Rattle.tds_relay.specs.Pool.{Pool, find_number, key_of}
use Rattle.tds_relay.specs.Reasons.{ItselfFor, ResumesNotAt, Unserved}
use Rattle.tds_relay.proofs.spared.Turned.{as_seen, renewed_held, resumes_for, stays_for, turned_with}
use Rattle.tds_relay.proofs.spared.Only.{spares_alone_on, spares_none, spares_on, spares_renewed}
use Rattle.tds_relay.specs.Fronts.{ends_in, core_in, core_of_ends}
use Rattle.tds_relay.proofs.bytes.SetAnew.{any_kept}
use Rattle.tds_relay.proofs.seats.Relays.{pool_lasting, renewed_on, renews_keep}
use Rattle.tds_relay.specs.declared.pool.leaving.Renewed.TheVariants as renewals
use Rattle.tds_relay.proofs.spared.Off.{off_more, others_off_on, renewed_off}
use Rattle.tds_relay.proofs.lending.Resting.{all_others, others_both, others_on}
use Rattle.tds_relay.proofs.spared.Speaking.{done_as}
use Rattle.tds_relay.specs.declared.pool.leaving.Renewed.{Renewed}
use Rattle.tds_relay.specs.Sparing.{IsKeptBy, IsRenewed}
use Rattle.std.specs.Prelude.{List, ℕ}
use Rattle.tds_relay.specs.declared.pool.Hold.{Hold}
use Rattle.tds_relay.specs.Lent.{OthersKeep}
use Rattle.tds_relay.proofs.held.Numbers.{Apart, apart_at}
use Rattle.tds_relay.proofs.spared.Elsewhere.{aside_own, begun_aside, begun_own, keeps_both, keeps_on, renew_keeps}
use Rattle.tds_relay.proofs.spared.Filling.{last_found}
use Rattle.tds_relay.proofs.lending.Firsts.{Here, first_as, first_its, first_same, first_then_on}
use Rattle.tds_relay.proofs.lending.Rests.{waiting_free_on, waiting_on, waiting_renewed, waiting_starts}
use Rattle.tds_relay.proofs.lending.Stilled.{still_asked}
use Rattle.tds_relay.proofs.steps.Answering.{ask_same}
use Rattle.tds_relay.proofs.relay.Relay.keep.Goals as goal

pub returns-in-Kept-clause-goes : goal.returns-in-Kept-clause-goes
returns-in-Kept-clause-goes c =
    ok_more c.start_kept.result _ _
    (λ g other from h. g (Connection other) from (subst (λ (d : code.Pool). Reaches (Connection other) from (pool_in d)) (sym c.restart.ensures.pool) (reaches_turn (Connection other) from _ _ _ _ _ c.in_ok-hold.ensures.turns tt h)))
    c.start_kept.ensures.goes

pub returns-in-NotKept-clause-goes : goal.returns-in-NotKept-clause-goes
returns-in-NotKept-clause-goes c = ok_more c.replace.result _ _ (λ g other from h. g other from (reaches_turn (Connection other) from _ _ _ _ _ c.in_ok-hold.ensures.turns tt h)) c.replace.ensures.goes

pub returns-in-Kept-clause-moves : goal.returns-in-Kept-clause-moves
returns-in-Kept-clause-moves c =
    ok_more c.start_kept.result _ _
    (λ m asks from h. m (Connection c.args.number) from (moves_same (Connection c.args.number) from _ _ _ _ (ap pool_in c.restart.ensures.pool) c.restart.ensures.ends (moves_does (Connection c.args.number) from _ _ _ _ _ _ _ c.in_ok-hold.ensures.turns (refl, asks) tt refl h)))
    c.start_kept.ensures.moves

pub returns-in-NotKept-clause-moves : goal.returns-in-NotKept-clause-moves
returns-in-NotKept-clause-moves c = ok_more c.replace.result _ _ (λ m asks from h. m from (moves_does (Connection c.args.number) from _ _ _ _ _ _ _ c.in_ok-hold.ensures.turns (refl, asks) tt refl h)) c.replace.ensures.moves

pub returns-in-Kept-clause-read : goal.returns-in-Kept-clause-read
returns-in-Kept-clause-read c = stays_on c.start_kept.result _ _ _ c.restart.ensures.read c.start_kept.ensures.read

pub returns-in-Kept-clause-stand : goal.returns-in-Kept-clause-stand
returns-in-Kept-clause-stand c = stand_on c.start_kept.result _ _ _ (stand_at _ _ _ c.in_ok-hold.ensures.stand c.restart.ensures.pool) c.start_kept.ensures.stand

pub returns-in-NotKept-clause-stand : goal.returns-in-NotKept-clause-stand
returns-in-NotKept-clause-stand c = stand_on c.replace.result _ _ _ c.in_ok-hold.ensures.stand c.replace.ensures.stand

pub returns-in-Kept-clause-bodies : goal.returns-in-Kept-clause-bodies
returns-in-Kept-clause-bodies c = λ reached.
    let there : IsReached (pool_in c.restart.new.self.pool) =
    reached_on (Connection c.args.number) (pool_in c.args.self.now.pool) (pool_in c.restart.new.self.pool)
    (λ from h. subst (λ (d : code.Pool). Reaches (Connection c.args.number) from (pool_in d)) (sym c.restart.ensures.pool) (reaches_turn (Connection c.args.number) from _ _ _ _ _ c.in_ok-hold.ensures.turns tt h)) reached in
    along_on c.start_kept.result c.args.self.now c.restart.new.self c.start_kept.new.self (alike_along c.args.self.now c.restart.new.self c.restart.ensures.same)
    (start_along c.start_kept.result c.args.key c.restart.new.self c.start_kept.new.self there c.start_kept.ensures.body c.start_kept.ensures.others)

pub returns-in-NotKept-clause-bodies : goal.returns-in-NotKept-clause-bodies
returns-in-NotKept-clause-bodies c = λ reached.
    along_on c.replace.result c.args.self.now _ c.replace.new.self (alike_along c.args.self.now _ refl)
    (c.replace.ensures.bodies
    (reached_on (Connection c.args.number) (pool_in c.args.self.now.pool) _ (λ from h. reaches_turn (Connection c.args.number) from _ _ _ _ _ c.in_ok-hold.ensures.turns tt h) reached))

pub returns-in-Kept-clause-ordered : goal.returns-in-Kept-clause-ordered
returns-in-Kept-clause-ordered c = ordered_on c.start_kept.result _ _ _ c.start_kept.ensures.ordered (ordered_same _ _ c.restart.ensures.orders)

pub returns-in-Kept-clause-closes : goal.returns-in-Kept-clause-closes
returns-in-Kept-clause-closes c = λ asks.
    let old = c.args.self.now in
    let key = c.args.key in
    let at = c.restart.new.self in
    closes_first c.start_kept.result (ResumesNotAt c.args.number key old) _ _ _
    (closes_more_on c.start_kept.result (ItselfFor key (IsUnheldOrTurnedAway key at)) (ResumesNotAt c.args.number key old) _ _
    (λ other e. resumes_for c.args.number key other old e.0 asks (Unserved c.renew.new.self (subst (λ (r : Renewed). IsKeptBy r key (pool_in old.pool)) c.in-Kept.is c.in_ok-hold.ensures.keeps) c.in_ok-hold.ensures.turns.pool_is
    (turned_with key at old c.renew.new.self old.links.items c.restart.ensures.pool (ap ends_in c.restart.ensures.same) (λ k goes. ap (λ (s : Slab an.Application). body_in (get s k) goes) c.restart.ensures.same)
    (as_seen old.links.items at.links.items c.restart.ensures.queues c.restart.ensures.read.seen) (renewed_held key old.pool c.renew.new.self at c.in-Kept.hold (subst (λ (r : Renewed). IsRenewed r key old.pool c.renew.new.self) c.in-Kept.is c.in_ok-hold.ensures.is) c.restart.ensures.pool e.1)))) c.start_kept.ensures.closes) c.restart.ensures.closes

pub returns-in-NotKept-clause-closes : goal.returns-in-NotKept-clause-closes
returns-in-NotKept-clause-closes c = λ asks.
    let old = c.args.self.now in
    let key = c.args.key in
    let is = subst (λ (r : Renewed). IsRenewed r key old.pool c.renew.new.self) c.in-NotKept.is c.in_ok-hold.ensures.is in
    closes_more_on c.replace.result _ (ResumesNotAt c.args.number key old) _ _
    (λ other e. stays_for c.args.number key other old (pool_in c.renew.new.self) asks is (sym c.in_ok-hold.ensures.turns.pool_is ∙ is) (cases_eq other key) e) c.replace.ensures.closes

pub returns-in-Kept-clause-spares : goal.returns-in-Kept-clause-spares
returns-in-Kept-clause-spares c = λ reached.
    let old = core_in c.args.self.now in
    let mid = core_in c.restart.new.self in
    let new = core_in c.start_kept.new.self in
    spares_on c.start_kept.result c.args.number (Some c.args.key) old mid new
    (spares_renewed c.args.number c.args.key true old mid reached (ap pool_in c.restart.ensures.pool ∙ c.in_ok-hold.ensures.turns.pool_is) c.restart.ensures.ends)
    (spares_alone_on c.start_kept.result c.args.number c.args.key mid new c.start_kept.ensures.alone c.start_kept.ensures.moves)

pub returns-in-NotKept-clause-spares : goal.returns-in-NotKept-clause-spares
returns-in-NotKept-clause-spares c = λ reached.
    let old = core_in c.args.self.now in
    let mid = core_of_ends (pool_in c.renew.new.self) (ends_in c.args.self.now.applications) in
    let new = core_in c.replace.new.self in
    let there : IsReached (pool_in c.renew.new.self) =
    reached_on (Connection c.args.number) (pool_in c.args.self.now.pool) (pool_in c.renew.new.self) (λ from h. reaches_turn (Connection c.args.number) from _ _ _ _ _ c.in_ok-hold.ensures.turns tt h) reached in
    spares_on c.replace.result c.args.number (Some c.args.key) old mid new
    (spares_renewed c.args.number c.args.key true old mid reached c.in_ok-hold.ensures.turns.pool_is refl)
    (ok_more c.replace.result _ _ (λ h. spares_none c.args.number (Some c.args.key) mid new h) (c.replace.ensures.spares there))

pub returns-in-Kept-clause-begins : goal.returns-in-Kept-clause-begins
returns-in-Kept-clause-begins c = any_kept c.start_kept.result _ _ _ c.restart.ensures.any c.start_kept.ensures.answers

pub returns-in-Kept-clause-seated : goal.returns-in-Kept-clause-seated
returns-in-Kept-clause-seated c = λ s.
    c.start_kept.ensures.seated (pool_lasting c.renew.new.self c.args.self.now.links.items c.restart.new.self c.restart.ensures.pool c.restart.ensures.lasts c.restart.ensures.read (renewed_on c.args.key true c.args.self.now.pool c.renew.new.self _ _ c.args.self.now.links.items c.in_ok-hold.ensures.turns s (renews_keep _ (renewals.Kept c.in-Kept.hold) _ _ c.in-Kept.is (c.in_ok-hold.ensures.seats s.reached))))

pub returns-in-NotKept-clause-seated : goal.returns-in-NotKept-clause-seated
returns-in-NotKept-clause-seated c = λ s.
    c.replace.ensures.seated (renewed_on c.args.key true c.args.self.now.pool c.renew.new.self _ _ c.args.self.now.links.items c.in_ok-hold.ensures.turns s (renews_keep _ (renewals.NotKept) _ _ c.in-NotKept.is (c.in_ok-hold.ensures.seats s.reached)))

pub returns-in-Kept-clause-apart : goal.returns-in-Kept-clause-apart
returns-in-Kept-clause-apart c =
    others_off_on c.start_kept.result c.args.number c.args.key c.args.self.now c.start_kept.new.self
    (λ reached.
    let led = reached_turn _ _ _ _ _ c.in_ok-hold.ensures.turns reached in
    others_on c.start_kept.result c.args.key c.args.self.now c.restart.new.self c.start_kept.new.self (c.start_kept.ensures.others (subst (λ (d : code.Pool). IsReached (pool_in d)) (sym c.restart.ensures.pool) led))
    (others_both c.args.key c.args.self.now _ c.restart.new.self (done_as c.args.key c.args.self.now _ reached c.in_ok-hold.ensures.others refl (λ k goes. refl)) (all_others c.args.key _ c.restart.new.self c.restart.ensures.rests)))

pub returns-in-NotKept-clause-apart : goal.returns-in-NotKept-clause-apart
returns-in-NotKept-clause-apart c =
    renewed_off c.replace.result c.args.number c.args.key true c.args.self.now _ c.replace.new.self (λ reached. done_as c.args.key c.args.self.now _ reached c.in_ok-hold.ensures.others refl (λ k goes. refl))
    c.in_ok-hold.ensures.turns refl (off_more c.replace.result c.args.number (Some c.args.key) _ c.replace.new.self c.replace.ensures.apart)

pub returns-in-Kept-clause-keeps : goal.returns-in-Kept-clause-keeps
returns-in-Kept-clause-keeps c = λ reached.
    let old = c.args.self.now in
    let at = c.restart.new.self in
    let key = c.args.key in
    let led = reached_turn _ _ _ _ _ c.in_ok-hold.ensures.turns reached in
    let is = subst (λ (r : Renewed). IsRenewed r key old.pool c.renew.new.self) c.in-Kept.is c.in_ok-hold.ensures.is in
    let number = c.in-Kept.hold.number in
    let its : key_of (find_number number c.renew.new.self.holds.items) ≡ Some key =
    ap (λ (hs : List Hold). key_of (find_number number hs)) is.3 ∙ ap key_of (last_found c.in-Kept.hold _ (subst Apart is.3 (apart_at (pool_in c.renew.new.self) led))) ∙ ap (λ (k : ℕ). Some k) is.2 in
    first_its c.start_kept.result c.args.number key old c.start_kept.new.self
    (keeps_on c.start_kept.result key old.pool.holds.items at.pool.holds.items c.start_kept.new.self.pool.holds.items old.links.items at.links.items c.start_kept.new.self.links.items
    (subst (λ (d : code.Pool). OthersKeep key old.pool.holds.items old.links.items d.holds.items at.links.items) (sym c.restart.ensures.pool)
    (keeps_both key old.pool.holds.items c.renew.new.self.holds.items c.renew.new.self.holds.items old.links.items old.links.items at.links.items
    (λ n differs. (renew_keeps (pool_in old.pool) key n reached differs (pool_in c.renew.new.self) true c.in_ok-hold.ensures.turns.pool_is, refl))
    (begun_aside key number c.renew.new.self.holds.items old.links.items at.links.items its (begun_own number old.links.items at.links.items c.restart.ensures.queues c.restart.ensures.others))))
    (aside_own c.start_kept.result key at c.start_kept.new.self (c.start_kept.ensures.own (subst (λ (d : code.Pool). IsReached (pool_in d)) (sym c.restart.ensures.pool) led))))

pub returns-in-NotKept-clause-keeps : goal.returns-in-NotKept-clause-keeps
returns-in-NotKept-clause-keeps c = λ reached.
    let old = c.args.self.now in
    let is = subst (λ (r : Renewed). IsRenewed r c.args.key old.pool c.renew.new.self) c.in-NotKept.is c.in_ok-hold.ensures.is in
    let mid = record old { pool = c.renew.new.self } in
    first_as c.replace.result c.args.number (Some c.args.key) old c.replace.new.self
    (first_then_on c.replace.result c.args.number old mid c.replace.new.self (first_same (Here c.args.number) old mid (ap (λ (x : Pool). x.holds) is) refl) c.replace.ensures.keeps)

pub returns-in-Kept-clause-rests : goal.returns-in-Kept-clause-rests
returns-in-Kept-clause-rests c = λ reached.
    let old = c.args.self.now in
    let at = c.restart.new.self in
    let key = c.args.key in
    let led = reached_turn _ _ _ _ _ c.in_ok-hold.ensures.turns reached in
    waiting_on c.start_kept.result c.args.number key old at c.start_kept.new.self
    (waiting_renewed c.args.number key true old c.renew.new.self at reached c.in_ok-hold.ensures.turns.pool_is c.restart.ensures.pool (c.restart.ensures.waits c.args.number) c.restart.ensures.same)
    (waiting_starts c.start_kept.result c.args.number key at c.start_kept.new.self (c.start_kept.ensures.own (subst (λ (d : code.Pool). IsReached (pool_in d)) (sym c.restart.ensures.pool) led)) c.start_kept.ensures.alone c.start_kept.ensures.body c.start_kept.ensures.puts c.start_kept.ensures.stays)

pub returns-in-NotKept-clause-rests : goal.returns-in-NotKept-clause-rests
returns-in-NotKept-clause-rests c = λ reached. waiting_free_on c.replace.result c.args.number c.args.key c.args.self.now c.replace.new.self c.replace.ensures.frees

pub returns-in-Kept-clause-still : goal.returns-in-Kept-clause-still
returns-in-Kept-clause-still c = still_asked c.start_kept.result _ c.args.self.now.links.items c.restart.new.self.links.items c.start_kept.new.self.links.items c.restart.ensures.read c.restart.ensures.waits c.start_kept.ensures.shut

pub returns-in-NotKept-clause-still : goal.returns-in-NotKept-clause-still
returns-in-NotKept-clause-still c = c.replace.ensures.still

pub returns-in-Kept-clause-asks : goal.returns-in-Kept-clause-asks
returns-in-Kept-clause-asks c = ask_same c.start_kept.result c.args.self.now.applications c.restart.new.self.applications c.start_kept.new.self.applications c.restart.ensures.same c.start_kept.ensures.asks
